-- Rows that the strict profile leaves as they are.
use Rattle.std.proofs.Common.{◌≡◌, Bool, true, false, List, Ok, refl, sym, subst}
use Rattle.jl_base.specs.Results.{◌>>=◌, refuse_if}
use Rattle.jl_base.specs.declared.kind.Kind.TheVariants.{WrongRow}
use Rattle.jl_base.specs.Terms.{Item}
use Rattle.jl_rows.specs.Written.{StreamOptions, Term, Row}
use Rattle.jl_rows.specs.History.{History}
use Rattle.jl_rows.specs.Values.{Position}
use Rattle.jl_rows.specs.Decoder.{guarded, row_guarded, read_under, is_wrong_row, said_after, meaning}
use Rattle.jl_encoding.specs.Items.{under, AllowsAll}

module _ (o : StreamOptions) (allows : AllowsAll o) where
  -- the two flags, as they are tested
  any : o.generalized ≡ true
  any = allows.generalized

  star : o.star ≡ true
  star = allows.star

  term_kept : (x : Position) (t : Term) → guarded (under true o) x t ≡ t
  term_kept x Term.Unset = refl
  term_kept x (Term.Iri i) = refl
  term_kept x (Term.Bnode label) = rw any refl
  term_kept x (Term.Literal lex e) = rw any refl
  term_kept x (Term.Nested a b c) = rw (star, any, term_kept Position.Subject a, term_kept Position.Predicate b, term_kept Position.Object c) refl
  term_kept x Term.Default = rw any refl
  term_kept x (Term.Refused kind) = refl

  row_kept : (r : Row) → row_guarded (under true o) r ≡ r
  row_kept (Row.Options p) = refl
  row_kept (Row.Entry t id text) = refl
  row_kept Row.GraphEnd = refl
  row_kept (Row.GraphStart g) = rw (term_kept Position.Graph g) refl
  row_kept (Row.Namespace name i) = refl
  row_kept (Row.Triple s p ob) = rw (term_kept Position.Subject s, term_kept Position.Predicate p, term_kept Position.Object ob) refl
  row_kept (Row.Quad s p ob g) = rw (term_kept Position.Subject s, term_kept Position.Predicate p, term_kept Position.Object ob, term_kept Position.Graph g) refl

read_kept : (strict : Bool) (o : StreamOptions) → (strict ≡ true → AllowsAll o) → (r : Row) → read_under (under strict o) r ≡ r
read_kept true o allows r = row_kept o (allows refl) r
read_kept false o allows r = refl

-- so it means what its terms say
pub means_kept : (strict : Bool) (o : StreamOptions) → (strict ≡ true → AllowsAll o) → (r : Row) (K : History) (is : List Item) → (refuse_if (is_wrong_row (under strict o) r) WrongRow >>= λ _. said_after (under strict o) r K) ≡ Ok is
    → meaning (under strict o) r K ≡ Ok is
means_kept strict o allows r K is says = subst (λ (q : Row). (refuse_if (is_wrong_row (under strict o) r) WrongRow >>= λ _. said_after (under strict o) q K) ≡ Ok is) (sym (read_kept strict o allows r)) says
