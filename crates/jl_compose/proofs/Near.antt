-- Numbers that are one id of a table, or both none of it: a table can't tell them apart.
use Rattle.std.proofs.Common.{◌≡◌, ℕ, ◌+◌, ◌<◌, ◌≤◌, ◌⊎◌, List, ◌++◌, length, Option, Some, None, Result, Ok, Err, refl, ap, sym, ◌∙◌, arith, nat_lt, le-ltb, inl, inr, ne_eqb}
use Rattle.std.proofs.lemmas.Bool.{cases_lt}
use Rattle.std.proofs.lemmas.List.{get_or_past, set_past}
use Rattle.jl_base.specs.Results.{◌>>=◌, some_or}
use Rattle.jl_base.specs.Terms.{Value}
use Rattle.jl_base.specs.declared.kind.Kind.{Kind}
use Rattle.jl_base.specs.declared.kind.Kind.TheVariants.{NoEntry}
use Rattle.jl_rows.specs.declared.row.Table.{Table}
use Rattle.jl_rows.specs.Written.{Ids, Term}
use Rattle.jl_state.specs.States.{Tables, table_in, slots_of_tables}
use Rattle.jl_state.specs.Steps.{text_at}
use Rattle.jl_sym_laws.specs.RelativeIds.{Id, real, Refs, real_ids, following, refs_following, refs_written, refs_after}
use Rattle.jl_sym_laws.specs.Symbols.{found, sym_value, term_written}
use Rattle.jl_sym_laws.specs.Acting.{filled_in, text_in}
use Rattle.jl_sym_laws.proofs.Ids.{real_following}
use Rattle.jl_compose.specs.Narrowing.{no_id, narrow, narrow_refs}

-- in a table of so many slots
abbrev pub IsNear : ℕ → ℕ → ℕ → Type 0
IsNear size n m = (n ≡ m) ⊎ ((size ≤ n) × (size ≤ m))

near_more : (size n m k : ℕ) → IsNear size n m → IsNear size (n + k) (m + k)
near_more size n m k (inl e) = inl (ap (λ (j : ℕ). j + k) e)
near_more size n m k (inr p) =
    let first = p.0 in
    let second = p.1 in
    inr (omega (arith, first), omega (arith, second))

near_real : (size n m : ℕ) (i : Id) → IsNear size n m → IsNear size (real i n) (real i m)
near_real size n m (Id.Given k) h = inl refl
near_real size n m (Id.After k) h = near_more size n m k h

near_along : (size n m n' m' : ℕ) → n ≡ n' → m ≡ m' → IsNear size n' m' → IsNear size n m
near_along size n m n' m' e f (inl h) = inl (e ∙ h ∙ sym f)
near_along size n m n' m' e f (inr p) =
    let first = p.0 in
    let second = p.1 in
    inr (omega (arith, first, e), omega (arith, second, f))

pub near_same : (size n m : ℕ) → IsNear size n m → m < size → n ≡ m
near_same size n m (inl e) lt = e
near_same size n m (inr p) lt = let second = p.1 in absurd (omega (arith, second, lt))

-- a narrow id against the whole one, where tables are no larger than numbers
real_same : (i : Id) (last size : ℕ) → size ≤ no_id → real i last < size → real (narrow i) last ≡ real i last
real_same (Id.Given n) last size few lt = omega (arith, few, lt)
real_same (Id.After k) last size few lt = omega (arith, few, lt)

real_above : (i : Id) (last size : ℕ) → size ≤ no_id → size ≤ real i last → size ≤ real (narrow i) last
real_above (Id.Given n) last size few le = omega (arith, few, le)
real_above (Id.After k) last size few le = omega (arith, few, le)

pub near_narrow : (i : Id) (last size : ℕ) → size ≤ no_id → IsNear size (real (narrow i) last) (real i last)
near_narrow i last size few = elim (cases_lt (real i last) size) [
  | inl lt ↦ inl (real_same i last size few lt)
  | inr le ↦ inr (real_above i last size few le, le)
]

-- tables with few slots
abbrev pub AreFew : Tables → Type 0
AreFew x = (t : Table) → (0 < length (table_in x t)) × (length (table_in x t) ≤ no_id)

fill_past : (x : Tables) (t : Table) (n : ℕ) (text : List ℕ) → length (table_in x t) ≤ n → filled_in x t n text ≡ x
fill_past x Table.Name n text le = λ i. record x { names = set_past x.names n (Some text) le i }
fill_past x Table.Prefix n text le = λ i. record x { prefixes = set_past x.prefixes n (Some text) le i }
fill_past x Table.Datatype n text le = λ i. record x { datatypes = set_past x.datatypes n (Some text) le i }

pub fill_near : (x : Tables) (t : Table) (n m : ℕ) (text : List ℕ) → IsNear (length (table_in x t)) n m → filled_in x t n text ≡ filled_in x t m text
fill_near x t n m text (inl e) = ap (λ (k : ℕ). filled_in x t k text) e
fill_near x t n m text (inr p) = fill_past x t n text p.0 ∙ sym (fill_past x t m text p.1)

text_past : (x : Tables) (t : Table) (n : ℕ) → 0 < length (table_in x t) → length (table_in x t) ≤ n → text_in (slots_of_tables x) t n ≡ Err NoEntry
text_past x Table.Name n some le = ap (λ (o : Option (List ℕ)). some_or o NoEntry) (get_or_past x.names n None le)
text_past x Table.Prefix n some le =
    let no_zero : n ≡ 0 → ⊥ = λ e. omega (arith, some, le, e) in
    rw (ne_eqb n 0 no_zero) (ap (λ (o : Option (List ℕ)). some_or o NoEntry) (get_or_past x.prefixes n None le))
text_past x Table.Datatype n some le = ap (λ (o : Option (List ℕ)). some_or o NoEntry) (get_or_past x.datatypes n None le)

pub text_near : (x : Tables) (t : Table) (n m : ℕ) → 0 < length (table_in x t) → IsNear (length (table_in x t)) n m → text_in (slots_of_tables x) t n ≡ text_in (slots_of_tables x) t m
text_near x t n m some (inl e) = ap (text_in (slots_of_tables x) t) e
text_near x t n m some (inr p) = text_past x t n some p.0 ∙ sym (text_past x t m some p.1)

pub fits_near : (size n m : ℕ) → IsNear size n m → nat_lt n size ≡ nat_lt m size
fits_near size n m (inl e) = ap (λ (k : ℕ). nat_lt k size) e
fits_near size n m (inr p) = le-ltb _ _ p.0 ∙ sym (le-ltb _ _ p.1)

-- the last ids before a term
pub record AreNear (x : Tables) (i j : Ids) : Type 0 where
  pub prefix : IsNear (length x.prefixes) i.prefix j.prefix
  pub name : IsNear (length x.names) i.name j.name

near_following : (size last : ℕ) (r q w : Id) → IsNear size (real r last) (real q last) → IsNear size (real (following r w) last) (real (following q w) last)
near_following size last r q w h = near_along size _ _ _ _ (real_following r w last) (real_following q w last) (near_real size (real r last) (real q last) w h)

module _ (x : Tables) (last : Ids) where
  refs_near : (r q w : Refs) → AreNear x (real_ids r last) (real_ids q last) → AreNear x (real_ids (refs_following r w) last) (real_ids (refs_following q w) last)
  refs_near r q w h = record {
    prefix = near_following (length x.prefixes) last.prefix r.prefix q.prefix w.prefix h.prefix;
    name = near_following (length x.names) last.name r.name q.name w.name h.name;
  }

  after_near : (r q : Refs) (t : Term) → AreNear x (real_ids r last) (real_ids q last) → AreNear x (real_ids (refs_after t r) last) (real_ids (refs_after t q) last)
  after_near r q Term.Unset h = h
  after_near r q (Term.Iri i) h = refs_near r q (refs_written i) h
  after_near r q (Term.Bnode label) h = h
  after_near r q (Term.Literal lex e) h = h
  after_near r q (Term.Nested a b c) h =
      after_near (refs_after b (refs_after a r)) (refs_after b (refs_after a q)) c (after_near (refs_after a r) (refs_after a q) b (after_near r q a h))
  after_near r q Term.Default h = h
  after_near r q (Term.Refused k) h = h

  iri_near : (i j : Ids) → AreFew x → AreNear x i j → text_at (slots_of_tables x) i ≡ text_at (slots_of_tables x) j
  iri_near i j few h =
      λ k. text_near x Table.Prefix i.prefix j.prefix (few Table.Prefix).0 h.prefix k >>= λ p. text_near x Table.Name i.name j.name (few Table.Name).0 h.name k >>= λ n. Ok (p ++ n)

  -- a term after last ids that the tables can't tell apart
  pub value_near : (r q : Refs) (t : Term) → AreFew x → AreNear x (real_ids r last) (real_ids q last) → sym_value (slots_of_tables x) last (term_written r t) ≡ sym_value (slots_of_tables x) last (term_written q t)
  value_near r q Term.Unset few h = refl
  value_near r q (Term.Iri i) few h =
      ap (λ (t : Result (List ℕ) Kind). Value.Iri (found t)) (iri_near (real_ids (refs_following r (refs_written i)) last) (real_ids (refs_following q (refs_written i)) last) few (refs_near r q (refs_written i) h))
  value_near r q (Term.Bnode label) few h = refl
  value_near r q (Term.Literal lex e) few h = refl
  value_near r q (Term.Nested a b c) few h =
      let second = after_near r q a h in
      let third = after_near (refs_after a r) (refs_after a q) b second in
      λ j. Value.Nested (value_near r q a few h j) (value_near (refs_after a r) (refs_after a q) b few second j) (value_near (refs_after b (refs_after a r)) (refs_after b (refs_after a q)) c few third j)
  value_near r q Term.Default few h = refl
  value_near r q (Term.Refused k) few h = refl

pub narrow_near : (x : Tables) (last : Ids) (r : Refs) → AreFew x → AreNear x (real_ids (narrow_refs r) last) (real_ids r last)
narrow_near x last r few = record {
  prefix = near_narrow r.prefix last.prefix (length x.prefixes) (few Table.Prefix).1;
  name = near_narrow r.name last.name (length x.names) (few Table.Name).1;
}
