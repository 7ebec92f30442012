-- Entries only come to an item's rows, so their bytes don't get fewer; an entry has at least its text's.
use Rattle.std.proofs.Common.{◌≡◌, ℕ, ◌+◌, ◌≤◌, ◌==◌, ◌&&◌, Bool, true, false, List, [], ◌∷◌, ◌++◌, length, reverse, Option, Some, None, Ok, if◌then◌else◌, ap, ◌∙◌, subst, arith, length-append}
use mathlib.Core.List.{reverse_aux}
use Rattle.jl_base.specs.Results.{◌>>=◌}
use Rattle.jl_base.specs.Terms.{Tail, Value}
use Rattle.jl_rows.specs.declared.message.Message.{Message}
use Rattle.jl_rows.specs.declared.row.Table.{Table}
use Rattle.jl_rows.specs.Written.{StreamOptions, Ids, Ending, Term, Row}
use Rattle.jl_rows.specs.History.{History, prefix_id}
use Rattle.jl_rows.specs.Values.{Position, last_term}
use Rattle.jl_rows.proofs.Binding.{bound}
use Rattle.jl_spell.specs.Fields.{Bytes, front_of, field_of}
use Rattle.jl_spell.specs.Messages.{message_of, unless_0, unless_empty}
use Rattle.jl_spell.specs.Rows.{number, bytes, entry_number, row_of}
use Rattle.jl_spell.specs.Frames.{body_of}
use Rattle.jl_spell.proofs.Parts.{entry_parts}
use Rattle.jl_encoding.specs.Sameness.{is_value}
use Rattle.jl_encoding.specs.Splits.{prefix_of, name_of}
use Rattle.jl_encoding.specs.Slots.{State, holder, next_slot, with_claim, with_entry, entry_written, used_or_new, put_text}
use Rattle.jl_encoding.specs.Terms.{is_empty, put_prefix, ids_of, with_iri, put_iri, put_tail, put_term, put_at}

-- how many bytes an item's entries take
abbrev pub weight : State → ℕ
weight st = length (body_of st.entries)

field_long : (n : ℕ) (t : List ℕ) → length t ≤ length (field_of n (Bytes t))
unfolding field_of
field_long n t = omega (arith, length-append (front_of n (length t)) t)

text_long : (n : ℕ) (t : List ℕ) → length t ≤ length (unless_empty n t)
text_long n [] = omega arith
text_long n (b ∷ bs) = field_long n (b ∷ bs)

pub entry_long : (t : Table) (id : ℕ) (text : List ℕ) → length text ≤ length (row_of (Row.Entry t id text))
unfolding row_of
entry_long t id text =
    let message = message_of Message.Entry (number id ∷ bytes text ∷ []) in
    let own : length message ≡ length (unless_0 1 id) + length (unless_empty 2 text) = ap length (entry_parts id text) ∙ length-append (unless_0 1 id) (unless_empty 2 text) in
    let inner = text_long 2 text in
    let outer = field_long (entry_number t) message in
    omega (arith, own, inner, outer)

pub row_more : (r : Row) (rs : List Row) → length (row_of r) + length (body_of rs) ≤ length (body_of (r ∷ rs))
row_more r rs =
    let all : length (body_of (r ∷ rs)) ≡ length (field_of 1 (Bytes (row_of r))) + length (body_of rs) = length-append (field_of 1 (Bytes (row_of r))) (body_of rs) in
    let own = field_long 1 (row_of r) in
    omega (arith, all, own)

-- rows take as many bytes in any order
turned_long : (rs qs : List Row) → length (body_of (reverse_aux rs qs)) ≡ length (body_of rs) + length (body_of qs)
turned_long [] qs = omega arith
turned_long (r ∷ rs) qs =
    let rest = turned_long rs (r ∷ qs) in
    let front = length-append (field_of 1 (Bytes (row_of r))) (body_of qs) in
    let all = length-append (field_of 1 (Bytes (row_of r))) (body_of rs) in
    omega (arith, rest, front, all)

pub reverse_long : (rs : List Row) → length (body_of (reverse rs)) ≡ length (body_of rs)
reverse_long rs = let both = turned_long rs [] in omega (arith, both)

module _ (o : StreamOptions) (H : History) where
  -- a new entry has at least its text's bytes
  pub new_weighs : (t : Table) (n : ℕ) (x : List ℕ) (st : State) → weight st + length x ≤ weight (with_claim t n x (with_entry H t n x st))
  new_weighs t n x st = let more = row_more (Row.Entry t (entry_written t n (st.entries ++ H)) x) st.entries in let long = entry_long t (entry_written t n (st.entries ++ H)) x in omega (arith, more, long)

  by_holder : (t : Table) (x : List ℕ) (st : State) (held : Option ℕ) (r : ℕ × State) → used_or_new o H t x st held ≡ Ok r → weight st ≤ weight r.1
  by_holder t x st (Some n) r e =
      let same : ◌≡◌ {A = ℕ × State} (n, with_claim t n x st) r = cc in
      subst (λ (p : ℕ × State). weight st ≤ weight p.1) same (omega arith)
  by_holder t x st None r e =
      let b = bound (next_slot o t st.claims (st.entries ++ H)) (λ (n : ℕ). Ok (n, with_claim t n x (with_entry H t n x st))) r e in
      let same : ◌≡◌ {A = ℕ × State} (b.value, with_claim t b.value x (with_entry H t b.value x st)) r = let h = b.then in cc in
      let more = new_weighs t b.value x st in
      subst (λ (p : ℕ × State). weight st ≤ weight p.1) same (omega (arith, more))

  pub text_weighs : (t : Table) (x : List ℕ) (st : State) (r : ℕ × State) → put_text o H t x st ≡ Ok r → weight st ≤ weight r.1
  unfolding put_text
  text_weighs t x st r e = by_holder t x st (holder o t x (st.entries ++ H)) r e

  pub prefix_weighs : (x : List ℕ) (st : State) (r : ℕ × State) → put_prefix o H x st ≡ Ok r → weight st ≤ weight r.1
  unfolding put_prefix
  prefix_weighs x st r e = by_test (is_empty x && (prefix_id st.seen == 0)) e
    where
      by_test : (b : Bool) → (if b then Ok (0, st) else put_text o H Table.Prefix x st) ≡ Ok r → weight st ≤ weight r.1
      by_test true e =
          let same : ◌≡◌ {A = ℕ × State} (0, st) r = cc in
          subst (λ (p : ℕ × State). weight st ≤ weight p.1) same (omega arith)
      by_test false e = text_weighs Table.Prefix x st r e

  pub iri_weighs : (text : List ℕ) (st : State) (r : Ids × State) → put_iri o H text st ≡ Ok r → weight st ≤ weight r.1
  unfolding put_iri
  iri_weighs text st r e =
      let p = bound (put_prefix o H (prefix_of text) st) (λ (p : ℕ × State). put_text o H Table.Name (name_of text) p.1 >>= λ (n : ℕ × State). Ok (ids_of st.seen p.0 n.0, with_iri (ids_of st.seen p.0 n.0) n.1)) r e in
      let n = bound (put_text o H Table.Name (name_of text) p.value.1) (λ (n : ℕ × State). Ok (ids_of st.seen p.value.0 n.0, with_iri (ids_of st.seen p.value.0 n.0) n.1)) r p.then in
      let same : ◌≡◌ {A = Ids × State} (ids_of st.seen p.value.0 n.value.0, with_iri (ids_of st.seen p.value.0 n.value.0) n.value.1) r = let h = n.then in cc in
      let first = prefix_weighs (prefix_of text) st p.value p.was in
      let second = text_weighs Table.Name (name_of text) p.value.1 n.value n.was in
      subst (λ (q : Ids × State). weight st ≤ weight q.1) same (omega (arith, first, second))

  pub tail_weighs : (tail : Tail) (st : State) (r : Ending × State) → put_tail o H tail st ≡ Ok r → weight st ≤ weight r.1
  unfolding put_tail
  tail_weighs Tail.Simple st r e =
      let same : ◌≡◌ {A = Ending × State} (Ending.Simple, st) r = cc in
      subst (λ (p : Ending × State). weight st ≤ weight p.1) same (omega arith)
  tail_weighs (Tail.Lang tag) st r e =
      let same : ◌≡◌ {A = Ending × State} (Ending.Lang tag, st) r = cc in
      subst (λ (p : Ending × State). weight st ≤ weight p.1) same (omega arith)
  tail_weighs (Tail.Typed iri) st r e =
      let n = bound (put_text o H Table.Datatype iri st) (λ (n : ℕ × State). Ok (Ending.Typed n.0, n.1)) r e in
      let same : ◌≡◌ {A = Ending × State} (Ending.Typed n.value.0, n.value.1) r = let h = n.then in cc in
      subst (λ (p : Ending × State). weight st ≤ weight p.1) same (text_weighs Table.Datatype iri st n.value n.was)

  pub term_weighs : (v : Value) (st : State) (r : Term × State) → put_term o H v st ≡ Ok r → weight st ≤ weight r.1
  unfolding put_term
  term_weighs (Value.Iri text) st r e =
      let i = bound (put_iri o H text st) (λ (i : Ids × State). Ok (Term.Iri i.0, i.1)) r e in
      let same : ◌≡◌ {A = Term × State} (Term.Iri i.value.0, i.value.1) r = let h = i.then in cc in
      subst (λ (p : Term × State). weight st ≤ weight p.1) same (iri_weighs text st i.value i.was)
  term_weighs (Value.Bnode label) st r e =
      let same : ◌≡◌ {A = Term × State} (Term.Bnode label, st) r = cc in
      subst (λ (p : Term × State). weight st ≤ weight p.1) same (omega arith)
  term_weighs (Value.Literal lex tail) st r e =
      let t = bound (put_tail o H tail st) (λ (t : Ending × State). Ok (Term.Literal lex t.0, t.1)) r e in
      let same : ◌≡◌ {A = Term × State} (Term.Literal lex t.value.0, t.value.1) r = let h = t.then in cc in
      subst (λ (p : Term × State). weight st ≤ weight p.1) same (tail_weighs tail st t.value t.was)
  term_weighs (Value.Nested s p ob) st r e =
      let a = bound (put_term o H s st) (λ (a : Term × State). put_term o H p a.1 >>= λ (b : Term × State). put_term o H ob b.1 >>= λ (c : Term × State). Ok (Term.Nested a.0 b.0 c.0, c.1)) r e in
      let b = bound (put_term o H p a.value.1) (λ (b : Term × State). put_term o H ob b.1 >>= λ (c : Term × State). Ok (Term.Nested a.value.0 b.0 c.0, c.1)) r a.then in
      let c = bound (put_term o H ob b.value.1) (λ (c : Term × State). Ok (Term.Nested a.value.0 b.value.0 c.0, c.1)) r b.then in
      let same : ◌≡◌ {A = Term × State} (Term.Nested a.value.0 b.value.0 c.value.0, c.value.1) r = let h = c.then in cc in
      let first = term_weighs s st a.value a.was in
      let second = term_weighs p a.value.1 b.value b.was in
      let third = term_weighs ob b.value.1 c.value c.was in
      subst (λ (q : Term × State). weight st ≤ weight q.1) same (omega (arith, first, second, third))
  term_weighs Value.Default st r e =
      let same : ◌≡◌ {A = Term × State} (Term.Default, st) r = cc in
      subst (λ (p : Term × State). weight st ≤ weight p.1) same (omega arith)

  pub at_weighs : (x : Position) (v : Value) (st : State) (r : Term × State) → put_at o H x v st ≡ Ok r → weight st ≤ weight r.1
  unfolding put_at
  at_weighs x v st r e = by_test (is_value v (last_term x H)) e
    where
      by_test : (b : Bool) → (if b then Ok (Term.Unset, st) else put_term o H v st) ≡ Ok r → weight st ≤ weight r.1
      by_test true e =
          let same : ◌≡◌ {A = Term × State} (Term.Unset, st) r = cc in
          subst (λ (p : Term × State). weight st ≤ weight p.1) same (omega arith)
      by_test false e = term_weighs v st r e
