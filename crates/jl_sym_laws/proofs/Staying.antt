-- Last ids stay those of slots: small step by small step.
use Rattle.std.proofs.Common.{◌≡◌, ℕ, zero, suc, ◌+◌, ◌<◌, ◌==◌, Bool, true, false, List, [], ◌∷◌, ◌++◌, length, Option, Some, None, is_some, Result, Ok, Err, refl, ap, subst, sym, ◌∙◌, cond, arith, nat_lt, inl, inr, get_or}
use Rattle.std.proofs.lemmas.Bool.{cases_lt, eqb-true, ltb-true}
use Rattle.std.proofs.lemmas.List.{get_or_past, get_or-replicate, get_or-set_other, length-set, length-replicate}
use Rattle.jl_base.specs.Results.{◌>>=◌, some_or, refuse_if}
use Rattle.jl_base.specs.Terms.{Value}
use Rattle.jl_base.specs.declared.kind.Kind.{Kind}
use Rattle.jl_base.specs.declared.kind.Kind.TheVariants.{NoEntry, NoTerm, NoGraph, GraphOpen, BadEntry}
use Rattle.jl_base.specs.declared.place.Place.{Place}
use Rattle.jl_base.specs.declared.place.Fault.{Fault}
use Rattle.jl_rows.specs.declared.row.Table.{Table}
use Rattle.jl_rows.specs.Written.{Ids, StreamOptions, Term}
use Rattle.jl_rows.specs.Files.{Placed}
use Rattle.jl_rows.specs.Values.{Position, filled, prefix_text, tail_of}
use Rattle.jl_rows.specs.Decoder.{size_of}
use Rattle.jl_state.specs.States.{Filling, Tables, State, table_of, entry_of, term_of, slots_of_tables, slots_in, opening}
use Rattle.jl_state.specs.Steps.{ids_after, text_at, looked, placed, id_after, entered, step}
use Rattle.jl_state.specs.Running.{at_place, state_of, settled, after_rows}
use Rattle.jl_sym_laws.specs.SmallSteps.{Small, smalls, small_step, with_term}
use Rattle.jl_sym_laws.specs.Staying.{IsSettled, OpeningSettled, RowsSettle, SumsSettle}
use Rattle.jl_sym_laws.proofs.Logs.{put_length}
use Rattle.jl_sym_laws.proofs.RowLaws.{all_steps, step_is}

-- an answer of two steps
record Bound {A B E : Type 0} (x : Result A E) (f : A → Result B E) (y : B) : Type 0 where
  value : A
  was : x ≡ Ok value
  next : f value ≡ Ok y

bound : {A B E : Type 0} (x : Result A E) (f : A → Result B E) (y : B) → (x >>= f) ≡ Ok y → Bound x f y
bound (Ok a) f y e = record { value = a; was = refl; next = e }
bound (Err k) f y e = absurd (cc)

-- ids of slots
abbrev AreSlots : Tables → Ids → Type 0
AreSlots x i = (i.prefix < length x.prefixes) × (i.name < length x.names)

found_in : (xs : Filling) (n : ℕ) (text : List ℕ) → some_or (get_or xs n None) NoEntry ≡ Ok text → n < length xs
found_in xs n text e = elim (cases_lt n (length xs)) [
  | inl lt ↦ lt
  | inr le ↦ let none : some_or {E = Kind} (get_or xs n None) NoEntry ≡ Err NoEntry = ap (λ (o : Option (List ℕ)). some_or o NoEntry) (get_or_past xs n None le) in absurd (let both = sym none ∙ e in cc)
]

prefix_in : (x : Tables) (n : ℕ) (text : List ℕ) → 0 < length x.prefixes → prefix_text (slots_of_tables x) n ≡ Ok text → n < length x.prefixes
prefix_in x n text some e = by (n == 0) refl e where
  by : (b : Bool) → (n == 0) ≡ b → cond b (Ok []) (some_or (get_or x.prefixes n None) NoEntry) ≡ Ok text → n < length x.prefixes
  by true z e = let zero_is : n ≡ 0 = eqb-true n 0 z in omega (arith, zero_is, some)
  by false z e = found_in x.prefixes n text e

text_in_range : (x : Tables) (ids : Ids) (text : List ℕ) → 0 < length x.prefixes → text_at (slots_of_tables x) ids ≡ Ok text → AreSlots x ids
text_in_range x ids text some e =
    let a = bound (prefix_text (slots_of_tables x) ids.prefix) (λ p. filled (slots_of_tables x) Table.Name ids.name >>= λ n. Ok (p ++ n)) text e in
    let b = bound (filled (slots_of_tables x) Table.Name ids.name) (λ n. Ok (a.value ++ n)) text a.next in
    (prefix_in x ids.prefix a.value some a.was, found_in x.names ids.name b.value b.was)

second : {v w : Value × Ids} → ◌≡◌ {A = Result (Value × Ids) Kind} (Ok v) (Ok w) → v.1 ≡ w.1
second {v} {w} e = ap (λ (p : Value × Ids). p.1) (let same : v ≡ w = cc in same)

looked_in : (x : Tables) (last : Ids) (t : Term) (v : Value × Ids) → looked (slots_of_tables x) last t ≡ Ok v → AreSlots x last → AreSlots x v.1
looked_in x last Term.Unset v e h = absurd (cc)
looked_in x last (Term.Iri i) v e h =
    let some : 0 < length x.prefixes = (let p = h.0 in omega (arith, p)) in
    let a = bound {B = Value × Ids} (text_at (slots_of_tables x) (ids_after i last)) (λ t. Ok (Value.Iri t, ids_after i last)) v e in
    subst (AreSlots x) (second {w = v} a.next) (text_in_range x (ids_after i last) a.value some a.was)
looked_in x last (Term.Bnode label) v e h = subst (AreSlots x) (second e) h
looked_in x last (Term.Literal lex end) v e h =
    let a = bound {B = Value × Ids} (tail_of (slots_of_tables x) end) (λ t. Ok (Value.Literal lex t, last)) v e in
    subst (AreSlots x) (second a.next) h
looked_in x last (Term.Nested s p o) v e h =
    let a = bound {A = Value × Ids} {B = Value × Ids} (looked (slots_of_tables x) last s) (λ a. looked (slots_of_tables x) a.1 p >>= λ b. looked (slots_of_tables x) b.1 o >>= λ c. Ok (Value.Nested a.0 b.0 c.0, c.1)) v e in
    let b = bound {A = Value × Ids} {B = Value × Ids} (looked (slots_of_tables x) a.value.1 p) (λ b. looked (slots_of_tables x) b.1 o >>= λ c. Ok (Value.Nested a.value.0 b.0 c.0, c.1)) v a.next in
    let c = bound {A = Value × Ids} {B = Value × Ids} (looked (slots_of_tables x) b.value.1 o) (λ c. Ok (Value.Nested a.value.0 b.value.0 c.0, c.1)) v b.next in
    let whole : Value × Ids = (Value.Nested a.value.0 b.value.0 c.value.0, c.value.1) in
    let same : whole.1 ≡ v.1 = second {v = whole} {w = v} c.next in
    subst (AreSlots x) {x = whole.1} same
    (looked_in x b.value.1 o c.value c.was (looked_in x a.value.1 p b.value b.was (looked_in x last s a.value a.was h)))
looked_in x last Term.Default v e h = subst (AreSlots x) (second e) h
looked_in x last (Term.Refused k) v e h = absurd (cc)

placed_in : (x : Tables) (last : Ids) (before : Option Value) (t : Term) (v : Value × Ids) → placed (slots_of_tables x) last before t ≡ Ok v → AreSlots x last → AreSlots x v.1
placed_in x last before Term.Unset v e h = let a = bound {B = Value × Ids} (some_or before NoTerm) (λ w. Ok (w, last)) v e in subst (AreSlots x) (second a.next) h
placed_in x last before (Term.Iri i) v e h = looked_in x last (Term.Iri i) v e h
placed_in x last before (Term.Bnode label) v e h = looked_in x last (Term.Bnode label) v e h
placed_in x last before (Term.Literal lex end) v e h = looked_in x last (Term.Literal lex end) v e h
placed_in x last before (Term.Nested s p o) v e h = looked_in x last (Term.Nested s p o) v e h
placed_in x last before Term.Default v e h = looked_in x last Term.Default v e h
placed_in x last before (Term.Refused k) v e h = looked_in x last (Term.Refused k) v e h

same_state : {s t : State} → ◌≡◌ {A = Result State Kind} (Ok s) (Ok t) → s ≡ t
same_state e = cc

-- the id of an entry is never 0
entry_above : (n last : ℕ) (b : Bool) → (n == 0) ≡ b → 0 < cond b (last + 1) n
entry_above n last true e = omega arith
entry_above zero last false e = absurd (cc)
entry_above (suc n) last false e = omega arith

module _ (o : StreamOptions) where
  with_ids : (s : State) (x : Position) (v : Value × Ids) → IsSettled o s → AreSlots s.tables v.1 → IsSettled o (with_term x v.0 v.1 s)
  with_ids s Position.Subject v h k = record { sized = record { sizes = h.sized.sizes; zero = h.sized.zero }; name_entry = h.name_entry; prefix_entry = h.prefix_entry; datatype_entry = h.datatype_entry; prefix = k.0; name = k.1 }
  with_ids s Position.Predicate v h k = record { sized = record { sizes = h.sized.sizes; zero = h.sized.zero }; name_entry = h.name_entry; prefix_entry = h.prefix_entry; datatype_entry = h.datatype_entry; prefix = k.0; name = k.1 }
  with_ids s Position.Object v h k = record { sized = record { sizes = h.sized.sizes; zero = h.sized.zero }; name_entry = h.name_entry; prefix_entry = h.prefix_entry; datatype_entry = h.datatype_entry; prefix = k.0; name = k.1 }
  with_ids s Position.Graph v h k = record { sized = record { sizes = h.sized.sizes; zero = h.sized.zero }; name_entry = h.name_entry; prefix_entry = h.prefix_entry; datatype_entry = h.datatype_entry; prefix = k.0; name = k.1 }

  entered_in : (t : Table) (id : ℕ) (text : List ℕ) (s : State) → 0 < id → id < length (table_of s t) → IsSettled o s → IsSettled o (entered t id text s)
  entered_in Table.Name id text s above lt h =
      let same = length-set s.tables.names id (Some text) in
      let last = h.name in
      record {
        sized = record { sizes = λ u. put_length true s.tables Table.Name u id text ∙ h.sized.sizes u; zero = h.sized.zero };
        name_entry = omega (arith, same, lt);
        prefix_entry = h.prefix_entry;
        datatype_entry = h.datatype_entry;
        prefix = h.prefix;
        name = omega (arith, same, last);
      }
  entered_in Table.Prefix id text s above lt h =
      let same = length-set s.tables.prefixes id (Some text) in
      let last = h.prefix in
      record {
        sized = record { sizes = λ u. put_length true s.tables Table.Prefix u id text ∙ h.sized.sizes u; zero = h.sized.zero };
        name_entry = h.name_entry;
        prefix_entry = omega (arith, same, lt);
        datatype_entry = h.datatype_entry;
        prefix = omega (arith, same, last);
        name = h.name;
      }
  entered_in Table.Datatype id text s above lt h =
      let same = length-set s.tables.datatypes id (Some text) in
      let other : 0 ≡ id → ⊥ = λ e. omega (arith, above, e) in
      record {
        sized = record { sizes = λ u. put_length true s.tables Table.Datatype u id text ∙ h.sized.sizes u; zero = get_or-set_other s.tables.datatypes id 0 (Some text) None other ∙ h.sized.zero };
        name_entry = h.name_entry;
        prefix_entry = h.prefix_entry;
        datatype_entry = omega (arith, same, lt);
        prefix = h.prefix;
        name = h.name;
      }

  entry_by : (t : Table) (id : ℕ) (text : List ℕ) (s u : State) (b : Bool) → nat_lt id (length (table_of s t)) ≡ b → 0 < id → cond b (Ok (entered t id text s)) (Err BadEntry) ≡ Ok u → IsSettled o s → IsSettled o u
  entry_by t id text s u true lt above e h = subst (IsSettled o) (same_state e) (entered_in t id text s above (ltb-true id (length (table_of s t)) lt) h)
  entry_by t id text s u false lt above e h = absurd (cc)

  small_settles : (x : Small) (s t : State) → small_step x s ≡ Ok t → IsSettled o s → IsSettled o t
  small_settles (Small.Entry u id text) s t e h =
      entry_by u (id_after id (entry_of s u)) text s t (nat_lt (id_after id (entry_of s u)) (length (table_of s u))) refl (entry_above id (entry_of s u) (id == 0) refl) e h
  small_settles (Small.Places x term) s t e h =
      let a = bound {A = Value × Ids} {B = State} (placed (slots_in s) s.ids (term_of s x) term) (λ v. Ok (with_term x v.0 v.1 s)) t e in
      subst (IsSettled o) (same_state a.next) (with_ids s x a.value h (placed_in s.tables s.ids (term_of s x) term a.value a.was (h.prefix, h.name)))
  small_settles (Small.Reads i) s t e h =
      let some : 0 < length s.tables.prefixes = (let p = h.prefix in omega (arith, p)) in
      let a = bound {B = State} (text_at (slots_in s) (ids_after i s.ids)) (λ _. Ok (record s { ids = ids_after i s.ids })) t e in
      let k = text_in_range s.tables (ids_after i s.ids) a.value some a.was in
      subst (IsSettled o) (same_state a.next)
      (record { sized = record { sizes = h.sized.sizes; zero = h.sized.zero }; name_entry = h.name_entry; prefix_entry = h.prefix_entry; datatype_entry = h.datatype_entry; prefix = k.0; name = k.1 })
  small_settles Small.IsInGraph s t e h = let a = bound {B = State} (some_or s.open_graph NoGraph) (λ _. Ok s) t e in subst (IsSettled o) (same_state a.next) h
  small_settles (Small.Opens g) s t e h =
      let a = bound {B = State} (refuse_if (is_some s.open_graph) GraphOpen) (λ _. looked (slots_in s) s.ids g >>= λ v. Ok (record s { ids = v.1; open_graph = Some v.0 })) t e in
      let b = bound {A = Value × Ids} {B = State} (looked (slots_in s) s.ids g) (λ v. Ok (record s { ids = v.1; open_graph = Some v.0 })) t a.next in
      let k = looked_in s.tables s.ids g b.value b.was (h.prefix, h.name) in
      subst (IsSettled o) (same_state b.next)
      (record { sized = record { sizes = h.sized.sizes; zero = h.sized.zero }; name_entry = h.name_entry; prefix_entry = h.prefix_entry; datatype_entry = h.datatype_entry; prefix = k.0; name = k.1 })
  small_settles Small.Closes s t e h =
      let a = bound {B = State} (some_or s.open_graph NoGraph) (λ _. Ok (record s { open_graph = None })) t e in
      subst (IsSettled o) (same_state a.next)
      (record { sized = record { sizes = h.sized.sizes; zero = h.sized.zero }; name_entry = h.name_entry; prefix_entry = h.prefix_entry; datatype_entry = h.datatype_entry; prefix = h.prefix; name = h.name })
  small_settles (Small.Refuses kind) s t e h = absurd (cc)
  small_settles Small.Ends s t e h = subst (IsSettled o) (same_state e) h

  all_settle : (xs : List Small) (s t : State) → all_steps xs s ≡ Ok t → IsSettled o s → IsSettled o t
  unfolding all_steps
  all_settle [] s t e h = subst (IsSettled o) (same_state e) h
  all_settle (x ∷ xs) s t e h = let a = bound (small_step x s) (λ u. all_steps xs u) t e in all_settle xs a.value t a.next (small_settles x s a.value a.was h)

  at_ok : (place : Place) (r : Result State Kind) (t : State) → at_place place r ≡ Ok t → r ≡ Ok t
  at_ok place (Ok s) t e = cc
  at_ok place (Err k) t e = absurd (cc)

  settled_ok : (fault : Option Fault) (s t : State) → settled fault s ≡ Ok t → s ≡ t
  settled_ok None s t e = cc
  settled_ok (Some fault) s t e = absurd (cc)

  rows_on : (rs : List Placed) (fault : Option Fault) (s t : State) → after_rows o s rs fault ≡ Ok t → IsSettled o s → IsSettled o t
  unfolding after_rows
  rows_on [] fault s t e h = subst (IsSettled o) (settled_ok fault s t e) h
  rows_on (r ∷ rs) fault s t e h =
      let a = bound (at_place r.place (state_of (step o r.row s))) (λ u. after_rows o u rs fault) t e in
      rows_on rs fault a.value t a.next (all_settle (smalls o r.row) s a.value (step_is o r.row s ∙ at_ok r.place (state_of (step o r.row s)) a.value a.was) h)

pub rows_settle : RowsSettle
rows_settle o R s t h e = rows_on o R.items R.fault s t e h

pub sums_settle : SumsSettle
sums_settle o R m acts s t h e = rows_settle o R s t h (sym (acts s h.sized) ∙ e)

size_is : (o : StreamOptions) (t : Table) → length (table_of (opening o) t) ≡ size_of o t + 1
size_is o Table.Name = length-replicate {A = Option (List ℕ)} (o.names + 1) None
size_is o Table.Prefix = length-replicate {A = Option (List ℕ)} (o.prefixes + 1) None
size_is o Table.Datatype = length-replicate {A = Option (List ℕ)} (o.datatypes + 1) None

pub opening_settled : OpeningSettled
opening_settled o =
    let names = size_is o Table.Name in
    let prefixes = size_is o Table.Prefix in
    let datatypes = size_is o Table.Datatype in
    let some : 0 < o.datatypes + 1 = omega arith in
    record {
      sized = record { sizes = size_is o; zero = get_or-replicate (o.datatypes + 1) 0 None None some };
      name_entry = omega (arith, names);
      prefix_entry = omega (arith, prefixes);
      datatype_entry = omega (arith, datatypes);
      prefix = omega (arith, prefixes);
      name = omega (arith, names);
    }
