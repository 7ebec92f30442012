-- A term by the real last ids before it is what its summary says it means.
use Rattle.std.proofs.Common.{◌≡◌, ℕ, ◌+◌, ◌<◌, ◌==◌, min, Bool, true, false, List, ◌++◌, map, Option, Some, None, Ok, refl, ap, sym, subst, ◌∙◌, cond, arith, inl, inr}
use Rattle.std.proofs.lemmas.Bool.{cases_lt}
use Rattle.std.proofs.lemmas.List.{get_or_past, length-map}
use Rattle.jl_base.specs.Results.{◌>>=◌, some_or}
use Rattle.jl_base.specs.Terms.{Value}
use Rattle.jl_base.specs.declared.kind.Kind.TheVariants.{NoEntry}
use Rattle.jl_rows.specs.declared.row.RawTerm.{RawTerm}
use Rattle.jl_rows.specs.declared.row.Table.{Table}
use Rattle.jl_rows.specs.Written.{Ids, Term}
use Rattle.jl_rows.specs.Values.{Slots, prefix_text}
use Rattle.jl_rows.specs.Decoder.{most_entries}
use Rattle.jl_rows.specs.Seen.{term_seen}
use Rattle.jl_state.specs.Extents.{slot_seen}
use Rattle.jl_state.specs.KnownTerms.{known_value}
use Rattle.jl_state.specs.Lawful.{maybe_value}
use Rattle.jl_state.specs.Seen.{tables_seen, slots_seen, AreTables}
use Rattle.jl_state.specs.States as states
use Rattle.jl_state.specs.States.{State, slots_of_tables}
use Rattle.jl_state.specs.Steps.{ids_after}
use Rattle.jl_state.specs.declared.known.Known.{Known}
use Rattle.jl_state.specs.declared.known.Known.TheVariants.{Triple}
use Rattle.jl_state.specs.declared.known.KnownThree.{KnownThree}
use Rattle.jl_state.specs.declared.tables.Tables.{Tables}
use Rattle.jl_sym_laws.specs.RelativeIds as relative
use Rattle.jl_sym_laws.specs.RelativeIds.{real, real_ids, refs_following, refs_written, refs_after}
use Rattle.jl_sym_laws.specs.Summaries.{Written}
use Rattle.jl_sym_laws.specs.Symbols.{found, sym_value, term_written}
use Rattle.jl_sym_laws.specs.Acting.{tables_at, slots_at}
use Rattle.jl_state.proofs.NestedTerms.{value_of_nested}
use Rattle.jl_sym_laws.proofs.Terms.{read_ids}
use Rattle.jl_sym.specs.declared.relative_id.Refs.{Refs}
use Rattle.jl_sym.specs.declared.summary.Left.{Left}
use Rattle.jl_sym.specs.declared.summary.Left.TheVariants as lefts
use Rattle.jl_sym.specs.Seen.{id_seen, refs_seen, left_seen}
use Rattle.jl_apply.specs.declared.incoming.Incoming.{Incoming}
use Rattle.jl_apply.specs.Incoming.{IsIncoming}
use Rattle.jl_apply.specs.Playing.{IsDueBy, IsReadBefore}
use Rattle.jl_apply.specs.Terms.{ids_on, iri_value, last_on, value_on}

-- no slot has an id above all tables
abbrev pub HasFew : Slots → Type 0
HasFew slots = (n : ℕ) → most_entries < n → slots Table.Name n ≡ None

pub tables_few : (bytes : List ℕ) (x : Tables) → AreTables bytes x → HasFew (slots_seen bytes x)
tables_few bytes x h n above =
    let few = h.few in
    let size = length-map x.names.items (slot_seen bytes) in
    get_or_past (map (slot_seen bytes) x.names.items) n None (omega (arith, few, size, above))

-- the same ids, as far as slots go
record AreAlike (i j : Ids) : Type 0 where
  prefix : i.prefix ≡ j.prefix
  name : min i.name (most_entries + 1) ≡ min j.name (most_entries + 1)

same_slot : (slots : Slots) (m n : ℕ) → HasFew slots → min m (most_entries + 1) ≡ min n (most_entries + 1) → slots Table.Name m ≡ slots Table.Name n
same_slot slots m n few e = elim (cases_lt m (most_entries + 1)) [
  | inl below ↦ let same : m ≡ n = omega (arith, below, e) in ap (slots Table.Name) same
  | inr above ↦
      let first : most_entries < m = omega (arith, above) in
      let second : most_entries < n = omega (arith, above, e) in
      few m first ∙ sym (few n second)
]

iri_alike : (slots : Slots) (i j : Ids) → HasFew slots → AreAlike i j → iri_value slots i ≡ iri_value slots j
iri_alike slots i j few h =
    ap (λ (p : ℕ). iri_value slots (record { prefix = p; name = i.name })) h.prefix
    ∙ ap (λ (o : Option (List ℕ)). Value.Iri (found (prefix_text slots j.prefix >>= λ p. some_or o NoEntry >>= λ n. Ok (p ++ n)))) (same_slot slots i.name j.name few h.name)

name_on : (b : Bool) (k m n : ℕ) → min m (most_entries + 1) ≡ min n (most_entries + 1) → min (cond b (min m most_entries + 1) k) (most_entries + 1) ≡ min (cond b (n + 1) k) (most_entries + 1)
name_on true k m n e = omega (arith, e)
name_on false k m n e = refl

alike_on : (k i j : Ids) → AreAlike i j → AreAlike (ids_on k i) (ids_after k j)
alike_on k i j h = record { prefix = ap (λ (p : ℕ). cond (k.prefix == 0) p k.prefix) h.prefix; name = name_on (k.name == 0) k.name i.name j.name h.name }

read_alike : (k i : Ids) (r : relative.Refs) (last : Ids) → AreAlike i (real_ids r last) → AreAlike (ids_on k i) (real_ids (refs_following r (refs_written k)) last)
read_alike k i r last h = subst (AreAlike (ids_on k i)) (sym (read_ids r k last)) (alike_on k i (real_ids r last) h)

last_alike : (t : Term) (i : Ids) (r : relative.Refs) (last : Ids) → AreAlike i (real_ids r last) → AreAlike (last_on t i) (real_ids (refs_after t r) last)
last_alike Term.Unset i r last h = h
last_alike (Term.Iri k) i r last h = read_alike k i r last h
last_alike (Term.Bnode label) i r last h = h
last_alike (Term.Literal lex e) i r last h = h
last_alike (Term.Nested s p o) i r last h =
    last_alike o (last_on p (last_on s i)) (refs_after p (refs_after s r)) last (last_alike p (last_on s i) (refs_after s r) last (last_alike s i r last h))
last_alike Term.Default i r last h = h
last_alike (Term.Refused k) i r last h = h

module _ (slots : Slots) (few : HasFew slots) (last : Ids) where
  value_is : (t : Term) (i : Ids) (r : relative.Refs) → AreAlike i (real_ids r last) → value_on slots i t ≡ sym_value slots last (term_written r t)
  value_is Term.Unset i r h = refl
  value_is (Term.Iri k) i r h = iri_alike slots (ids_on k i) (real_ids (refs_following r (refs_written k)) last) few (read_alike k i r last h)
  value_is (Term.Bnode label) i r h = refl
  value_is (Term.Literal lex e) i r h = refl
  value_is (Term.Nested s p o) i r h =
      let second = last_alike s i r last h in
      let third = last_alike p (last_on s i) (refs_after s r) last second in
      λ k. Value.Nested (value_is s i r h k) (value_is p (last_on s i) (refs_after s r) second k) (value_is o (last_on p (last_on s i)) (refs_after p (refs_after s r)) third k)
  value_is Term.Default i r h = refl
  value_is (Term.Refused kind) i r h = refl

-- a triple term whose three were read one after another
pub nested_is : (bytes : List ℕ) (slots : Slots) (last i j : Ids) (x y z : Term) (three : KnownThree) → i ≡ last_on x last → j ≡ last_on y i
    → known_value bytes three.s ≡ value_on slots last x → known_value bytes three.p ≡ value_on slots i y → known_value bytes three.o ≡ value_on slots j z
    → known_value bytes (Triple three) ≡ value_on slots last (Term.Nested x y z)
nested_is bytes slots last i j x y z three second third s p o =
    let middle : known_value bytes three.p ≡ value_on slots (last_on x last) y = p ∙ ap (λ (d : Ids). value_on slots d y) second in
    let end : known_value bytes three.o ≡ value_on slots (last_on y (last_on x last)) z = o ∙ ap (λ (d : Ids). value_on slots d z) (third ∙ ap (last_on y) second) in
    value_of_nested bytes three ∙ (λ k. Value.Nested (s k) (middle k) (end k))

-- a term that was read at its moment
read_is : (bytes : List ℕ) (x : Tables) (i : Incoming) (s : State) (ws : List Written) (moment : ℕ) (before : Refs) (term : RawTerm) (prefix name : ℕ) (k : Known)
    → IsIncoming i s → AreTables bytes x → tables_at s ws moment ≡ tables_seen bytes x → prefix ≡ real (id_seen before.prefix) i.last.prefix → name ≡ real (id_seen before.name) i.last.name
    → known_value bytes k ≡ value_on (slots_seen bytes x) (record { prefix = prefix; name = name }) (term_seen bytes term)
    → ◌≡◌ {A = Option Value} (Some (known_value bytes k)) (Some (sym_value (slots_at s ws moment) s.ids (term_written (refs_seen before) (term_seen bytes term))))
read_is bytes x i s ws moment before term prefix name k inc tables at p n e =
    let same_prefix : prefix ≡ real (id_seen before.prefix) s.ids.prefix = p ∙ ap (λ (d : Ids). real (id_seen before.prefix) d.prefix) (sym inc.ids) in
    let same_name : name ≡ real (id_seen before.name) s.ids.name = n ∙ ap (λ (d : Ids). real (id_seen before.name) d.name) (sym inc.ids) in
    let alike : AreAlike (record { prefix = prefix; name = name }) (real_ids (refs_seen before) s.ids) = record { prefix = same_prefix; name = ap (λ (m : ℕ). min m (most_entries + 1)) same_name } in
    ap Some
    (e ∙ value_is (slots_seen bytes x) (tables_few bytes x tables) s.ids (term_seen bytes term) (record { prefix = prefix; name = name }) (refs_seen before) alike
    ∙ ap (λ (y : states.Tables). sym_value (slots_of_tables y) s.ids (term_written (refs_seen before) (term_seen bytes term))) (sym at))

pub read_left : (bytes : List ℕ) (x : Tables) (i : Incoming) (left : Left) (old : Option Known) (set moment : ℕ) (before : Refs) (term : RawTerm) (prefix name : ℕ) (k : Known)
    → left ≡ lefts.Set set before term → set ≡ moment → AreTables bytes x → prefix ≡ real (id_seen before.prefix) i.last.prefix → name ≡ real (id_seen before.name) i.last.name
    → known_value bytes k ≡ value_on (slots_seen bytes x) (record { prefix = prefix; name = name }) (term_seen bytes term)
    → (s : State) (ws : List Written) (from : ℕ) → IsIncoming i s → tables_at s ws moment ≡ tables_seen bytes x → IsDueBy from (left_seen bytes left) (Some moment)
    → IsReadBefore s ws from (left_seen bytes left) (maybe_value bytes old) → IsReadBefore s ws (moment + 1) (left_seen bytes left) (Some (known_value bytes k))
read_left bytes x i left old set moment before term prefix name k is same tables p n e s ws from inc at due read =
    let here : tables_at s ws set ≡ tables_seen bytes x = ap (tables_at s ws) same ∙ at in
    subst (λ (l : Left). IsReadBefore s ws (moment + 1) (left_seen bytes l) (Some (known_value bytes k))) (sym is) (λ lt. read_is bytes x i s ws set before term prefix name k inc tables here p n e)
