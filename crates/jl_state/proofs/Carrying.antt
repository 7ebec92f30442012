-- A state whose texts are carried into other bytes, one after another.
use Rattle.std.proofs.Common.{◌≡◌, ℕ, ◌+◌, ◌*◌, ◌/◌, ◌^◌, ◌<◌, ◌==◌, List, [], ◌∷◌, ◌++◌, length, map, take, slice_index_or, Option, Some, None, Result, Ok, Err, IfOk, refl, sym, ◌∙◌, ap, subst, arith, append_assoc, append-nil, take_at, length-append, inl, inr, if◌then◌else◌}
use Rattle.std.proofs.lemmas.Bool.{cases_lt}
use Rattle.std.proofs.lemmas.List.{take_more, map_push, flat_map_more, get_or_append_left, get_or_at, length-map}
use Rattle.jl_wire.proofs.Ranges.{length-range}
use Rattle.jl_state.specs.declared.extent.Extent.{Extent}
use Rattle.jl_state.specs.declared.known.Known.{Known}
use Rattle.jl_state.specs.declared.known.KnownTail.{KnownTail}
use Rattle.jl_state.specs.declared.known.KnownTail.TheVariants as tails
use Rattle.jl_state.specs.declared.known.KnownThree.{KnownThree}
use Rattle.jl_state.specs.declared.known.Known.TheVariants as known
use Rattle.jl_state.specs.Extents.{place_of, mark_of, text_in, slot_seen, unfilled_len, IsFilled, IsHeld, IsMark, IsSound, AreSound}
use Rattle.jl_state.specs.KnownTerms.{known_value, tail_value}
use Rattle.jl_base.specs.Terms as terms
use Rattle.jl_state.specs.declared.state.State.{State}
use Rattle.jl_state.specs.Lawful.{maybe_value, IsLawful, HasMaybe}
use Rattle.jl_rows.specs.Carries.{Grows, AreCarried}
use Rattle.jl_rows.specs.Written.{StreamOptions}
use Rattle.jl_state.specs.States as states
use Rattle.jl_state.specs.Texts.{slot_text, table_text, value_text, maybe_text, texts_of}
use Rattle.jl_rows.proofs.Carrying.{grows_then, seam, within}
use Rattle.jl_state.specs.Carries.{CarriesText, CarriesSlot, CarriesSlots, CarriesTail, CarriesTerm, MeansTheSame}
use Rattle.jl_state.proofs.NestedTerms.{value_of_nested, has_nested}
use Rattle.jl_state.proofs.Slots.{filled_seen}

pub text_carried : (from into new : List ℕ) (e e' : Extent) → new ≡ into ++ text_in from e → IsHeld from e → length into < 2 ^ 30 → e'.at ≡ length into + e.at / 2 ^ 30 * 2 ^ 30 → e'.len ≡ e.len → CarriesText from new e e'
text_carried from into new e e' is held small at len bytes g =
    let place : place_of e' ≡ length into = omega (arith, at, small) in
    let mark : mark_of e' ≡ mark_of e = omega (arith, at, small) in
    let size : e'.len ≡ length (text_in from e) = omega (arith, len, length-range from (place_of e) (place_of e + e.len) (omega arith) held) in
    let whole : bytes ≡ (into ++ text_in from e) ++ g.0 = g.1 ∙ ap (λ (x : List ℕ). x ++ g.0) is in
    (seam into (text_in from e) g.0 bytes (place_of e') e'.len place size whole, within into (text_in from e) g.0 bytes (place_of e') e'.len place size whole, mark, len)

pub sound_carried : (from bytes : List ℕ) (e e' : Extent) → text_in bytes e' ≡ text_in from e → IsHeld bytes e' → mark_of e' ≡ mark_of e → IsSound from e → IsSound bytes e'
sound_carried from bytes e e' text held mark sound = record {
  held = held;
  mark = subst (λ (t : List ℕ). IsMark t (mark_of e')) (sym text) (subst (λ (m : ℕ). IsMark (text_in from e) m) (sym mark) sound.mark);
}

abbrev seen_by : ℕ → List ℕ → Option (List ℕ)
seen_by len text = if len == unfilled_len then None else Some text

pub slot_filled : (from into : List ℕ) (e e' : Extent) → CarriesText from into e e' → IsSound from e → CarriesSlot from into e e'
slot_filled from into e e' carried sound bytes g =
    let c = carried bytes g in
    (ap (λ (n : ℕ). seen_by n (text_in bytes e')) c.3 ∙ ap (seen_by e.len) c.0, λ filled. sound_carried from bytes e e' c.0 c.1 c.2 sound)

pub slot_so : {E : Type 0} (from into : List ℕ) (e : Extent) (r : Result Extent E) → IfOk r (CarriesText from into e) → IsSound from e → IfOk r (CarriesSlot from into e)
slot_so from into e (Ok e') carried sound = slot_filled from into e e' carried sound
slot_so from into e (Err x) carried sound = tt

pub slot_unfilled : (from into : List ℕ) (e : Extent) → e.len ≡ unfilled_len → CarriesSlot from into e e
slot_unfilled from into e none bytes g = (rw none refl, λ filled. absurd (filled none))

-- no slots yet, and one more
pub slots_none : (from into : List ℕ) (slots carried : List Extent) → slots ≡ [] → carried ≡ [] → CarriesSlots from into slots carried
slots_none from into slots carried a b bytes g = (rw (a, b) refl, λ id e lt at filled. absurd (omega (arith, lt, ap length b)))

sound_push : (bytes : List ℕ) (es : List Extent) (x : Extent) → AreSound bytes es → (IsFilled x → IsSound bytes x) → AreSound bytes (es ++ x ∷ [])
sound_push bytes es x all one id e lt at filled = elim (cases_lt id (length es)) [
  | inl before ↦ all id e before (sym (get_or_append_left es (x ∷ []) e id before) ∙ at) filled
  | inr last ↦ (
      let here : id ≡ length es = omega (arith, lt, length-append es (x ∷ []), last) in
      let same : x ≡ e = sym (get_or_at es x [] e id (sym here)) ∙ at in
      subst (λ (y : Extent). IsFilled y → IsSound bytes y) same one filled)
]

pub slots_more : (from into into' : List ℕ) (slots carried : List Extent) (i : ℕ) (d e' : Extent) → i < length slots → CarriesSlots from into (take i slots) carried → Grows into into' → CarriesSlot from into' (slice_index_or slots i d) e'
    → CarriesSlots from into' (take (i + 1) slots) (carried ++ e' ∷ [])
slots_more from into into' slots carried i d e' lt before grown one bytes g =
    let e = slice_index_or slots i d in
    let b = before bytes (grows_then into into' bytes grown g) in
    let c = one bytes g in
    let front : take (i + 1) slots ≡ take i slots ++ e ∷ [] = take_more slots i d lt in (
      map_push (slot_seen bytes) carried e' ∙ ap (λ (xs : List (Option (List ℕ))). xs ++ slot_seen bytes e' ∷ []) b.0 ∙ ap (λ (x : Option (List ℕ)). map (slot_seen from) (take i slots) ++ x ∷ []) c.0
          ∙ sym (map_push (slot_seen from) (take i slots) e) ∙ ap (map (slot_seen from)) (sym front),
      sound_push bytes carried e' b.1 c.1,
    )

-- terms from their texts
module _ (from into into' : List ℕ) (grown : Grows into into') where
  pub iri_carried : (p p' n n' : Extent) → IsSound from p → IsSound from n → CarriesText from into p p' → CarriesText from into' n n' → CarriesTerm from into' (known.Iri p n) (known.Iri p' n')
  iri_carried p p' n n' sp sn cp cn bytes g =
      let a = cp bytes (grows_then into into' bytes grown g) in
      let b = cn bytes g in (
        ap (λ (t : List ℕ). terms.Iri (t ++ text_in bytes n')) a.0 ∙ ap (λ (t : List ℕ). terms.Iri (text_in from p ++ t)) b.0,
        (sound_carried from bytes p p' a.0 a.1 a.2 sp, sound_carried from bytes n n' b.0 b.1 b.2 sn),
      )

  pub literal_carried : (l l' : Extent) (t t' : KnownTail) → CarriesText from into l l' → CarriesTail from into' t t' → CarriesTerm from into' (known.Literal l t) (known.Literal l' t')
  literal_carried l l' t t' cl ct bytes g =
      let a = cl bytes (grows_then into into' bytes grown g) in
      let b = ct bytes g in
      (ap (λ (x : List ℕ). terms.Literal x (tail_value bytes t')) a.0 ∙ ap (λ (x : terms.Tail). terms.Literal (text_in from l) x) b.0, (a.1, b.1))

pub bnode_carried : (from into : List ℕ) (e e' : Extent) → CarriesText from into e e' → CarriesTerm from into (known.Bnode e) (known.Bnode e')
bnode_carried from into e e' c bytes g = let a = c bytes g in (ap terms.Bnode a.0, a.1)

pub default_carried : (from into : List ℕ) → CarriesTerm from into known.Default known.Default
default_carried from into bytes g = (refl, tt)

pub lang_carried : (from into : List ℕ) (e e' : Extent) → CarriesText from into e e' → CarriesTail from into (tails.Lang e) (tails.Lang e')
lang_carried from into e e' c bytes g = let a = c bytes g in (ap terms.Lang a.0, a.1)

pub typed_carried : (from into : List ℕ) (e e' : Extent) → IsSound from e → CarriesText from into e e' → CarriesTail from into (tails.Typed e) (tails.Typed e')
typed_carried from into e e' s c bytes g = let a = c bytes g in (ap terms.Typed a.0, sound_carried from bytes e e' a.0 a.1 a.2 s)

pub simple_carried : (from into : List ℕ) → CarriesTail from into tails.Simple tails.Simple
simple_carried from into bytes g = (refl, tt)

pub three_carried : (from a b c d : List ℕ) (whole : Known) (three carried : KnownThree) → Grows b c → Grows c d
    → known_value from whole ≡ terms.Nested (known_value from three.s) (known_value from three.p) (known_value from three.o)
    → CarriesTerm from b three.s carried.s → CarriesTerm from c three.p carried.p → CarriesTerm from d three.o carried.o → CarriesTerm from d whole (known.Triple carried)
three_carried from a b c d whole three carried bc cd said s p o bytes g =
    let x = s bytes (grows_then b d bytes (grows_then b c d bc cd) g) in
    let y = p bytes (grows_then c d bytes cd g) in
    let z = o bytes g in
    (value_of_nested bytes carried ∙ rw (x.0, y.0, z.0) (sym said), has_nested bytes carried x.1 y.1 z.1)

-- the whole state
pub state_carried : (from bytes : List ℕ) (s s' : State) → IsLawful from s
    → AreCarried from bytes s.options s'.options
    → (map (slot_seen bytes) s'.tables.names.items ≡ map (slot_seen from) s.tables.names.items) × AreSound bytes s'.tables.names.items
    → (map (slot_seen bytes) s'.tables.prefixes.items ≡ map (slot_seen from) s.tables.prefixes.items) × AreSound bytes s'.tables.prefixes.items
    → (map (slot_seen bytes) s'.tables.datatypes.items ≡ map (slot_seen from) s.tables.datatypes.items) × AreSound bytes s'.tables.datatypes.items
    → (maybe_value bytes s'.subject ≡ maybe_value from s.subject) × HasMaybe bytes s'.subject
    → (maybe_value bytes s'.predicate ≡ maybe_value from s.predicate) × HasMaybe bytes s'.predicate
    → (maybe_value bytes s'.object ≡ maybe_value from s.object) × HasMaybe bytes s'.object
    → (maybe_value bytes s'.graph ≡ maybe_value from s.graph) × HasMaybe bytes s'.graph
    → (maybe_value bytes s'.open_graph ≡ maybe_value from s.open_graph) × HasMaybe bytes s'.open_graph
    → s'.name_entry ≡ s.name_entry → s'.prefix_entry ≡ s.prefix_entry → s'.datatype_entry ≡ s.datatype_entry → s'.last ≡ s.last
    → MeansTheSame from s bytes s'
state_carried from bytes s s' lawful o n p d a b c g og ne pe de last =
    let few = ap length n.0 in
    let few_p = ap length p.0 in
    let few_d = ap length d.0 in
    record {
      seen = rw (n.0, p.0, d.0, a.0, b.0, c.0, g.0, og.0, ne, pe, de, last) refl;
      options = o.seen;
      lawful = record {
        options = o.inside;
        tables = record { names = n.1; prefixes = p.1; datatypes = d.1; few = omega (arith, few, length-map s'.tables.names.items (slot_seen bytes), length-map s.tables.names.items (slot_seen from), lawful.tables.few) };
        prefixes = omega (arith, few_p, length-map s'.tables.prefixes.items (slot_seen bytes), length-map s.tables.prefixes.items (slot_seen from), lawful.prefixes);
        datatypes = omega (arith, few_d, length-map s'.tables.datatypes.items (slot_seen bytes), length-map s.tables.datatypes.items (slot_seen from), lawful.datatypes);
        name_entry = omega (arith, ne, lawful.name_entry);
        prefix_entry = omega (arith, pe, lawful.prefix_entry);
        datatype_entry = omega (arith, de, lawful.datatype_entry);
        last = rw last lawful.last;
        subject = a.1;
        predicate = b.1;
        object = c.1;
        graph = g.1;
        open_graph = og.1;
      };
    }

-- what was put after some bytes is cut off again
pub cut_back : (old new : List ℕ) (len : ℕ) → len ≡ length old → Grows old new → take len new ≡ old
cut_back old new len here g = ap (take len) g.1 ∙ take_at old g.0 len (sym here)

-- which bytes were added: two parts after one another, and no part
pub two_after : (old a b x y : List ℕ) → a ≡ old ++ x → b ≡ a ++ y → b ≡ old ++ (x ++ y)
two_after old a b x y p q = q ∙ ap (λ (z : List ℕ). z ++ y) p ∙ append_assoc old x y

pub none_after : (old new more : List ℕ) → new ≡ old → more ≡ [] → new ≡ old ++ more
none_after old new more same none = same ∙ sym (append-nil old) ∙ ap (λ (x : List ℕ). old ++ x) (sym none)

pub slot_none_after : (from old : List ℕ) (e : Extent) → e.len ≡ unfilled_len → old ≡ old ++ slot_text (slot_seen from e)
slot_none_after from old e none = rw none (sym (append-nil old))

pub slot_text_after : (from old new : List ℕ) (e : Extent) → IsFilled e → new ≡ old ++ text_in from e → new ≡ old ++ slot_text (slot_seen from e)
slot_text_after from old new e filled is = is ∙ ap (λ (x : List ℕ). old ++ x) (sym (ap slot_text (filled_seen from e (text_in from e) refl filled)))

-- one more slot of a table
pub slots_after : (from old into into' : List ℕ) (slots : List Extent) (i : ℕ) (d : Extent) → i < length slots → into ≡ old ++ table_text (map (slot_seen from) (take i slots))
    → into' ≡ into ++ slot_text (slot_seen from (slice_index_or slots i d)) → into' ≡ old ++ table_text (map (slot_seen from) (take (i + 1) slots))
slots_after from old into into' slots i d lt before one =
    let e = slice_index_or slots i d in
    one ∙ ap (λ (x : List ℕ). x ++ slot_text (slot_seen from e)) before ∙ flat_map_more slot_text old (map (slot_seen from) (take i slots)) (slot_seen from e)
    ∙ ap (λ (xs : List (Option (List ℕ))). old ++ table_text xs) (sym (map_push (slot_seen from) (take i slots) e) ∙ ap (map (slot_seen from)) (sym (take_more slots i d lt)))

-- the three of a triple term
pub three_after : (from old a b c : List ℕ) (whole : Known) (three : KnownThree)
    → known_value from whole ≡ terms.Nested (known_value from three.s) (known_value from three.p) (known_value from three.o)
    → a ≡ old ++ value_text (known_value from three.s) → b ≡ a ++ value_text (known_value from three.p) → c ≡ b ++ value_text (known_value from three.o)
    → c ≡ old ++ value_text (known_value from whole)
three_after from old a b c whole three said s p o = rw (o, p, s, said) (simp append_assoc)

-- all texts of a state
pub all_after : (old m n p d : List ℕ) (o : StreamOptions) (s : states.State) → m ≡ old ++ o.stream_name → n ≡ m ++ table_text s.tables.names → p ≡ n ++ table_text s.tables.prefixes
    → d ≡ p ++ table_text s.tables.datatypes → (a b c g h : List ℕ) → a ≡ d ++ maybe_text s.subject → b ≡ a ++ maybe_text s.predicate → c ≡ b ++ maybe_text s.object
    → g ≡ c ++ maybe_text s.graph → h ≡ g ++ maybe_text s.open_graph → h ≡ old ++ texts_of o s
all_after old m n p d o s em en ep ed a b c g h ea eb ec eg eh = rw (eh, eg, ec, eb, ea, ed, ep, en, em) (simp append_assoc)
