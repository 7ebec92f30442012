-- One known field of a message: what the groups say behind it.
use Rattle.std.proofs.Common.{◌≡◌, ℕ, ◌<◌, List, length, Option, Some, None, is_some, Ok, Err, true, false, refl, ap, sym, ◌∙◌, subst, slice_set, slice_index_or, get_or-set_same, get_or-set_other, inl, inr, arith}
use Rattle.std.proofs.lemmas.List.{map-set, length-set}
use Rattle.std.proofs.lemmas.Bool.{cases_eq}
use Rattle.jl_base.specs.Results.{◌>>=◌, refuse_if}
use Rattle.jl_base.specs.declared.kind.Kind.{Kind}
use Rattle.jl_base.specs.declared.kind.Kind.TheVariants.{WrongWire, Twice}
use Rattle.jl_wire.specs.Seen.{content_seen}
use Rattle.jl_wire.specs.declared.field.Value.{Value}
use Rattle.jl_rows.specs.declared.message.Known.{Known}
use Rattle.jl_rows.specs.declared.parts.Part.{Part}
use Rattle.jl_rows.specs.Messages.{groups}
use Rattle.jl_wire.specs.Fields.{Content}
use Rattle.jl_rows.specs.Reading.{Parts, taken, taken_if_known, is_wrong_wire, part}
use Rattle.jl_rows.specs.Seen.{part_seen, maybe_seen, parts_seen, HasPart, HasMaybe, HasParts, IsFree}
use Rattle.jl_rows.proofs.Depth.{Says}

-- a free group, and a content that says something
pub took : (says : Says) (bytes : List ℕ) (k : Known) (value : Value) (ps : List (Option Part)) (group : ℕ) (p : Part)
    → IsFree bytes k value ps (Ok group) → says k.shape (content_seen bytes value) ≡ Ok (part_seen bytes p)
    → taken says k (content_seen bytes value) (parts_seen bytes ps) ≡ Ok (parts_seen bytes (slice_set ps group (Some p)))
took says bytes k value ps group p free said =
    let wire = free.0 in
    let none = free.1 in
    let at = free.2 in
    rw (wire, none, said, at) (ap Ok (sym (map-set (maybe_seen bytes) ps k.group (Some p))))

-- a group that isn't free
pub not_free : (says : Says) (bytes : List ℕ) (k : Known) (value : Value) (ps : List (Option Part)) (kind : Kind)
    → IsFree bytes k value ps (Err kind) → taken says k (content_seen bytes value) (parts_seen bytes ps) ≡ Err kind
not_free says bytes k value ps kind h = by_tests (is_wrong_wire k.shape (content_seen bytes value)) (is_some (part (parts_seen bytes ps) k.group)) h
  where
    by_tests : (a b : _) → (refuse_if a WrongWire >>= λ _. refuse_if b Twice) ≡ Err kind
        → (refuse_if a WrongWire >>= λ _. refuse_if b Twice >>= λ _. says k.shape (content_seen bytes value) >>= λ p. Ok (slice_set (parts_seen bytes ps) k.group (Some p))) ≡ Err kind
    by_tests true b e = cc
    by_tests false true e = cc
    by_tests false false e = cc

-- a free group, and a content that is refused
pub not_said : (says : Says) (bytes : List ℕ) (k : Known) (value : Value) (ps : List (Option Part)) (group : ℕ) (kind : Kind)
    → IsFree bytes k value ps (Ok group) → says k.shape (content_seen bytes value) ≡ Err kind
    → taken says k (content_seen bytes value) (parts_seen bytes ps) ≡ Err kind
not_said says bytes k value ps group kind free said =
    let wire = free.0 in
    let none = free.1 in
    rw (wire, none, said) refl

-- the groups stay inside the bytes
pub kept : (bytes : List ℕ) (ps : List (Option Part)) (group : ℕ) (p : Part) → HasParts bytes ps → group < groups → HasPart bytes p → HasParts bytes (slice_set ps group (Some p))
kept bytes ps group p has fits inside = record {
  count = length-set ps group (Some p) ∙ has.count;
  each = λ g. elim (cases_eq g group) [
    | inl e ↦ let there : group < length ps = omega (arith, has.count) in subst (HasMaybe bytes) (sym (ap (λ (n : ℕ). slice_index_or (slice_set ps group (Some p)) n None) e ∙ get_or-set_same ps group (Some p) None there)) inside
    | inr ne ↦ subst (HasMaybe bytes) (sym (get_or-set_other ps group g (Some p) None ne)) (has.each g)
  ];
}

-- a known field is taken
pub known_taken : (says : Says) (k : Known) (m : Option Known) (c : Content) (ps : Parts) → Some k ≡ m → taken_if_known says m c ps ≡ taken says k c ps
known_taken says k m c ps e = ap (λ (x : Option Known). taken_if_known says x c ps) (sym e)
