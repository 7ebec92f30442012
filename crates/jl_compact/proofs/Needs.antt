-- Needs by number: one number for each.
use Rattle.std.proofs.Common.{◌≡◌, ◌≢◌, ℕ, ◌+◌, ◌*◌, ◌<◌, true, false, List, [], ◌∷◌, refl, ap, sym, ◌∙◌, arith}
use Rattle.std.proofs.lemmas.Bool.{and_from, false≢true}
use Rattle.jl_rows.specs.Values.{Position}
use Rattle.jl_sym_laws.specs.Summaries.{Kept, Need, Demand}
use Rattle.jl_sym_laws.specs.Compacting.{same_kept, same_need}
use Rattle.jl_rows.specs.declared.row.Table.{Table}
use Rattle.jl_rows.specs.Written.{StreamOptions}
use Rattle.jl_sym_laws.specs.RelativeIds.{Id}
use Rattle.jl_sym_laws.specs.Sizes.{IsNeedIn, AreDemandsIn}
use Rattle.jl_sym_laws.proofs.Sameness.{need_is}
use Rattle.jl_compact.specs.Marks.{address_number, kept_number, need_number, HasRoom, AreAskable}
use Rattle.jl_compact.proofs.Addresses.{same_ids, in_room}

below_5 : (x : Kept) → kept_number x < 5
below_5 (Kept.LastAt Position.Subject) = omega arith
below_5 (Kept.LastAt Position.Predicate) = omega arith
below_5 (Kept.LastAt Position.Object) = omega arith
below_5 (Kept.LastAt Position.Graph) = omega arith
below_5 Kept.OpenGraph = omega arith

same_number : (x y : Kept) → kept_number x ≡ kept_number y → same_kept x y ≡ true
same_number (Kept.LastAt Position.Subject) (Kept.LastAt Position.Subject) e = refl
same_number (Kept.LastAt Position.Subject) (Kept.LastAt Position.Predicate) e = absurd (omega (arith, e))
same_number (Kept.LastAt Position.Subject) (Kept.LastAt Position.Object) e = absurd (omega (arith, e))
same_number (Kept.LastAt Position.Subject) (Kept.LastAt Position.Graph) e = absurd (omega (arith, e))
same_number (Kept.LastAt Position.Subject) Kept.OpenGraph e = absurd (omega (arith, e))
same_number (Kept.LastAt Position.Predicate) (Kept.LastAt Position.Subject) e = absurd (omega (arith, e))
same_number (Kept.LastAt Position.Predicate) (Kept.LastAt Position.Predicate) e = refl
same_number (Kept.LastAt Position.Predicate) (Kept.LastAt Position.Object) e = absurd (omega (arith, e))
same_number (Kept.LastAt Position.Predicate) (Kept.LastAt Position.Graph) e = absurd (omega (arith, e))
same_number (Kept.LastAt Position.Predicate) Kept.OpenGraph e = absurd (omega (arith, e))
same_number (Kept.LastAt Position.Object) (Kept.LastAt Position.Subject) e = absurd (omega (arith, e))
same_number (Kept.LastAt Position.Object) (Kept.LastAt Position.Predicate) e = absurd (omega (arith, e))
same_number (Kept.LastAt Position.Object) (Kept.LastAt Position.Object) e = refl
same_number (Kept.LastAt Position.Object) (Kept.LastAt Position.Graph) e = absurd (omega (arith, e))
same_number (Kept.LastAt Position.Object) Kept.OpenGraph e = absurd (omega (arith, e))
same_number (Kept.LastAt Position.Graph) (Kept.LastAt Position.Subject) e = absurd (omega (arith, e))
same_number (Kept.LastAt Position.Graph) (Kept.LastAt Position.Predicate) e = absurd (omega (arith, e))
same_number (Kept.LastAt Position.Graph) (Kept.LastAt Position.Object) e = absurd (omega (arith, e))
same_number (Kept.LastAt Position.Graph) (Kept.LastAt Position.Graph) e = refl
same_number (Kept.LastAt Position.Graph) Kept.OpenGraph e = absurd (omega (arith, e))
same_number Kept.OpenGraph (Kept.LastAt Position.Subject) e = absurd (omega (arith, e))
same_number Kept.OpenGraph (Kept.LastAt Position.Predicate) e = absurd (omega (arith, e))
same_number Kept.OpenGraph (Kept.LastAt Position.Object) e = absurd (omega (arith, e))
same_number Kept.OpenGraph (Kept.LastAt Position.Graph) e = absurd (omega (arith, e))
same_number Kept.OpenGraph Kept.OpenGraph e = refl

half : (a b : ℕ) → 11 + 2 * a ≡ 11 + 2 * b → a ≡ b
half a b e = omega (arith, e)

half_too : (a b : ℕ) → 12 + 2 * a ≡ 12 + 2 * b → a ≡ b
half_too a b e = omega (arith, e)

apart : (a b : ℕ) → 11 + 2 * a ≡ 12 + 2 * b → ⊥
apart a b e = omega (arith, e)

pub same_needs : (a b : Need) → need_number a ≡ need_number b → same_need a b ≡ true
same_needs (Need.Fits t i) (Need.Fits u j) e = let h = same_ids t u i j (half (address_number t i) (address_number u j) e) in and_from _ _ h.0 h.1
same_needs (Need.Filled t i) (Need.Filled u j) e = let h = same_ids t u i j (half_too (address_number t i) (address_number u j) e) in and_from _ _ h.0 h.1
same_needs (Need.Has x) (Need.Has y) e = same_number x y e
same_needs (Need.Lacks x) (Need.Lacks y) e = let same : kept_number x ≡ kept_number y = omega (arith, e) in same_number x y same
same_needs Need.Never Need.Never e = refl
same_needs (Need.Fits t i) (Need.Filled u j) e = absurd (apart (address_number t i) (address_number u j) e)
same_needs (Need.Filled t i) (Need.Fits u j) e = absurd (apart (address_number u j) (address_number t i) (sym e))
same_needs (Need.Fits t i) (Need.Has y) e = let q = below_5 y in absurd (omega (arith, e, q))
same_needs (Need.Fits t i) (Need.Lacks y) e = let q = below_5 y in absurd (omega (arith, e, q))
same_needs (Need.Fits t i) Need.Never e = absurd (omega (arith, e))
same_needs (Need.Filled t i) (Need.Has y) e = let q = below_5 y in absurd (omega (arith, e, q))
same_needs (Need.Filled t i) (Need.Lacks y) e = let q = below_5 y in absurd (omega (arith, e, q))
same_needs (Need.Filled t i) Need.Never e = absurd (omega (arith, e))
same_needs (Need.Has x) (Need.Fits u j) e = let p = below_5 x in absurd (omega (arith, e, p))
same_needs (Need.Has x) (Need.Filled u j) e = let p = below_5 x in absurd (omega (arith, e, p))
same_needs (Need.Has x) (Need.Lacks y) e = let p = below_5 x in let q = below_5 y in absurd (omega (arith, e, p, q))
same_needs (Need.Has x) Need.Never e = let p = below_5 x in absurd (omega (arith, e, p))
same_needs (Need.Lacks x) (Need.Fits u j) e = let p = below_5 x in absurd (omega (arith, e, p))
same_needs (Need.Lacks x) (Need.Filled u j) e = let p = below_5 x in absurd (omega (arith, e, p))
same_needs (Need.Lacks x) (Need.Has y) e = let p = below_5 x in let q = below_5 y in absurd (omega (arith, e, p, q))
same_needs (Need.Lacks x) Need.Never e = let p = below_5 x in absurd (omega (arith, e, p))
same_needs Need.Never (Need.Fits u j) e = absurd (omega (arith, e))
same_needs Need.Never (Need.Filled u j) e = absurd (omega (arith, e))
same_needs Need.Never (Need.Has y) e = let q = below_5 y in absurd (omega (arith, e, q))
same_needs Need.Never (Need.Lacks y) e = let q = below_5 y in absurd (omega (arith, e, q))

abbrev pub number_of : Demand → ℕ
number_of d = need_number d.need

pub other_number : (d e : Demand) → same_need d.need e.need ≡ false → number_of d ≢ number_of e
other_number d e no_same c = false≢true (sym no_same ∙ same_needs d.need e.need c)

pub one_number : (d e : Demand) → same_need d.need e.need ≡ true → number_of d ≡ number_of e
one_number d e h = ap need_number (need_is d.need e.need h)

-- a need inside of the tables has a mark
need_in_room : (o : StreamOptions) (room : ℕ) (need : Need) → HasRoom o room → IsNeedIn o need → need_number need < 12 + 2 * room
need_in_room o room (Need.Fits t id) wide h = let below = in_room o room t id wide h in omega (arith, below)
need_in_room o room (Need.Filled Table.Name id) wide h = let below = in_room o room Table.Name id wide h in omega (arith, below)
need_in_room o room (Need.Filled Table.Prefix (Id.Given n)) wide h = let below = in_room o room Table.Prefix (Id.Given n) wide h in omega (arith, below)
need_in_room o room (Need.Filled Table.Prefix (Id.After k)) wide h = let enough = wide Table.Prefix in omega (arith, enough, h)
need_in_room o room (Need.Filled Table.Datatype (Id.Given n)) wide h = let below = in_room o room Table.Datatype (Id.Given n) wide h in omega (arith, below)
need_in_room o room (Need.Filled Table.Datatype (Id.After k)) wide h = absurd h
need_in_room o room (Need.Has x) wide h = let below = below_5 x in omega (arith, below)
need_in_room o room (Need.Lacks x) wide h = let below = below_5 x in omega (arith, below)
need_in_room o room Need.Never wide h = omega arith

pub askable : (o : StreamOptions) (room n : ℕ) (ds : List Demand) → HasRoom o room → AreDemandsIn o n ds → AreAskable (12 + 2 * room) n ds
askable o room n [] wide h = tt
askable o room n (d ∷ ds) wide h = (h.0, need_in_room o room d.need wide h.1, askable o room d.moment ds wide h.2)
