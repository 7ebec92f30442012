-- Addresses by number: one number for each.
use Rattle.std.proofs.Common.{◌≡◌, ◌≢◌, ℕ, ◌+◌, ◌*◌, ◌<◌, true, false, List, [], ◌∷◌, refl, ap, sym, ◌∙◌, arith, eq-eqb}
use Rattle.std.proofs.lemmas.Bool.{and_parts, and_from, false≢true}
use Rattle.jl_rows.specs.declared.row.Table.{Table}
use Rattle.jl_rows.specs.History.{is_table}
use Rattle.jl_sym_laws.specs.RelativeIds.{Id}
use Rattle.jl_sym_laws.specs.Summaries.{Written}
use Rattle.jl_sym_laws.specs.Compacting.{same_id, same_address}
use Rattle.jl_rows.specs.Written.{StreamOptions}
use Rattle.jl_rows.specs.Decoder.{size_of}
use Rattle.jl_sym_laws.specs.Sizes.{IsIdIn, AreWritesIn}
use Rattle.jl_sym_laws.proofs.Sameness.{id_is, table_is}
use Rattle.jl_compact.specs.Marks.{table_number, address_number, HasRoom, AreMarkable}

below_3 : (t : Table) → table_number t < 3
below_3 Table.Name = omega arith
below_3 Table.Prefix = omega arith
below_3 Table.Datatype = omega arith

same_number : (t u : Table) → table_number t ≡ table_number u → is_table t u ≡ true
same_number Table.Name Table.Name e = refl
same_number Table.Name Table.Prefix e = absurd (omega (arith, e))
same_number Table.Name Table.Datatype e = absurd (omega (arith, e))
same_number Table.Prefix Table.Name e = absurd (omega (arith, e))
same_number Table.Prefix Table.Prefix e = refl
same_number Table.Prefix Table.Datatype e = absurd (omega (arith, e))
same_number Table.Datatype Table.Name e = absurd (omega (arith, e))
same_number Table.Datatype Table.Prefix e = absurd (omega (arith, e))
same_number Table.Datatype Table.Datatype e = refl

parts : (n m a b : ℕ) → a < 3 → b < 3 → 6 * n + a ≡ 6 * m + b → (n ≡ m) × (a ≡ b)
parts n m a b p q e = let h : n ≡ m = omega (arith, p, q, e) in (h, omega (arith, p, q, e, h))

parts_after : (n m a b : ℕ) → a < 3 → b < 3 → 6 * n + 3 + a ≡ 6 * m + 3 + b → (n ≡ m) × (a ≡ b)
parts_after n m a b p q e = let h : n ≡ m = omega (arith, p, q, e) in (h, omega (arith, p, q, e, h))

apart : (n m a b : ℕ) → a < 3 → b < 3 → 6 * n + a ≡ 6 * m + 3 + b → ⊥
apart n m a b p q e = omega (arith, p, q, e)

pub same_ids : (t u : Table) (i j : Id) → address_number t i ≡ address_number u j → (is_table t u ≡ true) × (same_id i j ≡ true)
same_ids t u (Id.Given n) (Id.Given m) e = let h = parts n m (table_number t) (table_number u) (below_3 t) (below_3 u) e in (same_number t u h.1, eq-eqb n m h.0)
same_ids t u (Id.After n) (Id.After m) e = let h = parts_after n m (table_number t) (table_number u) (below_3 t) (below_3 u) e in (same_number t u h.1, eq-eqb n m h.0)
same_ids t u (Id.Given n) (Id.After m) e = absurd (apart n m (table_number t) (table_number u) (below_3 t) (below_3 u) e)
same_ids t u (Id.After n) (Id.Given m) e = absurd (apart m n (table_number u) (table_number t) (below_3 u) (below_3 t) (sym e))

abbrev pub number_of : Written → ℕ
number_of w = address_number w.table w.id

pub addressed : (w v : Written) → number_of w ≡ number_of v → same_address w v ≡ true
addressed w v e = let h = same_ids w.table v.table w.id v.id e in and_from _ _ h.0 h.1

pub other_number : (w v : Written) → same_address w v ≡ false → number_of w ≢ number_of v
other_number w v no_same e = false≢true (sym no_same ∙ addressed w v e)

pub one_number : (w v : Written) → same_address w v ≡ true → number_of w ≡ number_of v
one_number w v e =
    let h = and_parts (is_table w.table v.table) (same_id w.id v.id) e in
    ap (λ (t : Table). address_number t w.id) (table_is w.table v.table h.0) ∙ ap (address_number v.table) (id_is w.id v.id h.1)

-- an id inside of its table has a mark
pub in_room : (o : StreamOptions) (room : ℕ) (t : Table) (id : Id) → HasRoom o room → IsIdIn (size_of o t) id → address_number t id < room
in_room o room t (Id.Given n) wide h = let few = below_3 t in let enough = wide t in let within = h.1 in omega (arith, few, enough, within)
in_room o room t (Id.After k) wide h = let few = below_3 t in let enough = wide t in let within = h.1 in omega (arith, few, enough, within)

pub markable : (o : StreamOptions) (room n : ℕ) (ws : List Written) → HasRoom o room → AreWritesIn o n ws → AreMarkable room n ws
markable o room n [] wide h = tt
markable o room n (w ∷ ws) wide h = (h.0, in_room o room w.table w.id wide h.1, markable o room w.moment ws wide h.2)
