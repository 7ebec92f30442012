-- How much a compacted summary holds: its size doesn't grow with the run's length.
use Rattle.std.specs.Prelude.{ℕ, ◌+◌, ◌*◌, ◌<◌, ◌≤◌, List, [], ◌∷◌, length}
use Rattle.jl_rows.specs.declared.row.Table.{Table}
use Rattle.jl_rows.specs.Written.{StreamOptions}
use Rattle.jl_rows.specs.Decoder.{size_of}
use Rattle.jl_sym_laws.specs.RelativeIds.{Id}
use Rattle.jl_sym_laws.specs.Summaries.{Written, Kept, Need, Demand, Summary}
use Rattle.jl_sym_laws.specs.Compacting.{compacted}

-- an id that is a slot of a table of this size, or at most so far after the incoming last one
abbrev pub IsIdIn : ℕ → Id → Type 0
IsIdIn size (Id.Given n) = (0 < n) × (n ≤ size)
IsIdIn size (Id.After k) = (0 < k) × (k ≤ size)

-- what a reference of a table can be: a prefix may be the incoming last one, and a datatype's id is always known
abbrev pub IsReferenceIn : StreamOptions → Table → Id → Type 0
IsReferenceIn o Table.Name id = IsIdIn o.names id
IsReferenceIn o Table.Prefix (Id.Given n) = IsIdIn o.prefixes (Id.Given n)
IsReferenceIn o Table.Prefix (Id.After k) = k ≤ 0
IsReferenceIn o Table.Datatype (Id.Given n) = IsIdIn o.datatypes (Id.Given n)
IsReferenceIn o Table.Datatype (Id.After k) = ⊥

abbrev pub IsNeedIn : StreamOptions → Need → Type 0
IsNeedIn o (Need.Fits t id) = IsIdIn (size_of o t) id
IsNeedIn o (Need.Filled t id) = IsReferenceIn o t id
IsNeedIn o (Need.Has x) = Unit {0}
IsNeedIn o (Need.Lacks (Kept.LastAt x)) = ⊥
IsNeedIn o (Need.Lacks Kept.OpenGraph) = Unit {0}
IsNeedIn o Need.Never = Unit {0}

-- ids are inside of the tables, and moments don't fall; so many rows were read before the first
abbrev pub AreWritesIn : StreamOptions → ℕ → List Written → Type 0
AreWritesIn o moment [] = Unit {0}
AreWritesIn o moment (w ∷ ws) = (moment ≤ w.moment) × IsIdIn (size_of o w.table) w.id × AreWritesIn o w.moment ws

abbrev pub AreDemandsIn : StreamOptions → ℕ → List Demand → Type 0
AreDemandsIn o moment [] = Unit {0}
AreDemandsIn o moment (d ∷ ds) = (moment ≤ d.moment) × IsNeedIn o d.need × AreDemandsIn o d.moment ds

abbrev pub all_slots : StreamOptions → ℕ
all_slots o = o.names + o.prefixes + o.datatypes

-- With each slot there are two addresses, of which at most seven writes stay: the first, and the last before each of
-- the six moments at which texts are read. Of each need one demand stays.
abbrev pub CompactedFits : Type 0
CompactedFits =
    (o : StreamOptions) (m : Summary) → AreWritesIn o 0 m.writes → AreDemandsIn o 0 m.demands
    → (length (compacted m).writes ≤ 14 * all_slots o) × (length (compacted m).demands ≤ 4 * all_slots o + 8)
