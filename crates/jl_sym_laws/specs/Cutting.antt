-- Certain faults: what no state of a file can meet, since ids lie outside of the tables. And so the size of any run's
-- summary.
use Rattle.std.specs.Prelude.{◌≡◌, ℕ, ◌+◌, ◌*◌, ◌<◌, ◌≤◌, Bool, true, false, ◌&&◌, List, [], ◌∷◌, length, None, nat_lt, nat_le, if◌then◌else◌}
use Rattle.jl_base.specs.Results.{Reading}
use Rattle.jl_base.specs.declared.place.Fault.{Fault}
use Rattle.jl_rows.specs.declared.row.Table.{Table}
use Rattle.jl_rows.specs.Written.{StreamOptions}
use Rattle.jl_rows.specs.Files.{Placed}
use Rattle.jl_rows.specs.History.{History}
use Rattle.jl_rows.specs.Decoder.{size_of}
use Rattle.jl_state.specs.States.{State, table_of, slots_in}
use Rattle.jl_state.specs.Stands.{Stands}
use Rattle.jl_sym_laws.specs.RelativeIds.{Id}
use Rattle.jl_sym_laws.specs.Summaries.{Written, Kept, Need, Demand, Summary}
use Rattle.jl_sym_laws.specs.Acting.{act}
use Rattle.jl_sym_laws.specs.Composing.{composed, Timed}
use Rattle.jl_sym_laws.specs.Runs.{of_reading, Summarises}
use Rattle.jl_sym_laws.specs.Compacting.{compacted}
use Rattle.jl_sym_laws.specs.Sizes.{AreWritesIn, AreDemandsIn, all_slots}

-- What rows make: no id is 0, but for a datatype's; a prefix may be the incoming last one, and a datatype's id is known.
abbrev pub IsNext : Id → Type 0
IsNext (Id.Given n) = 0 < n
IsNext (Id.After k) = 0 < k

abbrev pub IsMadeReference : Table → Id → Type 0
IsMadeReference Table.Name id = IsNext id
IsMadeReference Table.Prefix (Id.Given n) = 0 < n
IsMadeReference Table.Prefix (Id.After k) = k ≤ 0
IsMadeReference Table.Datatype (Id.Given n) = Unit {0}
IsMadeReference Table.Datatype (Id.After k) = ⊥

abbrev pub IsMadeNeed : Need → Type 0
IsMadeNeed (Need.Fits t id) = IsNext id
IsMadeNeed (Need.Filled t id) = IsMadeReference t id
IsMadeNeed (Need.Has x) = Unit {0}
IsMadeNeed (Need.Lacks (Kept.LastAt x)) = ⊥
IsMadeNeed (Need.Lacks Kept.OpenGraph) = Unit {0}
IsMadeNeed Need.Never = Unit {0}

-- moments don't fall, from a number of rows on
abbrev pub AreMadeWrites : ℕ → List Written → Type 0
AreMadeWrites moment [] = Unit {0}
AreMadeWrites moment (w ∷ ws) = (moment ≤ w.moment) × IsNext w.id × AreMadeWrites w.moment ws

abbrev pub AreMadeDemands : ℕ → List Demand → Type 0
AreMadeDemands moment [] = Unit {0}
AreMadeDemands moment (d ∷ ds) = (moment ≤ d.moment) × IsMadeNeed d.need × AreMadeDemands d.moment ds

-- what every summary of rows keeps, however it was composed, cut and compacted
pub record IsMade (m : Summary) : Type 0 where
  pub timed : Timed m
  pub writes : AreMadeWrites 0 m.writes
  pub demands : AreMadeDemands 0 m.demands
  pub prefix : IsMadeReference Table.Prefix m.ids.prefix

abbrev pub MadeStays : Type 0
MadeStays = (a b : Summary) → IsMade a → IsMade b → IsMade (composed a b)

abbrev pub ReadingsMade : Type 0
ReadingsMade = (o : StreamOptions) (R : Reading Placed Fault) → IsMade (of_reading o R)

-- whether ids are inside of the tables
abbrev pub is_id_in : ℕ → Id → Bool
is_id_in size (Id.Given n) = nat_lt 0 n && nat_le n size
is_id_in size (Id.After k) = nat_lt 0 k && nat_le k size

abbrev pub is_reference_in : StreamOptions → Table → Id → Bool
is_reference_in o Table.Name id = is_id_in o.names id
is_reference_in o Table.Prefix (Id.Given n) = is_id_in o.prefixes (Id.Given n)
is_reference_in o Table.Prefix (Id.After k) = nat_le k 0
is_reference_in o Table.Datatype (Id.Given n) = is_id_in o.datatypes (Id.Given n)
is_reference_in o Table.Datatype (Id.After k) = false

abbrev pub is_need_in : StreamOptions → Need → Bool
is_need_in o (Need.Fits t id) = is_id_in (size_of o t) id
is_need_in o (Need.Filled t id) = is_reference_in o t id
is_need_in o (Need.Has x) = true
is_need_in o (Need.Lacks (Kept.LastAt x)) = false
is_need_in o (Need.Lacks Kept.OpenGraph) = true
is_need_in o Need.Never = true

-- a write outside of its table fills no slot
unfoldable pub cut_writes : StreamOptions → List Written → List Written
cut_writes o [] = []
cut_writes o (w ∷ ws) = if is_id_in (size_of o w.table) w.id then w ∷ cut_writes o ws else cut_writes o ws

-- a demand outside of the tables is never met, and nothing is demanded after it
unfoldable pub cut_demands : StreamOptions → List Demand → List Demand
cut_demands o [] = []
cut_demands o (d ∷ ds) = if is_need_in o d.need then d ∷ cut_demands o ds else record d { need = Need.Never } ∷ []

abbrev pub cut : StreamOptions → Summary → Summary
cut o m = record m { writes = cut_writes o m.writes; demands = cut_demands o m.demands }

-- a state with tables of these options, and with no datatype of id 0
pub record Sized (o : StreamOptions) (s : State) : Type 0 where
  pub sizes : (t : Table) → length (table_of s t) ≡ size_of o t + 1
  pub zero : slots_in s Table.Datatype 0 ≡ None

abbrev pub StandsSized : Type 0
StandsSized = (o : StreamOptions) (s : State) (H : History) → Stands o s H → Sized o s

abbrev pub CutKeeps : Type 0
CutKeeps = (o : StreamOptions) (m : Summary) (s : State) → IsMade m → Sized o s → act (cut o m) s ≡ act m s

abbrev pub CutIsIn : Type 0
CutIsIn = (o : StreamOptions) (m : Summary) → IsMade m → AreWritesIn o 0 (cut o m).writes × AreDemandsIn o 0 (cut o m).demands

-- a summary, cut and compacted
abbrev pub fitted : StreamOptions → Summary → Summary
fitted o m = compacted (cut o m)

abbrev pub IsSmall : StreamOptions → Summary → Type 0
IsSmall o m = (length m.writes ≤ 14 * all_slots o) × (length m.demands ≤ 4 * all_slots o + 8)

-- It summarises what it summarised, is small however long the run is, and keeps what it kept.
abbrev pub FittedSummarises : Type 0
FittedSummarises = (o : StreamOptions) (R : Reading Placed Fault) (m : Summary) → IsMade m → Summarises o R m → Summarises o R (fitted o m)

abbrev pub FittedIsSmall : Type 0
FittedIsSmall = (o : StreamOptions) (m : Summary) → IsMade m → IsSmall o (fitted o m)

abbrev pub FittedIsMade : Type 0
FittedIsMade = (o : StreamOptions) (m : Summary) → IsMade m → IsMade (fitted o m)
