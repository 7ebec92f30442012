-- Demands that the run's own writes meet.
use Rattle.std.specs.Prelude.{◌≡◌, ℕ, Bool, true, false, ◌&&◌, ◌||◌, List, [], ◌∷◌, ◌++◌, nat_lt}
use Rattle.jl_rows.specs.declared.row.Table.{Table}
use Rattle.jl_rows.specs.History.{is_table}
use Rattle.jl_rows.specs.Written.{StreamOptions}
use Rattle.jl_state.specs.States.{State}
use Rattle.jl_sym_laws.specs.RelativeIds.{Id}
use Rattle.jl_sym_laws.specs.Summaries.{Written, Need, Demand, Summary}
use Rattle.jl_sym_laws.specs.Acting.{act}
use Rattle.jl_sym_laws.specs.Compacting.{same_id}
use Rattle.jl_sym_laws.specs.Cutting.{Sized, is_need_in}

-- a write to the slot of this id comes before the moment
unfoldable pub is_slot_written : Table → ℕ → ℕ → List Written → Bool
is_slot_written t n moment [] = false
is_slot_written t n moment (w ∷ ws) = (is_table w.table t && (same_id w.id (Id.Given n) && nat_lt w.moment moment)) || is_slot_written t n moment ws

-- A write of the run fills the slot that is needed, whatever state comes before the run. Ids that count on are left out: those
-- of entries count on from the last entry, and those of references from the last reference.
abbrev pub is_written : Need → ℕ → List Written → Bool
is_written (Need.Filled t (Id.Given n)) moment ws = is_slot_written t n moment ws
is_written (Need.Filled t (Id.After k)) moment ws = false
is_written (Need.Fits t id) moment ws = false
is_written (Need.Has x) moment ws = false
is_written (Need.Lacks x) moment ws = false
is_written Need.Never moment ws = false

-- A demand may be dropped where the run wrote its slot before, on states whose tables have that slot.
abbrev pub DropsWritten : Type 0
DropsWritten =
    (o : StreamOptions) (m : Summary) (ds : List Demand) (d : Demand) (es : List Demand) (s : State) → Sized o s → is_need_in o d.need ≡ true → is_written d.need d.moment m.writes ≡ true
    → act (record m { demands = ds ++ (d ∷ es) }) s ≡ act (record m { demands = ds ++ es }) s
