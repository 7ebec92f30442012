-- What holds of summaries, for all of them.
use Rattle.std.specs.Prelude.{◌≡◌, Ok, [], ◌∷◌, Some, None}
use Rattle.jl_base.specs.Results.{◌>>=◌, Reading, joined, refused}
use Rattle.jl_base.specs.declared.place.Place.{Place}
use Rattle.jl_base.specs.declared.place.Fault.{Fault}
use Rattle.jl_rows.specs.Written.{StreamOptions}
use Rattle.jl_rows.specs.Files.{Placed}
use Rattle.jl_rows.specs.History.{History}
use Rattle.jl_state.specs.States.{State}
use Rattle.jl_state.specs.Steps.{step}
use Rattle.jl_state.specs.Stands.{Stands}
use Rattle.jl_state.specs.Running.{run_on, at_place, state_of, after_reading}
use Rattle.jl_sym_laws.specs.Summaries.{Summary, unit}
use Rattle.jl_sym_laws.specs.Acting.{act}
use Rattle.jl_sym_laws.specs.Composing.{composed, Timed}
use Rattle.jl_sym_laws.specs.SmallSteps.{Small, small_step, of_small}
use Rattle.jl_sym_laws.specs.Runs.{of_row, never, of_reading, Leads, Summarises, Sums}

abbrev pub Decodes : Type 0
Decodes = (o : StreamOptions) (R : Reading Placed Fault) (H : History) (s : State) → Stands o s H → Leads o H R (after_reading o s R)

abbrev pub SmallStepsSum : Type 0
SmallStepsSum = (place : Place) (x : Small) (s : State) → act (of_small place x) s ≡ at_place place (small_step x s)

abbrev pub RowsSum : Type 0
RowsSum = (o : StreamOptions) (r : Placed) (s : State) → act (of_row o r) s ≡ at_place r.place (state_of (step o r.row s))

abbrev pub Composes : Type 0
Composes = (a b : Summary) (s : State) → Timed a → act (composed a b) s ≡ act a s >>= λ t. act b t

abbrev pub StaysTimed : Type 0
StaysTimed = (a b : Summary) → Timed a → Timed b → Timed (composed a b)

abbrev pub UnitDoesNothing : Type 0
UnitDoesNothing = (s : State) → act unit s ≡ Ok s

abbrev pub UnitBefore : Type 0
UnitBefore = (a : Summary) (s : State) → act (composed unit a) s ≡ act a s

abbrev pub UnitAfter : Type 0
UnitAfter = (a : Summary) (s : State) → Timed a → act (composed a unit) s ≡ act a s

abbrev pub GroupsAlike : Type 0
GroupsAlike = (a b c : Summary) (s : State) → Timed a → Timed b → act (composed (composed a b) c) s ≡ act (composed a (composed b c)) s

abbrev pub ReadingsSum : Type 0
ReadingsSum = (o : StreamOptions) (R : Reading Placed Fault) → Sums o R (of_reading o R)

abbrev pub ReadingsTimed : Type 0
ReadingsTimed = (o : StreamOptions) (R : Reading Placed Fault) → Timed (of_reading o R)

abbrev pub JoinedSum : Type 0
JoinedSum = (o : StreamOptions) (R Q : Reading Placed Fault) (a b : Summary) → Timed a → Sums o R a → Sums o Q b → Sums o (joined R Q) (composed a b)

abbrev pub SumsSummarise : Type 0
SumsSummarise = (o : StreamOptions) (R : Reading Placed Fault) (m : Summary) → Sums o R m → Summarises o R m

abbrev pub JoinedSummarise : Type 0
JoinedSummarise = (o : StreamOptions) (R Q : Reading Placed Fault) (a b : Summary) → Timed a → Summarises o R a → Summarises o Q b → Summarises o (joined R Q) (composed a b)

abbrev pub AfterIsRun : Type 0
AfterIsRun = (o : StreamOptions) (s : State) (R : Reading Placed Fault) → (run_on o s R).fault ≡ refused (after_reading o s R)

abbrev pub RowSums : Type 0
RowSums = (o : StreamOptions) (r : Placed) → Sums o (record { items = r ∷ []; fault = None }) (of_row o r)

abbrev pub FaultSums : Type 0
FaultSums = (o : StreamOptions) (fault : Fault) → Sums o (record { items = []; fault = Some fault }) (never fault)
