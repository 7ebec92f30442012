-- What composing is for. What acts on a state is a summary, or a block of them.
use Rattle.std.specs.Prelude.{◌≡◌}
use Rattle.jl_base.specs.Results.{Reading, joined}
use Rattle.jl_base.specs.declared.place.Fault.{Fault}
use Rattle.jl_rows.specs.Written.{StreamOptions}
use Rattle.jl_rows.specs.Files.{Placed}
use Rattle.jl_rows.specs.History.{History}
use Rattle.jl_state.specs.States.{State}
use Rattle.jl_state.specs.Stands.{Stands}
use Rattle.jl_state.specs.Running.{after_reading}
use Rattle.jl_sym_laws.specs.Summaries.{Summary, unit}
use Rattle.jl_sym_laws.specs.Acting.{act}
use Rattle.jl_sym_laws.specs.Runs.{Leads, Summarises}
use Rattle.jl_sym_laws.specs.Staying.{IsSettled}
use Rattle.jl_sym.specs.Sums.{SumsOn}
use Rattle.jl_compose.specs.Turns.{Change, ActsInTurn, ActsAlike, KeepsSettled}

-- on every settled state, it does what the decoder's steps do
abbrev pub SumsSettled : StreamOptions → Reading Placed Fault → Change → Type 0
SumsSettled o R f = (s : State) → IsSettled o s → f s ≡ after_reading o s R

-- from every settled state that stands for a history, it leads to what the decoder finds
abbrev pub LeadsSettled : StreamOptions → Reading Placed Fault → Change → Type 0
LeadsSettled o R f = (H : History) (s : State) → Stands o s H → IsSettled o s → Leads o H R (f s)

-- so does a summary that does it on more states
abbrev pub SumsOnSettled : Type 0
SumsOnSettled = (o : StreamOptions) (R : Reading Placed Fault) (m : Summary) → SumsOn o R m → SumsSettled o R (act m)

abbrev pub LeadsOnSettled : Type 0
LeadsOnSettled = (o : StreamOptions) (R : Reading Placed Fault) (m : Summary) → Summarises o R m → LeadsSettled o R (act m)

-- what sums rows leads to what the decoder finds in them
abbrev pub SumsLead : Type 0
SumsLead = (o : StreamOptions) (R : Reading Placed Fault) (f : Change) → SumsSettled o R f → LeadsSettled o R f

-- What acts alike sums alike,
abbrev pub AlikeSum : Type 0
AlikeSum = (o : StreamOptions) (R : Reading Placed Fault) (f g : Change) → ActsAlike o f g → SumsSettled o R g → SumsSettled o R f

-- and leads alike.
abbrev pub AlikeLead : Type 0
AlikeLead = (o : StreamOptions) (R : Reading Placed Fault) (f g : Change) → ActsAlike o f g → LeadsSettled o R g → LeadsSettled o R f

-- Two in turn sum both readings,
abbrev pub BothSum : Type 0
BothSum = (o : StreamOptions) (R Q : Reading Placed Fault) (f g h : Change) → KeepsSettled o f → ActsInTurn o f g h → SumsSettled o R f → SumsSettled o Q g → SumsSettled o (joined R Q) h

-- and lead to what the decoder finds in both.
abbrev pub BothLead : Type 0
BothLead = (o : StreamOptions) (R Q : Reading Placed Fault) (f g h : Change) → KeepsSettled o f → ActsInTurn o f g h → LeadsSettled o R f → LeadsSettled o Q g → LeadsSettled o (joined R Q) h

-- no rows before a run, and none after it
abbrev pub UnitFirst : Type 0
UnitFirst = (o : StreamOptions) (f h : Change) → ActsInTurn o (act unit) f h → ActsAlike o h f

abbrev pub UnitSecond : Type 0
UnitSecond = (o : StreamOptions) (f h : Change) → ActsInTurn o f (act unit) h → ActsAlike o h f

-- three runs, of which the first two or the last two were composed before
abbrev pub GroupsAlike : Type 0
GroupsAlike = (o : StreamOptions) (f g h fg gh left right : Change) → KeepsSettled o f → ActsInTurn o f g fg → ActsInTurn o fg h left → ActsInTurn o g h gh → ActsInTurn o f gh right → ActsAlike o left right
