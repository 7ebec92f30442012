-- Last ids that are those of slots, as rows leave them and as summaries keep them.
use Rattle.std.specs.Prelude.{◌≡◌, ◌<◌, length, Ok}
use Rattle.jl_base.specs.Results.{Reading}
use Rattle.jl_base.specs.declared.place.Fault.{Fault}
use Rattle.jl_rows.specs.Written.{StreamOptions}
use Rattle.jl_rows.specs.Files.{Placed}
use Rattle.jl_state.specs.States.{State, opening}
use Rattle.jl_sym_laws.specs.Summaries.{Summary}
use Rattle.jl_sym_laws.specs.Acting.{act}
use Rattle.jl_sym_laws.specs.Cutting.{Sized}
use Rattle.jl_state.specs.Running.{after_reading}

-- A state of a file of these options, with ids of slots, or 0, as its last ones.
pub record IsSettled (o : StreamOptions) (s : State) : Type 0 where
  pub sized : Sized o s
  pub name_entry : s.name_entry < length s.tables.names
  pub prefix_entry : s.prefix_entry < length s.tables.prefixes
  pub datatype_entry : s.datatype_entry < length s.tables.datatypes
  pub prefix : s.ids.prefix < length s.tables.prefixes
  pub name : s.ids.name < length s.tables.names

-- From such a state a summary leads to such a state, where it meets no fault.
abbrev pub Settles : StreamOptions → Summary → Type 0
Settles o m = (s t : State) → IsSettled o s → act m s ≡ Ok t → IsSettled o t

-- so is the state before the first row
abbrev pub OpeningSettled : Type 0
OpeningSettled = (o : StreamOptions) → IsSettled o (opening o)

-- and rows lead from such a state to such a state
abbrev pub RowsSettle : Type 0
RowsSettle = (o : StreamOptions) (R : Reading Placed Fault) (s t : State) → IsSettled o s → after_reading o s R ≡ Ok t → IsSettled o t

-- A summary settles where, on each state of a file of these options, it acts as the steps over some rows.
abbrev pub SumsSettle : Type 0
SumsSettle = (o : StreamOptions) (R : Reading Placed Fault) (m : Summary) → ((s : State) → Sized o s → act m s ≡ after_reading o s R) → Settles o m
