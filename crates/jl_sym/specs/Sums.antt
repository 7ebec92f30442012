-- What a summary sums.
use Rattle.std.specs.Prelude.{◌≡◌}
use Rattle.jl_base.specs.Results.{Reading}
use Rattle.jl_base.specs.declared.place.Fault.{Fault}
use Rattle.jl_rows.specs.Written.{StreamOptions}
use Rattle.jl_rows.specs.Files.{Placed}
use Rattle.jl_state.specs.States.{State}
use Rattle.jl_sym_laws.specs.Summaries.{Summary}
use Rattle.jl_sym_laws.specs.Acting.{act}
use Rattle.jl_sym_laws.specs.Cutting.{Sized}
use Rattle.jl_state.specs.Running.{after_reading}

-- on every state with tables of these options, it does what the decoder's steps do
abbrev pub SumsOn : StreamOptions → Reading Placed Fault → Summary → Type 0
SumsOn o R m = (s : State) → Sized o s → act m s ≡ after_reading o s R
