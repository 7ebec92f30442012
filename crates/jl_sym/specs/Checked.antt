-- A row with what its checks need: the options under which terms are checked at their positions.
use Rattle.std.specs.Prelude.{◌≤◌, length, map}
use Rattle.jl_base.specs.Limits.{most_bytes}
use Rattle.jl_rows.specs.Written.{StreamOptions, Term}
use Rattle.jl_rows.specs.Values.{Position}
use Rattle.jl_rows.specs.Heads.{ArePassed}
use Rattle.jl_rows.specs.Seen.{options_seen}
use Rattle.jl_state.specs.Positions.{under}
use Rattle.jl_sym.specs.declared.asker.Here.{Here}
use Rattle.jl_sym.specs.declared.asker.Asker.{Asker}
use Rattle.jl_sym.specs.Earlier.{Earlier}
use Rattle.jl_sym.specs.Seen.{write_seen}

-- a term as it is checked at a position
abbrev pub checked : StreamOptions → Position → Term → Term
checked o x t = under o.strict o x t

abbrev pub options_of : Here → StreamOptions
options_of a = options_seen a.bytes.now a.options.now

pub record IsHere (a : Here) : Type 0 where
  pub options : ArePassed a.bytes.now a.options.now
  pub short : length a.bytes.now ≤ most_bytes

-- what the run did before the row
abbrev pub earlier_of : Asker → Earlier
earlier_of a = record { rows = a.moment; writes = map (write_seen a.here.now.bytes.now) a.writes.now.items }
