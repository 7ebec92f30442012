use Rattle.std.proofs.Common.{◌≡◌, ◌&&◌, drop}
use Rattle.std.specs.List.{list_all}
use Rattle.jl_text.specs.Escapes.{is_raw}
use Rattle.jl_text.proofs.escape.is_clean.Given as goal

abbrev pub invariant-loop-b : goal.invariant-loop-b
invariant-loop-b l = (l.all && list_all (is_raw l.terminal) (drop l.b-index l.text)) ≡ list_all (is_raw l.terminal) l.text
