use Rattle.std.proofs.Common.{◌≤◌, None, map, take}
use Rattle.jl_rows.specs.Seen.{options_seen}
use Rattle.jl_tape.specs.Tapes.{placed_seen}
use Rattle.jl_sym.specs.Growth.{IsFit}
use Rattle.jl_sym.specs.Seen.{growing_seen}
use Rattle.jl_sym.proofs.SumLemmas.{SumsRows}
use Rattle.jl_sym.proofs.summing.summarise_tape.Given as goal

abbrev pub invariant-loop-i : goal.invariant-loop-i
invariant-loop-i l = record {
  sums : SumsRows (options_seen l.bytes l.options) (map (placed_seen l.bytes) (take l.i l.tape)) None (growing_seen l.bytes l.growing);
  fit : IsFit l.bytes l.growing l.marks;
  rows : l.growing.rows ≤ l.i;
}
