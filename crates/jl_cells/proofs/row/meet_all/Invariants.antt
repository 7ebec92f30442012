use Rattle.std.proofs.Common.{◌≡◌, ◌<◌, ℕ, get_or, None}
use Rattle.jl_cells.specs.Knowledge.{AreOne}
use Rattle.jl_cells.proofs.KnowledgeLemmas.{values}
use Rattle.jl_cells.proofs.row.meet_all.Given as goal

abbrev pub invariant-loop-i : goal.invariant-loop-i
invariant-loop-i g l = record {
  a : l.a ≡ l.fn.a;
  b : l.b ≡ l.fn.b;
  one : (k : ℕ) → k < l.i → AreOne (get_or (values l.fn.a) k None) (get_or (values l.fn.b) k None);
}
