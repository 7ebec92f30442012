use Rattle.std.proofs.Common.{ℕ, List, ◌-◌, ◌<◌, ◌≤◌, length, get_or}
use Rattle.jl_wire.proofs.text.past_ascii_blocks.Given as goal

pub record Low (text : List ℕ) (end : ℕ) : Type 0 where
  pub within : end ≤ length text
  pub low : (k : ℕ) → k < end → get_or text k 0 < 128

abbrev pub invariant-by_block : goal.invariant-by_block
invariant-by_block l = Low l.text l.end

abbrev pub decreases-by_block : goal.decreases-by_block
decreases-by_block l = length l.text - l.end
