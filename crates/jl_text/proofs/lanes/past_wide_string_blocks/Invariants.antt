use Rattle.std.proofs.Common.{length, ◌-◌}
use Rattle.jl_text.specs.declared.escape.Terminal.TheVariants.{StringLiteral}
use Rattle.jl_text.specs.Escapes.{RawUpTo}
use Rattle.jl_text.proofs.lanes.past_wide_string_blocks.Given as goal

abbrev pub invariant-by_wide_block : goal.invariant-by_wide_block
invariant-by_wide_block l = RawUpTo StringLiteral l.text l.at l.end

abbrev pub decreases-by_wide_block : goal.decreases-by_wide_block
decreases-by_wide_block l = length l.text - l.end
