use Rattle.std.proofs.Common.{◌+◌, ◌≤◌, length, inl, inr, arith}
use Rattle.std.proofs.lemmas.Bool.{cases_lt}
use Rattle.jl_wire.proofs.AsciiBlocks.{low_in_block}
use Rattle.jl_wire.proofs.text.past_ascii_blocks.Goals as goal

pub by_block-preserved : goal.by_block-preserved
by_block-preserved c =
    let inside : c.by_block.end + 64 ≤ length c.args.text.now = omega arith in
    record {
      within = inside;
      low = λ k below. elim (cases_lt k c.by_block.end) [
        | inl before ↦ c.by_block.invariant.low k before
        | inr from ↦ low_in_block _ c.by_block.end 64 inside (omega (arith, c.is_ascii_block.ensures c.if-is_ascii_block.true)) k from below
      ];
    }
