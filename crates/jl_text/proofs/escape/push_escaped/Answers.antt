use Rattle.std.proofs.Common.{arith}
use Rattle.jl_text.proofs.RawLemmas.{stretch_more, stretch_all}
use Rattle.jl_text.proofs.escape.push_escaped.Goals as goal

pub returns-then-end-text : goal.returns-then-end-text
returns-then-end-text c =
    stretch_all c.args.terminal c.args.text.now c.stretches.at c.raw_end-end.result _ _ _ c.raw_end-end.ensures.up_to (omega arith)
    c.stretches.invariant.1 c.in_ok-extend_from_slice.ensures.items

pub stretches-preserved : goal.stretches-preserved
stretches-preserved c = (
  omega (arith, c.raw_end-end.ensures.up_to.in_range),
  stretch_more c.args.terminal c.args.text.now c.stretches.at c.raw_end-end.result _ _ _ _ c.raw_end-end.ensures.up_to (omega (arith, c.raw_end-end.ensures.up_to.in_range))
      c.stretches.invariant.1 c.in_ok-extend_from_slice.ensures.items c.in_ok-push_escape.ensures,
)
