use Rattle.std.proofs.Common.{arith}
use Rattle.jl_text.proofs.StringLemmas.{gone_raw, gone_escape, gone_last}
use Rattle.jl_text.proofs.escape.place_escaped_end.Goals as goal

pub returns-then-front-end-clause-placed : goal.returns-then-front-end-clause-placed
returns-then-front-end-clause-placed c =
    gone_last c.by_front.invariant (omega (arith, c.requires.inside)) (omega (arith, c.requires.room)) c.raw_front-front.result
    c.raw_front-front.ensures.raw c.if-front-end.true c.place_block.ensures.placed

pub by_front-preserved-then-front-eq-LANES : goal.by_front-preserved-then-front-eq-LANES
by_front-preserved-then-front-eq-LANES c =
    gone_raw c.by_front.invariant (omega (arith, c.requires.inside)) (omega (arith, c.requires.room)) 16 (omega (arith, c.if-front-end.false, c.if-front-eq-LANES.true))
    (rw c.if-front-eq-LANES.true at c.raw_front-front.ensures.raw) c.place_block-place.ensures.placed c.place_block-place.ensures.end

pub by_front-preserved : goal.by_front-preserved
by_front-preserved c =
    let raws = gone_raw c.by_front.invariant (omega (arith, c.requires.inside)) (omega (arith, c.requires.room)) c.raw_front-front.result (omega (arith, c.if-front-end.false))
    c.raw_front-front.ensures.raw c.place_block-stop.ensures.placed c.place_block-stop.ensures.end in
    gone_escape raws (omega (arith, c.requires.inside)) (omega (arith, c.requires.room)) (omega (arith, c.if-front-end.false))
    c.place_string_escape-place.ensures.placed c.place_string_escape-place.ensures.end
