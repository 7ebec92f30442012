use Rattle.std.proofs.Common.{arith}
use Rattle.jl_text.proofs.StringLemmas.{gone_raw, gone_escape, gone_last, gone_rest}
use Rattle.jl_text.proofs.escape.place_escaped.Goals as goal

pub returns-then-raw-end-clause-placed : goal.returns-then-raw-end-clause-placed
returns-then-raw-end-clause-placed c =
    gone_last c.by_wide_front.invariant (omega (arith, c.requires.inside)) (omega (arith, c.requires.room)) c.raw_wide_front-raw.result
    c.raw_wide_front-raw.ensures.raw c.if-raw-end.true c.place_block.ensures.placed

pub by_wide_front-preserved-then-raw-eq-WIDE_LANES : goal.by_wide_front-preserved-then-raw-eq-WIDE_LANES
by_wide_front-preserved-then-raw-eq-WIDE_LANES c =
    gone_raw c.by_wide_front.invariant (omega (arith, c.requires.inside)) (omega (arith, c.requires.room)) 64 (omega (arith, c.if-raw-end.false, c.if-raw-eq-WIDE_LANES.true))
    (rw c.if-raw-eq-WIDE_LANES.true at c.raw_wide_front-raw.ensures.raw) c.place_block-place.ensures.placed c.place_block-place.ensures.end

pub by_wide_front-preserved : goal.by_wide_front-preserved
by_wide_front-preserved c =
    let raws = gone_raw c.by_wide_front.invariant (omega (arith, c.requires.inside)) (omega (arith, c.requires.room)) c.raw_wide_front-raw.result (omega (arith, c.if-raw-end.false))
    c.raw_wide_front-raw.ensures.raw c.place_block-stop.ensures.placed c.place_block-stop.ensures.end in
    gone_escape raws (omega (arith, c.requires.inside)) (omega (arith, c.requires.room)) (omega (arith, c.if-raw-end.false))
    c.place_string_escape-place.ensures.placed c.place_string_escape-place.ensures.end

pub returns-clause-placed : goal.returns-clause-placed
returns-clause-placed c =
    gone_rest c.by_wide_front.invariant (omega (arith, c.requires.inside)) (omega (arith, c.requires.room)) c.place_escaped_end.ensures.placed
