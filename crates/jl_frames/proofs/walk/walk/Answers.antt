use Rattle.std.proofs.Common.{None, Some, length}
use Rattle.jl_rows.proofs.FrameLaws.{frames_at_end}
use Rattle.jl_frames.proofs.WalkLemmas.{walking_next, walk_ends, stuck_at_end, stuck_at_fault}
use Rattle.jl_frames.proofs.walk.walk.Goals as goal

pub by_frame-preserved : goal.by_frame-preserved
by_frame-preserved c =
    let said = rw c.in-Ok-Some.field-0-is at c.in-Ok-Some.ensures in
    let within = said.within in
    rw c.in_ok-push-in-Ok-Some.ensures.items
    (walking_next c.args.bytes.now c.args.start c.by_frame.bodies.items c.by_frame.end c.by_frame.invariant c.in-Ok-Some.at c.in-Ok-Some.next within.0 within.1 within.2 said.exact said.body)

pub returns-in-Ok-None : goal.returns-in-Ok-None
returns-in-Ok-None c =
    let said = rw c.in-Ok-None.field-0-is at c.in-Ok-None.ensures.exact in
    walk_ends c.args.bytes.now c.args.start c.by_frame.bodies.items c.by_frame.end c.by_frame.invariant None (frames_at_end c.args.bytes.now c.by_frame.end (length c.args.bytes.now) said) (stuck_at_end c.args.bytes.now c.by_frame.end said)

pub returns-in-Err : goal.returns-in-Err
returns-in-Err c =
    walk_ends c.args.bytes.now c.args.start c.by_frame.bodies.items c.by_frame.end c.by_frame.invariant (Some c.in-Err.kind) c.in-Err.ensures.exact (stuck_at_fault c.args.bytes.now c.by_frame.end c.in-Err.kind c.in-Err.ensures.body)
