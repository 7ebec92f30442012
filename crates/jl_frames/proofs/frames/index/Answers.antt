use Rattle.std.proofs.Common.{None, length}
use Rattle.jl_rows.proofs.FrameLaws.{frames_at_end}
use Rattle.jl_frames.proofs.IndexLemmas.{indexed_next, indexed_whole, are_fit}
use Rattle.jl_frames.proofs.frames.index.Goals as goal

pub by_frame-preserved : goal.by_frame-preserved
by_frame-preserved c =
    let said = rw c.in-Ok-Some.field-0-is at c.in-Ok-Some.ensures in
    let within = rw c.bytes-bytes.ensures.all at said.within in
    let exact = rw c.bytes-bytes.ensures.all at said.exact in
    rw c.in_ok-push-in-Ok-Some.ensures.items
    (indexed_next c.args.space.now c.by_frame.bodies.items c.by_frame.at c.by_frame.invariant c.in-Ok-Some.start c.in-Ok-Some.end within.0 within.1 within.2 exact)

pub returns-in-Ok-None : goal.returns-in-Ok-None
returns-in-Ok-None c =
    let said = rw c.in-Ok-None.field-0-is at c.in-Ok-None.ensures.exact in
    let ended = rw c.bytes-bytes.ensures.all at said in
    rw c.of_file.ensures
    (indexed_whole c.args.space.now c.by_frame.bodies.items c.by_frame.at c.by_frame.invariant None (frames_at_end c.args.space.now c.by_frame.at (length c.args.space.now) ended))

pub of_file-requires : goal.of_file-requires
of_file-requires c = are_fit c.args.space.now 0 c.by_frame.bodies.items c.by_frame.at c.bytes-bytes.ensures.fits c.by_frame.invariant.places

pub of_file-requires-in-Err : goal.of_file-requires-in-Err
of_file-requires-in-Err c = are_fit c.args.space.now 0 c.by_frame.bodies.items c.by_frame.at c.bytes-bytes.ensures.fits c.by_frame.invariant.places
