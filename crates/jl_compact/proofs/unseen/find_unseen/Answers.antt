use Rattle.std.proofs.Common.{◌≡◌, ◌≤◌, length, arith, refl}
use Rattle.std.proofs.lemmas.List.{length-map}
use Rattle.jl_sym.specs.Seen.{write_seen}
use Rattle.jl_compact.proofs.Backward.{back_start, back_code, in_marks}
use Rattle.jl_compact.proofs.unseen.find_unseen.Goals as goal

pub backward-init : goal.backward-init
backward-init c = back_start c.args.bytes.now (length c.args.marks.now) c.args.moments.now c.args.writes.now c.args.marks.now c.args.flags.now refl c.requires.fresh c.requires.many c.requires.early

pub backward-preserved : goal.backward-preserved
backward-preserved c =
    back_code c.args.bytes.now (length c.args.marks.now) c.args.moments.now c.args.writes.now c.backward.left c.backward.marks c.backward.flags c.address-at.result _ c.is_unseen.result c.backward-test.true c.requires.room c.requires.moments
    c.backward.invariant c.address-at.ensures.exact refl c.is_unseen.ensures

pub bounds-marks-at : goal.bounds-marks-at
bounds-marks-at c =
    let same : length c.backward.marks ≡ length c.args.marks.now = c.backward.auto.marks in
    let within : c.backward.left ≤ length c.args.writes.now = (let w = c.backward.invariant.within in let s = length-map c.args.writes.now (write_seen c.args.bytes.now) in omega (arith, w, s)) in
    let in_room = in_marks c.args.bytes.now (length c.args.marks.now) c.args.writes.now c.backward.left c.address-at.result c.backward-test.true within c.requires.room c.address-at.ensures.exact in
    omega (arith, same, in_room)

pub bounds-marks-at-in-backward : goal.bounds-marks-at-in-backward
bounds-marks-at-in-backward c =
    let same : length c.backward.marks ≡ length c.args.marks.now = c.backward.auto.marks in
    let within : c.backward.left ≤ length c.args.writes.now = (let w = c.backward.invariant.within in let s = length-map c.args.writes.now (write_seen c.args.bytes.now) in omega (arith, w, s)) in
    let in_room = in_marks c.args.bytes.now (length c.args.marks.now) c.args.writes.now c.backward.left c.address-at.result c.backward-test.true within c.requires.room c.address-at.ensures.exact in
    omega (arith, same, in_room)
