use Rattle.std.proofs.Common.{refl, set, subst, sym, arith}
use Rattle.jl_drive.specs.Pieces.{IsOf, IsPiece}
use Rattle.jl_drive.specs.Placing.{IsPlaced, IsRight}
use Rattle.jl_drive.proofs.Lists.{right_unset}
use Rattle.jl_drive.proofs.OrderLemmas.{placed_at, ends_in_order, all_push, none_push, runs_push, fine_more, covered_else}
use Rattle.jl_drive.proofs.order.taken.Goals as goal

pub returns-then-is_some-clause-order : goal.returns-then-is_some-clause-order
returns-then-is_some-clause-order g c =
    let d = placed_at (g.W.Work.knows c.args.work.now) (g.W.Work.makes c.args.work.now) (g.W.Work.fine c.args.work.now) (g.W.Work.faulty c.args.work.now) c.args.owns.now.items c.loop-k.slots.items c.loop-k.k c.args.runs c.index_mut.result.now c.in-Some.piece (let len = c.loop-k.slots.ok.0 in omega (arith, c.loop-k.invariant.count)) c.loop-k-test.true c.loop-k.invariant.right c.index_mut.ensures.value c.in-Some.ensures.value in
    let I = c.loop-k.invariant in
    ends_in_order c.args.runs c.push.new.self.items c.loop-k.pieces.items c.in-Some.piece c.in_ok-push.ensures.items (let at = d.0 in omega (arith, c.loop-k.pieces.ok.0, I.taken)) (let at = d.0 in omega (arith, c.loop-k-test.true)) I.runs I.none (sym c.if-is_some.ensures)

pub returns-then-is_some-clause-each : goal.returns-then-is_some-clause-each
returns-then-is_some-clause-each g c =
    let d = placed_at (g.W.Work.knows c.args.work.now) (g.W.Work.makes c.args.work.now) (g.W.Work.fine c.args.work.now) (g.W.Work.faulty c.args.work.now) c.args.owns.now.items c.loop-k.slots.items c.loop-k.k c.args.runs c.index_mut.result.now c.in-Some.piece (let len = c.loop-k.slots.ok.0 in omega (arith, c.loop-k.invariant.count)) c.loop-k-test.true c.loop-k.invariant.right c.index_mut.ensures.value c.in-Some.ensures.value in
    all_push (IsPiece (g.W.Work.makes c.args.work.now) (g.W.Work.fine c.args.work.now) (g.W.Work.faulty c.args.work.now)) c.push.new.self.items c.loop-k.pieces.items c.in-Some.piece c.in_ok-push.ensures.items c.loop-k.invariant.each d.1

pub returns-then-is_some-clause-of : goal.returns-then-is_some-clause-of
returns-then-is_some-clause-of g c =
    let d = placed_at (g.W.Work.knows c.args.work.now) (g.W.Work.makes c.args.work.now) (g.W.Work.fine c.args.work.now) (g.W.Work.faulty c.args.work.now) c.args.owns.now.items c.loop-k.slots.items c.loop-k.k c.args.runs c.index_mut.result.now c.in-Some.piece (let len = c.loop-k.slots.ok.0 in omega (arith, c.loop-k.invariant.count)) c.loop-k-test.true c.loop-k.invariant.right c.index_mut.ensures.value c.in-Some.ensures.value in
    all_push (IsOf (g.W.Work.knows c.args.work.now) c.args.owns.now.items) c.push.new.self.items c.loop-k.pieces.items c.in-Some.piece c.in_ok-push.ensures.items c.loop-k.invariant.of d.2

pub loop-k-preserved : goal.loop-k-preserved
loop-k-preserved g c =
    let d = placed_at (g.W.Work.knows c.args.work.now) (g.W.Work.makes c.args.work.now) (g.W.Work.fine c.args.work.now) (g.W.Work.faulty c.args.work.now) c.args.owns.now.items c.loop-k.slots.items c.loop-k.k c.args.runs c.index_mut.result.now c.in-Some.piece (let len = c.loop-k.slots.ok.0 in omega (arith, c.loop-k.invariant.count)) c.loop-k-test.true c.loop-k.invariant.right c.index_mut.ensures.value c.in-Some.ensures.value in
    let R = IsPlaced (g.W.Work.knows c.args.work.now) (g.W.Work.makes c.args.work.now) (g.W.Work.fine c.args.work.now) (g.W.Work.faulty c.args.work.now) c.args.owns.now.items in
    let I = c.loop-k.invariant in
    record {
      count = I.count;
      right = subst (λ o. IsRight R (set c.loop-k.slots.items c.loop-k.k o)) (sym c.take.ensures.after) (right_unset R c.loop-k.slots.items c.loop-k.k I.right);
      covered = covered_else (g.W.Work.fine c.args.work.now) (g.W.Work.faulty c.args.work.now) c.loop-k.slots.items c.loop-k.k _ c.args.runs c.take.new.self c.take.ensures.after refl I.covered;
      taken = let more = c.in_ok-push.ensures.len in omega (arith, I.taken, more);
      runs = runs_push c.push.new.self.items c.loop-k.pieces.items c.in-Some.piece c.in_ok-push.ensures.items (let at = d.0 in omega (arith, c.loop-k.pieces.ok.0, I.taken)) I.runs;
      each = all_push (IsPiece (g.W.Work.makes c.args.work.now) (g.W.Work.fine c.args.work.now) (g.W.Work.faulty c.args.work.now)) c.push.new.self.items c.loop-k.pieces.items c.in-Some.piece c.in_ok-push.ensures.items I.each d.1;
      of = all_push (IsOf (g.W.Work.knows c.args.work.now) c.args.owns.now.items) c.push.new.self.items c.loop-k.pieces.items c.in-Some.piece c.in_ok-push.ensures.items I.of d.2;
      none = none_push c.push.new.self.items c.loop-k.pieces.items c.in-Some.piece c.in_ok-push.ensures.items I.none (sym (c.if-is_some.ensures));
      fine = fine_more (g.W.Work.fine c.args.work.now) (g.W.Work.faulty c.args.work.now) c.in-Some.piece c.loop-k.k _ d.0 refl d.1.ends (sym c.if-is_some.ensures) I.fine;
    }
