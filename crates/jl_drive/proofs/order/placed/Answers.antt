use Rattle.std.proofs.Common.{◌≡◌, ◌<◌, inr, Some, length, refl, subst, sym, arith}
use Rattle.std.proofs.lemmas.List.Elements.{All-pop}
use Rattle.jl_drive.specs.declared.piece.Piece.{Piece}
use Rattle.jl_drive.specs.Pieces.{IsOf, IsPiece}
use Rattle.jl_drive.specs.Placing.{IsPlaced, IsRight}
use Rattle.jl_drive.proofs.Lists.{right_none, right_set, covered_step, no_more, slots_count}
use Rattle.jl_drive.proofs.order.placed.Goals as goal

pub loop-piece-init : goal.loop-piece-init
loop-piece-init g c =
    let all : c.loop.counter ≡ c.args.runs = omega (arith, c.loop-test.false, c.loop.auto.counter-end) in
    let R = IsPlaced (g.W.Work.knows c.args.work.now) (g.W.Work.makes c.args.work.now) (g.W.Work.fine c.args.work.now) (g.W.Work.faulty c.args.work.now) c.args.owns.now.items in
    let len = slots_count c.loop.counter c.loop.slots.items c.loop.invariant in
    record {
      count = omega (arith, c.loop.slots.ok.0, len, all);
      right = subst (λ xs. IsRight R xs) (sym c.loop.invariant) (right_none R c.loop.counter);
      each = c.requires.each;
      of = c.requires.of;
      within = c.requires.within;
      covered = λ k below. inr (c.requires.covered k below);
    }

pub index_mut-requires : goal.index_mut-requires
index_mut-requires g c =
    let last = (All-pop (λ (p : Piece _). p.run < c.args.runs) c.loop-piece.pieces.items c.pop.new.self.items (Some c.in-Some.piece) c.in-Some.ensures.items c.loop-piece.invariant.within).1 in
    omega (arith, last, c.loop-piece.invariant.count)

pub loop-piece-preserved-in-Some : goal.loop-piece-preserved-in-Some
loop-piece-preserved-in-Some g c =
    let R = IsPlaced (g.W.Work.knows c.args.work.now) (g.W.Work.makes c.args.work.now) (g.W.Work.fine c.args.work.now) (g.W.Work.faulty c.args.work.now) c.args.owns.now.items in
    let I = c.loop-piece.invariant in
    let p = c.in-Some.piece in
    let within = All-pop (λ (p : Piece _). p.run < c.args.runs) c.loop-piece.pieces.items c.pop.new.self.items (Some p) c.in-Some.ensures.items I.within in
    let each = All-pop (IsPiece (g.W.Work.makes c.args.work.now) (g.W.Work.fine c.args.work.now) (g.W.Work.faulty c.args.work.now)) c.loop-piece.pieces.items c.pop.new.self.items (Some p) c.in-Some.ensures.items I.each in
    let of = All-pop (IsOf (g.W.Work.knows c.args.work.now) c.args.owns.now.items) c.loop-piece.pieces.items c.pop.new.self.items (Some p) c.in-Some.ensures.items I.of in
    let here = within.1 in
    let inside : p.run < length c.loop-piece.slots.items = omega (arith, c.loop-piece.slots.ok.0, I.count, here) in
    record {
      count = I.count;
      right = right_set R c.loop-piece.slots.items p.run p inside (refl, each.1, of.1) I.right;
      each = each.0;
      of = of.0;
      within = within.0;
      covered = covered_step (g.W.Work.fine c.args.work.now) c.args.runs c.loop-piece.slots.items c.loop-piece.pieces.items c.pop.new.self.items p c.in-Some.ensures.items inside I.covered;
    }

pub returns-clause-covered : goal.returns-clause-covered
returns-clause-covered g c =
    let none = c.in_default.ensures.cases in
    λ k below. no_more (g.W.Work.fine c.args.work.now) c.loop-piece.slots.items c.loop-piece.pieces.items k (omega (arith, c.loop-piece.pieces.ok.0, none.0)) (c.loop-piece.invariant.covered k below)

pub loop-piece-preserved : goal.loop-piece-preserved
loop-piece-preserved g c =
    let R = IsPlaced (g.W.Work.knows c.args.work.now) (g.W.Work.makes c.args.work.now) (g.W.Work.fine c.args.work.now) (g.W.Work.faulty c.args.work.now) c.args.owns.now.items in
    let I = c.loop-piece.invariant in
    let p = c.in-Some.piece in
    let within = All-pop (λ (p : Piece _). p.run < c.args.runs) c.loop-piece.pieces.items c.pop.new.self.items (Some p) c.in-Some.ensures.items I.within in
    let each = All-pop (IsPiece (g.W.Work.makes c.args.work.now) (g.W.Work.fine c.args.work.now) (g.W.Work.faulty c.args.work.now)) c.loop-piece.pieces.items c.pop.new.self.items (Some p) c.in-Some.ensures.items I.each in
    let of = All-pop (IsOf (g.W.Work.knows c.args.work.now) c.args.owns.now.items) c.loop-piece.pieces.items c.pop.new.self.items (Some p) c.in-Some.ensures.items I.of in
    let here = within.1 in
    let inside : p.run < length c.loop-piece.slots.items = omega (arith, c.loop-piece.slots.ok.0, I.count, here) in
    record {
      count = I.count;
      right = right_set R c.loop-piece.slots.items p.run p inside (refl, each.1, of.1) I.right;
      each = each.0;
      of = of.0;
      within = within.0;
      covered = covered_step (g.W.Work.fine c.args.work.now) c.args.runs c.loop-piece.slots.items c.loop-piece.pieces.items c.pop.new.self.items p c.in-Some.ensures.items inside I.covered;
    }
