use Rattle.std.proofs.Common.{◌≡◌, ◌+◌, IfOk, Some, refl, arith}
use Rattle.std.proofs.lemmas.List.Elements.{All-pop}
use Rattle.jl_drive.specs.declared.jobs.Done.{Done}
use Rattle.jl_drive.specs.Working.{IsDone}
use Rattle.jl_drive.proofs.Lists.{each_pop}
use Rattle.jl_drive.proofs.WorkLemmas.{gathered_more}
use Rattle.jl_drive.proofs.gather.gather.Goals as goal

pub loop-next-preserved : goal.loop-next-preserved
loop-next-preserved g c =
    let w = c.args.work.now in
    let n = g.W.Work.count w in
    let P = IsDone (g.W.Work.fits w) (g.W.Work.knows w) (g.W.Work.makes w) (g.W.Work.fine w) (g.W.Work.faulty w) n c.args.workers c.args.board.now in
    let e = c.in_ok-seat.field-0 in
    let I = c.loop-next.invariant in
    let each = All-pop (λ r. IfOk r P) c.loop-next.rest.items c.pop.new.self.items (Some c.in-Some.next) c.in-Some.ensures.items I.each in
    let numbers = each_pop (λ i r. IfOk r (λ (d : Done _ _). d.number + i + 1 ≡ c.args.workers)) c.loop-next.rest.items c.pop.new.self.items (Some c.in-Some.next) c.in-Some.ensures.items I.numbers in
    let done = rw c.in_ok-seat.was at each.1 in
    let number = rw c.in_ok-seat.was at numbers.1 in
    let count = I.count in
    let fewer = c.in-Some.ensures.cases in
    let len = c.pop.new.self.ok.0 in
    record {
      count = (
        count.0 + 1,
        omega arith,
        omega (arith, count.2, fewer),
        gathered_more (g.W.Work.fits w) (g.W.Work.knows w) (g.W.Work.makes w) (g.W.Work.fine w) (g.W.Work.faulty w) n c.args.workers c.args.board.now count.0 (count.0 + 1) c.loop-next.all _ e count.3 done count.1 (omega (arith, number, count.2, fewer, len)) refl c.join.ensures c.in_ok-push.ensures.items c.in_ok-append.ensures.items,
      );
      each = each.0;
      numbers = numbers.0;
    }
