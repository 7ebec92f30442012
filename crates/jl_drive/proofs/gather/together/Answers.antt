use Rattle.std.proofs.Common.{◌≡◌, ◌+◌, IfOk, Some, arith}
use Rattle.std.proofs.lemmas.List.Elements.{All-pop}
use Rattle.jl_drive.specs.declared.jobs.Done.{Done}
use Rattle.jl_drive.specs.Working.{IsDone}
use Rattle.jl_drive.proofs.Lists.{each_pop}
use Rattle.jl_drive.proofs.gather.together.Goals as goal

pub start-requires-clause-done : goal.start-requires-clause-done
start-requires-clause-done g c κs within =
    let w = c.args.work.now in
    let P = IsDone (g.W.Work.fits w) (g.W.Work.knows w) (g.W.Work.makes w) (g.W.Work.fine w) (g.W.Work.faulty w) (g.W.Work.count w) c.args.workers c.args.board.now in
    let each = All-pop (λ r. IfOk r P) c.args.done.items c.pop.new.self.items (Some c.in-Some.first) c.in-Some.ensures.items c.requires.each in
    rw c.in_ok-first.was at each.1

pub start-requires-clause-first : goal.start-requires-clause-first
start-requires-clause-first g c κs within =
    let numbers = each_pop (λ i r. IfOk r (λ (d : Done _ _). d.number + i + 1 ≡ c.args.workers)) c.args.done.items c.pop.new.self.items (Some c.in-Some.first) c.in-Some.ensures.items c.requires.numbers in
    let number = rw c.in_ok-first.was at numbers.1 in
    let fewer = c.in-Some.ensures.cases in
    let len = c.pop.new.self.ok.0 in
    omega (arith, number, fewer, len, c.requires.count)

pub gather-requires-clause-each : goal.gather-requires-clause-each
gather-requires-clause-each g c κs within =
    let w = c.args.work.now in
    let P = IsDone (g.W.Work.fits w) (g.W.Work.knows w) (g.W.Work.makes w) (g.W.Work.fine w) (g.W.Work.faulty w) (g.W.Work.count w) c.args.workers c.args.board.now in
    (All-pop (λ r. IfOk r P) c.args.done.items c.pop.new.self.items (Some c.in-Some.first) c.in-Some.ensures.items c.requires.each).0

pub gather-requires-clause-numbers : goal.gather-requires-clause-numbers
gather-requires-clause-numbers g c κs within =
    (each_pop (λ i r. IfOk r (λ (d : Done _ _). d.number + i + 1 ≡ c.args.workers)) c.args.done.items c.pop.new.self.items (Some c.in-Some.first) c.in-Some.ensures.items c.requires.numbers).0
