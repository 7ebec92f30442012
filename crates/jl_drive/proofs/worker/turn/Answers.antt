use Rattle.std.proofs.Common.{◌<◌, ◌≤◌, List, ◌++◌, ◌∷◌, [], Contains, inl, inr, sym, subst, ap, ◌∙◌, arith}
use Rattle.std.proofs.lemmas.List.Elements.{Contains-push}
use Rattle.jl_claim.specs.Standing.{Standing}
use Rattle.jl_drive.specs.declared.piece.Piece.{Piece}
use Rattle.jl_drive.specs.Pieces.{IsPiece}
use Rattle.jl_drive.specs.Working.{IsWorked, lowered_by}
use Rattle.jl_drive.proofs.WorkLemmas.{worked_none, worked_one}
use Rattle.jl_drive.proofs.worker.turn.Goals as goal

pub returns-then-run-runs-clause-worked : goal.returns-then-run-runs-clause-worked
returns-then-run-runs-clause-worked g c =
    let seat = c.args.seat.now in
    let ps = c.args.pieces.now.items in
    let run = c.claim-run.result in
    let n = g.W.Work.count c.args.work.now in
    let W : Standing → Type 0 = λ s. IsWorked (g.W.Work.makes c.args.work.now) (g.W.Work.fine c.args.work.now) (g.W.Work.faulty c.args.work.now) n s.drawn s.lowered s.seen ps in
    let runs = c.runs.ensures in
    subst W (sym c.claim-run.ensures.drawn) (worked_none (g.W.Work.makes c.args.work.now) (g.W.Work.fine c.args.work.now) (g.W.Work.faulty c.args.work.now) n seat.drawn seat.lowered seat.seen seat.seen run ps c.requires.worked (omega arith) (λ below. absurd (omega (arith, runs, c.if-run-runs.true))))

pub returns-then-least-run-clause-worked : goal.returns-then-least-run-clause-worked
returns-then-least-run-clause-worked g c =
    let seat = c.args.seat.now in
    let ps = c.args.pieces.now.items in
    let run = c.claim-run.result in
    let low = c.least.result in
    let n = g.W.Work.count c.args.work.now in
    let W : Standing → Type 0 = λ s. IsWorked (g.W.Work.makes c.args.work.now) (g.W.Work.fine c.args.work.now) (g.W.Work.faulty c.args.work.now) n s.drawn s.lowered s.seen ps in
    let less : low ≤ seat.seen = subst (λ (s : Standing). low ≤ s.seen) c.claim-run.ensures.drawn c.least.ensures.falling in
    let drew = c.claim-run.ensures.drawn in
    let saw = c.least.ensures.seen ∙ ap (λ (s : Standing). record s { seen = low }) drew in
    subst W (sym saw) (worked_none (g.W.Work.makes c.args.work.now) (g.W.Work.fine c.args.work.now) (g.W.Work.faulty c.args.work.now) n seat.drawn seat.lowered seat.seen low run ps c.requires.worked less (λ below. inr (inl c.if-least-run.true)))

pub returns-in_default-clause-worked : goal.returns-in_default-clause-worked
returns-in_default-clause-worked g c =
    let seat = c.args.seat.now in
    let ps = c.args.pieces.now.items in
    let run = c.claim-run.result in
    let low = c.least.result in
    let n = g.W.Work.count c.args.work.now in
    let W : Standing → Type 0 = λ s. IsWorked (g.W.Work.makes c.args.work.now) (g.W.Work.fine c.args.work.now) (g.W.Work.faulty c.args.work.now) n s.drawn s.lowered s.seen ps in
    let less : low ≤ seat.seen = subst (λ (s : Standing). low ≤ s.seen) c.claim-run.ensures.drawn c.least.ensures.falling in
    let drew = c.claim-run.ensures.drawn in
    let saw = c.least.ensures.seen ∙ ap (λ (s : Standing). record s { seen = low }) drew in
    let skipped = rw c.in_default.is at c.in_ok-made.ensures.made in
    subst W (sym saw) (worked_none (g.W.Work.makes c.args.work.now) (g.W.Work.fine c.args.work.now) (g.W.Work.faulty c.args.work.now) n seat.drawn seat.lowered seat.seen low run ps c.requires.worked less (λ below. inr (inr skipped)))

pub note-requires-clause-drawn : goal.note-requires-clause-drawn
note-requires-clause-drawn g c =
    let saw = c.least.ensures.seen ∙ ap (λ (s : Standing). record s { seen = c.least.result }) c.claim-run.ensures.drawn in
    subst (λ (s : Standing). Contains s.drawn c.claim-run.result) (sym saw) (Contains-push c.args.seat.now.drawn c.claim-run.result)

pub returns-clause-worked : goal.returns-clause-worked
returns-clause-worked g c =
    let seat = c.args.seat.now in
    let ps = c.args.pieces.now.items in
    let run = c.claim-run.result in
    let low = c.least.result in
    let n = g.W.Work.count c.args.work.now in
    let makes = g.W.Work.makes c.args.work.now in
    let fine = g.W.Work.fine c.args.work.now in
    let faulty = g.W.Work.faulty c.args.work.now in
    let less : low ≤ seat.seen = subst (λ (s : Standing). low ≤ s.seen) c.claim-run.ensures.drawn c.least.ensures.falling in
    let saw = c.least.ensures.seen ∙ ap (λ (s : Standing). record s { seen = low }) c.claim-run.ensures.drawn in
    let noted = c.note.ensures ∙ ap (λ (s : Standing). record s { lowered = s.lowered ++ lowered_by run c.in-Some.fault }) saw in
    let said = rw c.in-Some.is at c.in_ok-made.ensures.made in
    let p : Piece _ = record { run = run; worker = c.args.number; made = c.in-Some.made; fault = c.in-Some.fault } in
    let piece : IsPiece makes fine faulty p = record { made = said.0; ends = said.1 } in
    let runs = c.runs.ensures in
    let below : run < n = omega (arith, runs, c.if-run-runs.false) in
    subst
    (λ (s : Standing). IsWorked makes fine faulty n s.drawn s.lowered s.seen c.push.new.self.items)
    (sym noted)
    (subst
    (λ (qs : List (Piece _)). IsWorked makes fine faulty n (seat.drawn ++ run ∷ []) (seat.lowered ++ lowered_by run c.in-Some.fault) low qs)
    (sym c.in_ok-push.ensures.items)
    (worked_one makes fine faulty n seat.drawn seat.lowered seat.seen low p ps c.requires.worked less below piece))
