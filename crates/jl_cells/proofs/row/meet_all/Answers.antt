use Rattle.std.proofs.Common.{◌≡◌, List, ap, set, sym, ◌∙◌, arith}
use Rattle.std.proofs.lemmas.List.{set-get_or}
use borrow.Author.Count.{below_more}
use Rattle.jl_cells.specs.Knowledge.{Seen}
use Rattle.jl_cells.proofs.KnowledgeLemmas.{cells, meet_here, meets, same_cell, within_row}
use Rattle.jl_cells.proofs.row.meet_all.Goals as goal

pub meet-requires : goal.meet-requires
meet-requires g c =
    let kept = c.loop-i.invariant in
    let row : cells c.loop-i.a ≡ cells c.loop-i.b = ap (λ (s : List (Seen g.row.T.Denot)). cells s) kept.a ∙ (c.requires ∙ sym (ap (λ (s : List (Seen g.row.T.Denot)). cells s) kept.b)) in
    same_cell (λ (s : Seen g.row.T.Denot). s.cell) c.loop-i.a c.loop-i.b c.loop-i.i c.index-a-i.result c.index-b-i.result row
    (omega (arith, within_row c.args.a.now c.args.b.now (λ (s : Seen g.row.T.Denot). s.cell) c.requires))

pub loop-i-preserved : goal.loop-i-preserved
loop-i-preserved g c =
    let kept = c.loop-i.invariant in record {
      a = ap (set c.loop-i.a c.loop-i.i) c.meet.ensures.same.0 ∙ (set-get_or _ _ _ ∙ kept.a);
      b = ap (set c.loop-i.b c.loop-i.i) c.meet.ensures.same.1 ∙ (set-get_or _ _ _ ∙ kept.b);
      one = below_more
          _
          _
          kept.one
          (meet_here c.loop-i.a c.loop-i.b c.args.a.now c.args.b.now c.loop-i.i c.index-a-i.result c.index-b-i.result kept.a kept.b (omega arith)
          (omega (arith, within_row c.args.a.now c.args.b.now (λ (s : Seen g.row.T.Denot). s.cell) c.requires)) c.meet.ensures.one);
    }

pub returns-clause-meet : goal.returns-clause-meet
returns-clause-meet g c = meets c.args.a.now c.args.b.now (λ k within. c.loop-i.invariant.one k (omega arith))
