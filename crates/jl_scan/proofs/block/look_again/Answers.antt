use Rattle.std.proofs.Common.{◌∙◌, sym}
use Rattle.jl_scan.proofs.block.look_again.Goals as goal

pub loop-i-init : goal.loop-i-init
loop-i-init g c = record { cells = c.requires.cells; kept = λ i x h. h }

pub look_at-requires-clause-cells : goal.look_at-requires-clause-cells
look_at-requires-clause-cells g c = c.loop-i.invariant.cells

pub loop-i-preserved : goal.loop-i-preserved
loop-i-preserved g c =
    let I = c.loop-i.invariant in
    record { cells = c.look_at.ensures.cells ∙ I.cells; kept = λ i x h. c.look_at.ensures.kept i x (I.kept i x h) }

pub returns-in-Some-clause-kept : goal.returns-in-Some-clause-kept
returns-in-Some-clause-kept g c = λ i x h. c.look_at.ensures.kept i x (c.loop-i.invariant.kept i x h)

pub returns-in-Some-clause-cells : goal.returns-in-Some-clause-cells
returns-in-Some-clause-cells g c = c.look_at.ensures.cells ∙ (c.loop-i.invariant.cells ∙ sym c.requires.cells)

pub returns-clause-kept : goal.returns-clause-kept
returns-clause-kept g c = c.loop-i.invariant.kept

pub returns-clause-cells : goal.returns-clause-cells
returns-clause-cells g c = c.loop-i.invariant.cells ∙ sym c.requires.cells
