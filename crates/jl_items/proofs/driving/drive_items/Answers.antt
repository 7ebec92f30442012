use Rattle.std.proofs.Common.{Option, None, ap, sym, subst, ◌∙◌}
use Rattle.jl_base.specs.declared.place.Fault.{Fault}
use Rattle.jl_scan.specs.Fields.{after}
use Rattle.jl_wave.specs.Waves.{Leaves}
use Rattle.jl_items.proofs.driving.drive_items.Goals as goal

pub returns-in-Some-clause-made : goal.returns-in-Some-clause-made
returns-in-Some-clause-made g c =
    rw (sym (c.in_ok-state.ensures.seen g.F.Scanned.field.bytes), sym c.in_ok-kept.ensures) c.in_ok-pieces.ensures.made

pub returns-in-None-clause-made : goal.returns-in-None-clause-made
returns-in-None-clause-made g c =
    rw (sym (c.in_ok-state.ensures.seen g.F.Scanned.field.bytes), sym c.in_ok-kept.ensures) c.in_ok-pieces.ensures.made

pub returns-in-None-clause-ends : goal.returns-in-None-clause-ends
returns-in-None-clause-ends g c =
    let w = g.F.Scanned.field in
    let n = c.args.scan.now.runs in
    let s = c.in_ok-state.state in
    let t = c.drive_wave.new.state in
    let left : Leaves w n s t None = subst (λ (f : Option Fault). Leaves w n s t f) c.in-None.is c.in_ok-pieces.ensures.leaves in
    rw c.in-None.is (left.0, ap (after w 0 n) (sym (c.in_ok-state.ensures.seen w.bytes)) ∙ left.1)
