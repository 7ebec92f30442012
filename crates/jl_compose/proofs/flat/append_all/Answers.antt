use Rattle.std.proofs.Common.{ap, sym, ◌∙◌, ◌∷◌}
use Rattle.jl_sym.specs.declared.summary.Summary.{Summary}
use Rattle.jl_compose.proofs.Leaves.{appending_on, appended_all}
use Rattle.jl_compose.proofs.flat.append_all.Goals as goal

pub appending-preserved : goal.appending-preserved
appending-preserved c =
    let e = c.in-Some.ensures.cases.0 ∙ ap (λ (m : Summary). m ∷ c.in-Some.others.now) (sym c.get.ensures) in
    appending_on c.args.bytes.now c.args.leaves.now c.args.whole.now c.get.result.now c.in-Some.others.now c.appending.rest.now c.appending.whole c.append.new.first e c.appending.invariant
    c.in_ok-append.ensures.acts c.in_ok-append.ensures.lawful c.in_ok-append.ensures.rows

pub returns-clause-acts : goal.returns-clause-acts
returns-clause-acts c = appended_all c.args.bytes.now c.args.leaves.now c.args.whole.now c.appending.rest.now c.appending.whole c.in_default.ensures.cases c.appending.invariant

pub returns-clause-lawful : goal.returns-clause-lawful
returns-clause-lawful c o small h k = (c.appending.invariant.lawful o small h k).0
