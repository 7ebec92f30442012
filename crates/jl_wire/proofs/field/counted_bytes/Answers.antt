use Rattle.std.proofs.Common.{arith, ◌-◌, ◌≤◌}
use Rattle.jl_wire.proofs.FieldSteps.{counted}
use Rattle.jl_wire.proofs.field.counted_bytes.Goals as goal

pub returns-clause-exact : goal.returns-clause-exact
returns-clause-exact c =
    let within = c.in_ok-len.ensures.within in
    let fits : c.in_ok-len.len ≤ c.args.end - c.in_ok-len.start = omega arith in
    counted _ _ _ _ _ (omega (arith, within)) (omega (arith, within)) c.requires.inside fits c.in_ok-len.ensures.exact
