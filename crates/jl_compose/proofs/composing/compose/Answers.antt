use Rattle.jl_compose.proofs.Turning.{copied_turns, copied_lawful}
use Rattle.jl_compose.proofs.composing.compose.Goals as goal

pub returns-clause-acts : goal.returns-clause-acts
returns-clause-acts c =
    let bytes = c.args.bytes.now in
    copied_turns bytes c.unit-both.result c.args.first.now c.args.second.now c.append.new.first c.append-2.new.first (c.unit-both.ensures.none bytes) (λ o. c.unit-both.ensures.lawful o bytes)
    c.in_ok-append.ensures.acts c.in_ok-append.ensures.lawful c.in_ok-append-2.ensures.acts

pub returns-clause-lawful : goal.returns-clause-lawful
returns-clause-lawful c =
    let bytes = c.args.bytes.now in
    copied_lawful bytes c.unit-both.result c.args.first.now c.args.second.now c.append.new.first c.append-2.new.first (λ o. c.unit-both.ensures.lawful o bytes) c.in_ok-append.ensures.lawful c.in_ok-append-2.ensures.lawful
