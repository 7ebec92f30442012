use Rattle.jl_compose.proofs.Turning.{appended_turns, appended_lawful}
use Rattle.jl_compose.proofs.composing.append.Goals as goal

pub returns-clause-acts : goal.returns-clause-acts
returns-clause-acts c o small h k = appended_turns o c.args.bytes.now c.args.first.now c.args.second.now c.put_after.new.first c.in_ok-put_after.ensures.seen small h k

pub returns-clause-lawful : goal.returns-clause-lawful
returns-clause-lawful c o small h k = appended_lawful o c.args.bytes.now c.args.first.now c.args.second.now c.put_after.new.first c.in_ok-put_after.ensures.seen c.in_ok-put_after.ensures.held small h k
