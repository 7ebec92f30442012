use Rattle.jl_spell.proofs.MessageLaws.{messages_ascend, messages_back}
use Rattle.jl_spell.proofs.laws.messages_read_back.Goals as goal

pub returns-clause-ascend : goal.returns-clause-ascend
returns-clause-ascend c = messages_ascend

pub returns-clause-back : goal.returns-clause-back
returns-clause-back c = messages_back
