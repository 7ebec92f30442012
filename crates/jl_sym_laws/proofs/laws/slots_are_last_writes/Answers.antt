use Rattle.jl_sym_laws.proofs.LastWrites.{slot_is_last_write}
use Rattle.jl_sym_laws.proofs.laws.slots_are_last_writes.Goals as goal

pub returns : goal.returns
returns c = slot_is_last_write
