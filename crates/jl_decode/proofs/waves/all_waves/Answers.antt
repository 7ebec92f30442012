use Rattle.jl_decode.proofs.waves.all_waves.Goals as goal

pub returns-then-workers-lt2-clause-comes : goal.returns-then-workers-lt2-clause-comes
returns-then-workers-lt2-clause-comes g c B = rw c.bytes-bytes.ensures.all at (c.decode_waves.ensures.comes B)
