use Rattle.jl_decode.proofs.waves.share_wave.Goals as goal

pub returns-clause-comes : goal.returns-clause-comes
returns-clause-comes g c B = rw c.new-scan.ensures.bounds.1 at (c.deliver_wave.ensures.comes B)
