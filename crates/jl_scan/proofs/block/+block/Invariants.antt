use Rattle.jl_scan.proofs.block.+block.Given as goal

abbrev pub decreases-block : goal.decreases-block
decreases-block g l = l.level
