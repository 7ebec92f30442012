use Rattle.jl_scan.proofs.numbers.+edge.Given as goal

abbrev pub decreases-edge : goal.decreases-edge
decreases-edge l = l.level
