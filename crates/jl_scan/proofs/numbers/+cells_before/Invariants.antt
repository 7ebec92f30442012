use Rattle.jl_scan.proofs.numbers.+cells_before.Given as goal

abbrev pub decreases-cells_before : goal.decreases-cells_before
decreases-cells_before l = l.level
