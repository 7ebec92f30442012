-- The summary of a block, wherever it is.
use Rattle.std.specs.Prelude.{Bool, true, false}
use Rattle.jl_scan.specs.declared.block.Found.{Found}
use Rattle.jl_scan.specs.declared.block.Found.TheVariants.{Shared, Own}

abbrev pub held : {X : Type 0} → Found X → X
held (Shared value) = value.now
held (Own value) = value.value

abbrev pub is_shared : {X : Type 0} → Found X → Bool
is_shared (Shared value) = true
is_shared (Own value) = false
