use Rattle.std.proofs.Common.{◌≡◌, ◌++◌, take}
use Rattle.jl_compose.proofs.block.joined.Given as goal

abbrev pub invariant-loop-leaf : goal.invariant-loop-leaf
invariant-loop-leaf l = l.leaves.items ≡ take l.leaf-index l.first

abbrev pub invariant-loop-more : goal.invariant-loop-more
invariant-loop-more l = l.leaves.items ≡ l.first ++ take l.more-index l.second
