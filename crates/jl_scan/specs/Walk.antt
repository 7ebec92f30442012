-- The walk from one run to another.
use Rattle.std.specs.Prelude.{ℕ, zero, suc, ◌+◌, ◌/◌, ◌%◌, ◌==◌, nat_lt, nat_le, ◌&&◌, if◌then◌else◌, List, [], ◌∷◌}
use Rattle.jl_scan.specs.Blocks.{Block, end_of, raised}

-- The longest block that begins at a and ends at most at b: of one run, unless half of both leaves room for a block.
abbrev pub block_within : ℕ → ℕ → ℕ → Block
block_within zero a b = record { level = 0; k = a }
block_within (suc room) a b = if (a % 2 == 0) && nat_le (a + 2) b then raised (block_within room (a / 2) (b / 2)) else record { level = 0; k = a }

abbrev pub block_at : ℕ → ℕ → Block
block_at a b = block_within b a b

-- from a on, with the longest block each time, to b
abbrev pub walk_within : ℕ → ℕ → ℕ → List Block
walk_within zero a b = []
walk_within (suc room) a b = if nat_lt a b then block_at a b ∷ walk_within room (end_of (block_at a b)) b else []

abbrev pub walk : ℕ → ℕ → List Block
walk a b = walk_within b a b
