-- How many frames have to be summarised for a block, where some blocks' summaries are at hand.
use Rattle.std.specs.Prelude.{ℕ, zero, suc, ◌+◌, ◌*◌, Bool, if◌then◌else◌, List, [], ◌∷◌}
use Rattle.jl_scan.specs.Blocks.{Block}

-- the frames of a block, and of the first runs, by those of each run
abbrev pub weight : (ℕ → ℕ) → ℕ → ℕ → ℕ
weight frames zero k = frames k
weight frames (suc l) k = weight frames l (2 * k) + weight frames l (2 * k + 1)

abbrev pub through : (ℕ → ℕ) → ℕ → ℕ
through frames zero = 0
through frames (suc n) = through frames n + frames n

module _ (has : ℕ → ℕ → Bool) (frames : ℕ → ℕ) where
  -- nothing where the block is at hand; else what its halves cost, and the frames of a run
  abbrev pub cost : ℕ → ℕ → ℕ
  cost zero k = if has zero k then 0 else frames k
  cost (suc l) k = if has (suc l) k then 0 else cost l (2 * k) + cost l (2 * k + 1)

  -- of the blocks of a walk
  abbrev pub cost_of : List Block → ℕ
  cost_of [] = 0
  cost_of (b ∷ bs) = cost b.level b.k + cost_of bs
