-- What holds of blocks, walks and costs.
use Rattle.std.specs.Prelude.{◌≡◌, ℕ, ◌+◌, ◌*◌, ◌^◌, ◌<◌, ◌≤◌, Bool, true, List, [], ◌∷◌, length, All}
use Rattle.jl_scan.specs.Blocks.{edge, blocks, cell_of, Block, begin_of, end_of}
use Rattle.jl_scan.specs.Walk.{walk}
use Rattle.jl_scan.specs.Costs.{cost_of, through}

-- the longest block that begins at a and ends at most at b
pub record IsLongest (a b : ℕ) (x : Block) : Type 0 where
  pub begins : begin_of x ≡ a
  pub within : end_of x ≤ b
  pub longest : (y : Block) → begin_of y ≡ a → end_of y ≤ b → y.level ≤ x.level

-- from a to b, each block the longest one that begins where the one before ends
abbrev pub IsWalk : ℕ → ℕ → List Block → Type 0
IsWalk a b [] = a ≡ b
IsWalk a b (x ∷ xs) = IsLongest a b x × IsWalk (end_of x) b xs

abbrev pub WalkGoes : Type 0
WalkGoes = (a b : ℕ) → a ≤ b → IsWalk a b (walk a b)

abbrev pub WalkIsShort : Type 0
WalkIsShort = (d a b : ℕ) → b < 2 ^ d → length (walk a b) ≤ 2 * d

abbrev pub EdgeIsPower : Type 0
EdgeIsPower = (l k : ℕ) → edge l k ≡ k * 2 ^ l

abbrev pub CellsWithin : Type 0
CellsWithin = (n l k : ℕ) → n ≤ 2 ^ 32 → edge l (k + 1) ≤ n → cell_of n l k < blocks n

abbrev pub CellsApart : Type 0
CellsApart = (n l k l' k' : ℕ) → edge l (k + 1) ≤ n → edge l' (k' + 1) ≤ n → cell_of n l k ≡ cell_of n l' k' → (l ≡ l') × (k ≡ k')

abbrev pub CellsFilled : Type 0
CellsFilled = (n i : ℕ) → i < blocks n → (l : ℕ) × (k : ℕ) × (edge l (k + 1) ≤ n) × (cell_of n l k ≡ i)

-- the run r lies in a block that is at hand and lies inside of b
pub record IsSpared (has : ℕ → ℕ → Bool) (b : Block) (r : ℕ) : Type 0 where
  pub level : ℕ
  pub k : ℕ
  pub at_hand : has level k ≡ true
  pub inside : (begin_of b ≤ edge level k) × (edge level (k + 1) ≤ end_of b)
  pub holds : (edge level k ≤ r) × (r < edge level (k + 1))

-- both count alike the frames of the block's runs that lie in none at hand
abbrev pub CountAlike : (ℕ → ℕ → Bool) → (ℕ → ℕ) → (ℕ → ℕ) → Block → Type 0
CountAlike has frames frames' b = (r : ℕ) → begin_of b ≤ r → r < end_of b → (IsSpared has b r → ⊥) → frames r ≡ frames' r

-- so the frames of runs in blocks that are at hand count nothing
abbrev pub CostSpares : Type 0
CostSpares = (has : ℕ → ℕ → Bool) (frames frames' : ℕ → ℕ) (bs : List Block) → All (CountAlike has frames frames') bs → cost_of has frames bs ≡ cost_of has frames' bs

-- what is at hand when the runs from one to another are asked for
pub record Asked : Type 0 where
  pub first : ℕ
  pub end : ℕ
  pub has : ℕ → ℕ → Bool

-- between a and b, each beginning no earlier than the last one's end
abbrev pub AreInOrder : ℕ → ℕ → List Asked → Type 0
AreInOrder a b [] = a ≤ b
AreInOrder a b (c ∷ cs) = (a ≤ c.first) × (c.first ≤ c.end) × AreInOrder c.end b cs

abbrev pub all_cost : (ℕ → ℕ) → List Asked → ℕ
all_cost frames [] = 0
all_cost frames (c ∷ cs) = cost_of c.has frames (walk c.first c.end) + all_cost frames cs

abbrev pub CostIsWithin : Type 0
CostIsWithin = (has : ℕ → ℕ → Bool) (frames : ℕ → ℕ) (a b : ℕ) → a ≤ b → cost_of has frames (walk a b) + through frames a ≤ through frames b

abbrev pub CostsAreWithin : Type 0
CostsAreWithin = (frames : ℕ → ℕ) (a b : ℕ) (asked : List Asked) → AreInOrder a b asked → all_cost frames asked + through frames a ≤ through frames b
