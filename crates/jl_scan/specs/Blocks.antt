-- Aligned blocks of runs, and their cells.
use Rattle.std.specs.Prelude.{ℕ, zero, suc, ◌+◌, ◌*◌, ◌/◌}

-- where block k of a level begins: k times two to the power of the level
abbrev pub edge : ℕ → ℕ → ℕ
edge zero k = k
edge (suc l) k = edge l (2 * k)

-- how many blocks n runs have below a level: n of one run each, and each further level half as many
abbrev pub before_level : ℕ → ℕ → ℕ
before_level zero n = 0
before_level (suc l) n = n + before_level l (n / 2)

-- all blocks of at most 2^32 runs
abbrev pub blocks : ℕ → ℕ
blocks n = before_level 33 n

-- the cells have level 0 first, then each level in turn, by k
abbrev pub cell_of : ℕ → ℕ → ℕ → ℕ
cell_of n l k = before_level l n + k

pub record Block : Type 0 where
  pub level : ℕ
  pub k : ℕ

abbrev pub begin_of : Block → ℕ
begin_of b = edge b.level b.k

abbrev pub end_of : Block → ℕ
end_of b = edge b.level (b.k + 1)

-- the block of this number a level higher, of twice as many runs
abbrev pub raised : Block → Block
raised b = record { level = suc b.level; k = b.k }
