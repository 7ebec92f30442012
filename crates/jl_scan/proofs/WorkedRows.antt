-- Worked rows: the blocks of eleven runs, and walks over them.
use Rattle.std.proofs.Common.{◌≡◌, ℕ, [], ◌∷◌, refl, map}
use Rattle.jl_scan.specs.Blocks.{edge, blocks, cell_of}
use Rattle.jl_scan.specs.Walk.{walk}

pub third_of_four : edge 2 3 ≡ 12
third_of_four = refl

-- 11 of one run, 5 of two, 2 of four, 1 of eight
pub blocks_of_eleven : blocks 11 ≡ 19
blocks_of_eleven = refl

pub second_of_four : cell_of 11 2 1 ≡ 17
second_of_four = refl

pub from_three : map {B = ℕ × ℕ} (λ b. (b.level, b.k)) (walk 3 11) ≡ (0, 3) ∷ (2, 1) ∷ (1, 4) ∷ (0, 10) ∷ []
from_three = refl

pub whole : map {B = ℕ × ℕ} (λ b. (b.level, b.k)) (walk 0 8) ≡ (3, 0) ∷ []
whole = refl

pub nowhere : walk 5 5 ≡ []
nowhere = refl
