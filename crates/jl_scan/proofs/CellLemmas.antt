-- Cells of blocks, each block's its own, and edges as powers.
use Rattle.std.proofs.Common.{◌≡◌, ℕ, zero, suc, ◌+◌, ◌-◌, ◌*◌, ◌/◌, ◌^◌, ◌<◌, ◌≤◌, List, refl, ap, sym, subst, ◌∙◌, ⊎_elim, arith}
use Rattle.std.proofs.Math.Nat.{mul_comm, mul_assoc, pow-succ'}
use Rattle.std.proofs.lemmas.Bool.{cases_lt}
use Rattle.jl_scan.specs.Blocks.{edge, before_level, cell_of, Block, end_of}
use Rattle.jl_scan.specs.Walk.{block_at, walk}
use Rattle.jl_scan.specs.Laws.{IsLongest, IsWalk, WalkGoes, WalkIsShort, EdgeIsPower, CellsWithin, CellsApart, CellsFilled}
use Rattle.jl_scan.proofs.BlockLemmas.{edge_double, cell_within, level_small, block_is, block_longest, after, walk_on, walk_done}
use Rattle.jl_scan.proofs.WalkLength.{walk_length}

pub edge_is_power : EdgeIsPower
edge_is_power zero k = let e : k * 1 ≡ k = omega arith in sym e
edge_is_power (suc l) k =
    let turn : 2 * k * 2 ^ l ≡ k * (2 * 2 ^ l) = ap (λ (m : ℕ). m * 2 ^ l) (mul_comm 2 k) ∙ mul_assoc k 2 (2 ^ l) in
    edge_is_power l (2 * k) ∙ (turn ∙ ap (λ (m : ℕ). k * m) (sym (pow-succ' 2 l)))

pub cells_within : CellsWithin
cells_within n l k few within =
    let big : 2 ^ 32 ≡ 4294967296 = refl in
    let small : edge l (k + 1) ≤ 4294967296 = omega (arith, few, within, big) in
    cell_within l 33 n k (level_small l k small) within

same_level : (n l k l' k' : ℕ) → l ≡ l' → cell_of n l k ≡ cell_of n l' k' → (l ≡ l') × (k ≡ k')
same_level n l k l' k' same cells =
    let e : before_level l n ≡ before_level l' n = ap (λ (m : ℕ). before_level m n) same in
    (same, omega (arith, e, cells))

pub cells_apart : CellsApart
cells_apart n l k l' k' within within' same =
    ⊎_elim
    (λ less. let low = cell_within l l' n k less within in absurd (omega (arith, low, same)))
    (λ more.
    ⊎_elim
    (λ less. let low = cell_within l' l n k' less within' in absurd (omega (arith, low, same)))
    (λ most. same_level n l k l' k' (omega (arith, more, most)) same)
    (cases_lt l' l))
    (cases_lt l l')

filled : (m n i : ℕ) → i < before_level m n → (l : ℕ) × (k : ℕ) × (edge l (k + 1) ≤ n) × (cell_of n l k ≡ i)
filled zero n i less = absurd (omega (arith, less))
filled (suc m) n i less =
    ⊎_elim
    (λ low. let none : 0 + i ≡ i = omega arith in (0, i, omega (arith, low), none))
    (λ high.
    let up = filled m (n / 2) (i - n) (omega (arith, less, high)) in
    let within = up.2 in
    let is = up.3 in
    (suc up.0, up.1, omega (arith, within, edge_double up.0 (up.1 + 1)), omega (arith, is, high)))
    (cases_lt i n)

pub cells_filled : CellsFilled
cells_filled n i less = filled 33 n i less

pub walk_is_short : WalkIsShort
walk_is_short d a b less =
    let one : edge d 1 ≡ 1 * 2 ^ d = edge_is_power d 1 in
    walk_length d a b (omega (arith, one, less))

walk_is : (room a b : ℕ) → a ≤ b → b ≤ room + a → IsWalk a b (walk a b)
walk_is zero a b le more =
    let past : b ≤ a = omega (arith, more) in
    let same : a ≡ b = omega (arith, le, past) in
    subst (λ (ws : List Block). IsWalk a b ws) (sym (walk_done a b past)) same
walk_is (suc room) a b le more =
    ⊎_elim
    (λ less.
    let is = block_is b a b less in
    let on = after a b less in
    let within = is.within in
    let first : IsLongest a b (block_at a b) = record { begins = is.begins; within = within; longest = λ y begins ends. block_longest b a b y.level y.k (omega arith) less begins ends } in
    subst (λ (ws : List Block). IsWalk a b ws) (sym (walk_on a b less)) (first, walk_is room (end_of (block_at a b)) b within (omega (arith, on, more))))
    (λ done. let same : a ≡ b = omega arith in subst (λ (ws : List Block). IsWalk a b ws) (sym (walk_done a b done)) same)
    (cases_lt a b)

pub walk_goes : WalkGoes
walk_goes a b le = walk_is b a b le (omega arith)
