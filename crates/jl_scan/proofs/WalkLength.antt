-- How many blocks a walk has.
use Rattle.std.proofs.Common.{◌≡◌, ℕ, zero, suc, ◌+◌, ◌*◌, ◌/◌, ◌%◌, ◌<◌, ◌≤◌, ◌==◌, nat_le, ◌&&◌, length, refl, ap, subst, ◌∙◌, ⊎_elim, arith}
use Rattle.std.proofs.lemmas.Bool.{cases_lt, cases_eq, le-leb, eq-eqb, ne_eqb, and_from, and_left, cond-true, cond-false}
use Rattle.jl_scan.specs.Blocks.{edge, end_of, raised}
use Rattle.jl_scan.specs.Walk.{block_within, block_at, walk}
use Rattle.jl_scan.proofs.BlockLemmas.{edge_double, block_same, block_is, after, walk_on, walk_done}

-- from an even run and with room for two, a block is a block of twice as few runs, raised
block_even : (room x y b : ℕ) → b ≤ room → b / 2 ≡ y → x < y → block_within room (2 * x) b ≡ raised (block_at x y)
block_even zero x y b le half less = absurd (omega arith)
block_even (suc room) x y b le half less =
    let test = and_from ((2 * x) % 2 == 0) (nat_le (2 * x + 2) b) (eq-eqb ((2 * x) % 2) 0 (omega arith)) (le-leb (2 * x + 2) b (omega arith)) in
    let same : (2 * x) / 2 ≡ x = omega arith in
    cond-true (((2 * x) % 2 == 0) && nat_le (2 * x + 2) b) (raised (block_within room ((2 * x) / 2) (b / 2))) (record { level = 0; k = 2 * x }) test
    ∙ rw (same, half) (ap raised (block_same room y x y (omega arith) (omega arith)))

odd_block : (room a b : ℕ) → a % 2 ≡ 1 → block_within room a b ≡ record { level = 0; k = a }
odd_block zero a b odd = refl
odd_block (suc room) a b odd =
    cond-false
    ((a % 2 == 0) && nat_le (a + 2) b)
    (raised (block_within room (a / 2) (b / 2)))
    (record { level = 0; k = a })
    (and_left (a % 2 == 0) (nat_le (a + 2) b) (ne_eqb (a % 2) 0 (λ even. omega arith)))

-- the length of a walk between even runs
even_length : (room x y b : ℕ) → y ≤ room + x → b / 2 ≡ y → b ≡ 2 * y → length (walk (2 * x) b) ≡ length (walk x y)
even_length zero x y b le half is =
    let none : length (walk (2 * x) b) ≡ 0 = ap length (walk_done (2 * x) b (omega arith)) in
    let none' : length (walk x y) ≡ 0 = ap length (walk_done x y (omega arith)) in
    omega (arith, none, none')
even_length (suc room) x y b le half is =
    ⊎_elim
    (λ less.
    let first : block_at (2 * x) b ≡ raised (block_at x y) = block_even b x y b (omega arith) half less in
    let end : end_of (block_at (2 * x) b) ≡ 2 * end_of (block_at x y) = ap end_of first ∙ edge_double (block_at x y).level ((block_at x y).k + 1) in
    let on = after x y less in
    let rest = even_length room (end_of (block_at x y)) y b (omega arith) half is in
    let big : length (walk (2 * x) b) ≡ suc (length (walk (end_of (block_at (2 * x) b)) b)) = ap length (walk_on (2 * x) b (omega arith)) in
    let small : length (walk x y) ≡ suc (length (walk (end_of (block_at x y)) y)) = ap length (walk_on x y less) in
    let same : length (walk (end_of (block_at (2 * x) b)) b) ≡ length (walk (2 * end_of (block_at x y)) b) = ap (λ e. length (walk e b)) end in
    omega (arith, big, small, same, rest))
    (λ done.
    let none : length (walk (2 * x) b) ≡ 0 = ap length (walk_done (2 * x) b (omega arith)) in
    let none' : length (walk x y) ≡ 0 = ap length (walk_done x y (omega arith)) in
    omega (arith, none, none'))
    (cases_lt x y)

-- and where the last one is odd
last_leaf : (x y b : ℕ) → x ≡ y → b ≡ 2 * y + 1 → length (walk (2 * x) b) ≡ length (walk x y) + 1
last_leaf x y b same is =
    let block = block_is b (2 * x) b (omega arith) in
    let on = after (2 * x) b (omega arith) in
    let within = block.within in
    let big : length (walk (2 * x) b) ≡ suc (length (walk (end_of (block_at (2 * x) b)) b)) = ap length (walk_on (2 * x) b (omega arith)) in
    let none : length (walk (end_of (block_at (2 * x) b)) b) ≡ 0 = ap length (walk_done (end_of (block_at (2 * x) b)) b (omega arith)) in
    let none' : length (walk x y) ≡ 0 = ap length (walk_done x y (omega arith)) in
    omega (arith, big, none, none')

odd_length : (room x y b : ℕ) → y ≤ room + x → x ≤ y → b / 2 ≡ y → b ≡ 2 * y + 1 → length (walk (2 * x) b) ≡ length (walk x y) + 1
odd_length zero x y b le order half is = last_leaf x y b (omega arith) is
odd_length (suc room) x y b le order half is =
    ⊎_elim
    (λ less.
    let first : block_at (2 * x) b ≡ raised (block_at x y) = block_even b x y b (omega arith) half less in
    let end : end_of (block_at (2 * x) b) ≡ 2 * end_of (block_at x y) = ap end_of first ∙ edge_double (block_at x y).level ((block_at x y).k + 1) in
    let on = after x y less in
    let within = (block_is y x y less).within in
    let rest = odd_length room (end_of (block_at x y)) y b (omega arith) (omega (arith, within)) half is in
    let big : length (walk (2 * x) b) ≡ suc (length (walk (end_of (block_at (2 * x) b)) b)) = ap length (walk_on (2 * x) b (omega arith)) in
    let small : length (walk x y) ≡ suc (length (walk (end_of (block_at x y)) y)) = ap length (walk_on x y less) in
    let same : length (walk (end_of (block_at (2 * x) b)) b) ≡ length (walk (2 * end_of (block_at x y)) b) = ap (λ e. length (walk e b)) end in
    omega (arith, big, small, same, rest))
    (λ done. last_leaf x y b (omega arith) is)
    (cases_lt x y)

-- from an even run, at most one block more than for half of the runs
half_walk : (x b : ℕ) → length (walk (2 * x) b) ≤ length (walk x (b / 2)) + 1
half_walk x b =
    ⊎_elim
    (λ even. let same = even_length (b / 2) x (b / 2) b (omega arith) refl (omega arith) in omega (arith, same))
    (λ odd.
    ⊎_elim
    (λ less. let same = odd_length (b / 2) x (b / 2) b (omega arith) (omega arith) refl (omega arith) in omega (arith, same))
    (λ past. let none : length (walk (2 * x) b) ≡ 0 = ap length (walk_done (2 * x) b past) in omega (arith, none))
    (cases_lt (2 * x) b))
    (cases_eq (b % 2) 0)

odd_first : (x b : ℕ) → 2 * x + 1 < b → length (walk (2 * x + 1) b) ≡ suc (length (walk (2 * (x + 1)) b))
odd_first x b less =
    let block = block_is b (2 * x + 1) b less in
    let no : block_at (2 * x + 1) b ≡ record { level = 0; k = 2 * x + 1 } = odd_block b (2 * x + 1) b (omega arith) in
    let end : end_of (block_at (2 * x + 1) b) ≡ 2 * (x + 1) = ap end_of no ∙ omega arith in
    ap length (walk_on (2 * x + 1) b less) ∙ ap (λ e. suc (length (walk e b))) end

-- A walk that ends before the run 2^d has at most 2 d blocks.
pub walk_length : (d a b : ℕ) → b < edge d 1 → length (walk a b) ≤ 2 * d
walk_length zero a b less = let none : length (walk a b) ≡ 0 = ap length (walk_done a b (omega arith)) in omega (arith, none)
walk_length (suc d) a b less =
    let half : b / 2 < edge d 1 = omega (arith, edge_double d 1) in
    ⊎_elim
    (λ even.
    let same : 2 * (a / 2) ≡ a = omega arith in
    let le : length (walk (2 * (a / 2)) b) ≤ length (walk (a / 2) (b / 2)) + 1 = half_walk (a / 2) b in
    let at : length (walk a b) ≤ length (walk (a / 2) (b / 2)) + 1 = subst (λ e. length (walk e b) ≤ length (walk (a / 2) (b / 2)) + 1) same le in
    omega (arith, at, walk_length d (a / 2) (b / 2) half))
    (λ odd.
    ⊎_elim
    (λ before.
    let same : 2 * (a / 2) + 1 ≡ a = omega arith in
    let first = odd_first (a / 2) b (omega arith) in
    let le = half_walk (a / 2 + 1) b in
    let at : length (walk a b) ≡ suc (length (walk (2 * (a / 2 + 1)) b)) = subst (λ e. length (walk e b) ≡ suc (length (walk (2 * (a / 2 + 1)) b))) same first in
    omega (arith, at, le, walk_length d (a / 2 + 1) (b / 2) half))
    (λ past. let none : length (walk a b) ≡ 0 = ap length (walk_done a b past) in omega (arith, none))
    (cases_lt a b))
    (cases_eq (a % 2) 0)
