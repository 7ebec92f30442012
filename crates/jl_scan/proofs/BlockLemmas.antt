-- Edges of blocks, their cells, and walks.
use Rattle.std.proofs.Common.{◌≡◌, ℕ, zero, suc, ◌+◌, ◌-◌, ◌*◌, ◌/◌, ◌%◌, ◌<◌, ◌≤◌, ◌==◌, nat_lt, nat_le, ◌&&◌, if◌then◌else◌, false, List, [], ◌∷◌, refl, ap, sym, subst, ◌∙◌, ⊎_elim, arith}
use Rattle.std.proofs.lemmas.Bool.{cases_lt, lt-ltb, le-ltb, lt-leb, le-leb, leb-true, eqb-true, eq-eqb, and_right, and_parts, and_from, cond-false, cond-true, cond_both}
use Rattle.jl_scan.specs.Blocks.{edge, before_level, cell_of, Block, begin_of, end_of, raised}
use Rattle.jl_scan.specs.Walk.{block_within, block_at, walk_within, walk}

pub edge_double : (l m : ℕ) → edge l (2 * m) ≡ 2 * edge l m
edge_double zero m = refl
edge_double (suc l) m = edge_double l (2 * m)

pub edge_rises : (l k : ℕ) → edge l k < edge l (k + 1)
edge_rises zero k = omega arith
edge_rises (suc l) k = omega (arith, edge_rises l k, edge_double l k, edge_double l (k + 1))

pub edge_mono : (l j k : ℕ) → j ≤ k → edge l j ≤ edge l k
edge_mono zero j k le = le
edge_mono (suc l) j k le = omega (arith, edge_mono l j k le, edge_double l j, edge_double l k)

pub edge_above : (l k : ℕ) → k ≤ edge l k
edge_above zero k = omega arith
edge_above (suc l) k = omega (arith, edge_above l (2 * k))

-- the end of a block is that of its second half
pub edge_end : (l k : ℕ) → edge l (2 * k + 1 + 1) ≡ edge (suc l) (k + 1)
edge_end l k = let same : 2 * k + 1 + 1 ≡ 2 * (k + 1) = omega arith in ap (edge l) same

pub before_small : (l n : ℕ) → before_level l n ≤ 2 * n
before_small zero n = omega arith
before_small (suc l) n = omega (arith, before_small l (n / 2))

pub cell_within : (l m n k : ℕ) → l < m → edge l (k + 1) ≤ n → cell_of n l k < before_level m n
cell_within l zero n k less within = absurd (omega arith)
cell_within zero (suc m) n k less within = omega arith
cell_within (suc l) (suc m) n k less within =
    let half : edge l (k + 1) ≤ n / 2 = omega (arith, edge_double l (k + 1)) in
    omega (arith, cell_within l m (n / 2) k (omega arith) half)

-- more room changes nothing
no_room : (a b : ℕ) → b ≤ 0 → ((a % 2 == 0) && nat_le (a + 2) b) ≡ false
no_room a b le = and_right (a % 2 == 0) (nat_le (a + 2) b) (lt-leb (a + 2) b (omega arith))

pub block_same : (room room' a b : ℕ) → b ≤ room → b ≤ room' → block_within room a b ≡ block_within room' a b
block_same zero zero a b le le' = refl
block_same zero (suc room') a b le le' = sym (cond-false ((a % 2 == 0) && nat_le (a + 2) b) (raised (block_within room' (a / 2) (b / 2))) (record { level = 0; k = a }) (no_room a b le))
block_same (suc room) zero a b le le' = cond-false ((a % 2 == 0) && nat_le (a + 2) b) (raised (block_within room (a / 2) (b / 2))) (record { level = 0; k = a }) (no_room a b le')
block_same (suc room) (suc room') a b le le' =
    let T : Block → Type 0 = λ x. ◌≡◌ {A = Block} (if (a % 2 == 0) && nat_le (a + 2) b then raised (block_within room (a / 2) (b / 2)) else record { level = 0; k = a }) (if (a % 2 == 0) && nat_le (a + 2) b then raised x else record { level = 0; k = a }) in
    subst T (block_same room room' (a / 2) (b / 2) (omega arith) (omega arith)) refl

-- a block that begins at a and ends at most at b, and a step
pub record IsBlock (a b : ℕ) (at : Block) : Type 0 where
  pub begins : begin_of at ≡ a
  pub within : end_of at ≤ b

raised_is : (a b : ℕ) (at : Block) → a % 2 ≡ 0 → IsBlock (a / 2) (b / 2) at → IsBlock a b (raised at)
raised_is a b at even is = record {
  begins = omega (arith, edge_double at.level at.k, is.begins);
  within = omega (arith, edge_double at.level (at.k + 1), is.within);
}

pub block_is : (room a b : ℕ) → a < b → IsBlock a b (block_within room a b)
block_is zero a b less = record { begins = refl; within = omega arith }
block_is (suc room) a b less =
    cond_both
    ((a % 2 == 0) && nat_le (a + 2) b)
    (raised (block_within room (a / 2) (b / 2)))
    (record { level = 0; k = a })
    (λ at. IsBlock a b at)
    (λ e.
    let both = and_parts (a % 2 == 0) (nat_le (a + 2) b) e in
    let even = eqb-true (a % 2) 0 both.0 in
    let room_left = leb-true (a + 2) b both.1 in
    raised_is a b (block_within room (a / 2) (b / 2)) even (block_is room (a / 2) (b / 2) (omega arith)))
    (λ e. record { begins = refl; within = omega arith })

pub block_low : (room a b : ℕ) → a < b → (block_within room a b).level + a < b + 1
block_low zero a b less = omega arith
block_low (suc room) a b less =
    cond_both
    ((a % 2 == 0) && nat_le (a + 2) b)
    (raised (block_within room (a / 2) (b / 2)))
    (record { level = 0; k = a })
    (λ at. at.level + a < b + 1)
    (λ e.
    let both = and_parts (a % 2 == 0) (nat_le (a + 2) b) e in
    let even = eqb-true (a % 2) 0 both.0 in
    let room_left = leb-true (a + 2) b both.1 in
    omega (arith, block_low room (a / 2) (b / 2) (omega arith)))
    (λ e. omega arith)

-- no longer block begins there and ends at most at b
pub block_longest : (room a b m j : ℕ) → b ≤ room → a < b → edge m j ≡ a → edge m (j + 1) ≤ b → m ≤ (block_within room a b).level
block_longest zero a b m j le less begins within = absurd (omega arith)
block_longest (suc room) a b zero j le less begins within = omega arith
block_longest (suc room) a b (suc m) j le less begins within =
    let even : a % 2 ≡ 0 = omega (arith, edge_double m j) in
    let fits : a + 2 ≤ b = omega (arith, edge_double m j, edge_double m (j + 1), edge_rises m j) in
    let test = and_from (a % 2 == 0) (nat_le (a + 2) b) (eq-eqb (a % 2) 0 even) (le-leb (a + 2) b fits) in
    let rest = block_longest room (a / 2) (b / 2) m j (omega arith) (omega arith) (omega (arith, edge_double m j)) (omega (arith, edge_double m (j + 1))) in
    let P : Block → Type 0 = λ at. suc m ≤ at.level in
    subst P (sym (cond-true ((a % 2 == 0) && nat_le (a + 2) b) (raised (block_within room (a / 2) (b / 2))) (record { level = 0; k = a }) test)) (omega arith)

-- a walk goes on after its first block
pub after : (a b : ℕ) → a < b → a < end_of (block_at a b)
after a b less =
    let is = block_is b a b less in
    let begins = is.begins in
    omega (arith, edge_rises (block_at a b).level (block_at a b).k)

pub walk_same : (r r' a b : ℕ) → b ≤ r + a → b ≤ r' + a → walk_within r a b ≡ walk_within r' a b
walk_same zero zero a b le le' = refl
walk_same zero (suc r') a b le le' = sym (cond-false (nat_lt a b) (block_at a b ∷ walk_within r' (end_of (block_at a b)) b) [] (le-ltb a b (omega arith)))
walk_same (suc r) zero a b le le' = cond-false (nat_lt a b) (block_at a b ∷ walk_within r (end_of (block_at a b)) b) [] (le-ltb a b (omega arith))
walk_same (suc r) (suc r') a b le le' =
    ⊎_elim
    (λ less.
    let on = after a b less in
    let T : List Block → Type 0 = λ x. ◌≡◌ {A = List Block} (if nat_lt a b then block_at a b ∷ walk_within r (end_of (block_at a b)) b else []) (if nat_lt a b then block_at a b ∷ x else []) in
    subst T (walk_same r r' (end_of (block_at a b)) b (omega arith) (omega arith)) refl)
    (λ done.
    cond-false (nat_lt a b) (block_at a b ∷ walk_within r (end_of (block_at a b)) b) [] (le-ltb a b done)
    ∙ sym (cond-false (nat_lt a b) (block_at a b ∷ walk_within r' (end_of (block_at a b)) b) [] (le-ltb a b done)))
    (cases_lt a b)

on_from : (b : ℕ) (r a : ℕ) → r ≡ b → a < b → walk_within r a b ≡ block_at a b ∷ walk (end_of (block_at a b)) b
on_from b zero a is less = absurd (omega arith)
on_from b (suc r) a is less =
    let on = after a b less in
    cond-true (nat_lt a b) (block_at a b ∷ walk_within r (end_of (block_at a b)) b) [] (lt-ltb a b less)
    ∙ ap (λ bs. block_at a b ∷ bs) (walk_same r b (end_of (block_at a b)) b (omega arith) (omega arith))

pub walk_on : (a b : ℕ) → a < b → walk a b ≡ block_at a b ∷ walk (end_of (block_at a b)) b
walk_on a b less = on_from b b a refl less

pub walk_done : (a b : ℕ) → b ≤ a → walk a b ≡ []
walk_done a b le = walk_same b 0 a b (omega arith) (omega arith)

-- a block of at most 2^32 runs is below level 33
one_rises : (l m : ℕ) → edge m 1 ≤ edge (l + m) 1
one_rises zero m = let same : 0 + m ≡ m = omega arith in rw same (omega arith)
one_rises (suc l) m =
    let same : suc l + m ≡ suc (l + m) = omega arith in
    rw same (let up = edge_double (l + m) 1 in omega (arith, one_rises l m, up))

pub level_small : (l k : ℕ) → edge l (k + 1) ≤ 4294967296 → l < 33
level_small l k within =
    ⊎_elim
    (λ less. less)
    (λ more.
    let same : l - 33 + 33 ≡ l = omega arith in
    let high : edge 33 1 ≤ edge l 1 = subst (λ (m : ℕ). edge 33 1 ≤ edge m 1) same (one_rises (l - 33) 33) in
    let big : edge 33 1 ≡ 8589934592 = refl in
    let low = edge_mono l 1 (k + 1) (omega arith) in
    absurd (omega (arith, high, big, low)))
    (cases_lt l 33)

pub before_more : (l n : ℕ) → 0 < l → n + before_level (l - 1) (n / 2) ≡ before_level l n
before_more zero n some = absurd (omega arith)
before_more (suc l) n some = let same : suc l - 1 ≡ l = omega arith in rw same refl

pub edge_more : (l k : ℕ) → 0 < l → edge (l - 1) (2 * k) ≡ edge l k
edge_more zero k some = absurd (omega arith)
edge_more (suc l) k some = let same : suc l - 1 ≡ l = omega arith in rw same refl

pub edge_up : (l k : ℕ) → edge (l + 1) k ≡ 2 * edge l k
edge_up l k = let same : l + 1 ≡ suc l = omega arith in ap (λ (m : ℕ). edge m k) same ∙ edge_double l k

pub halves_second : (l k n : ℕ) → 0 < l → edge l (k + 1) ≤ n → edge (l - 1) (2 * k + 1 + 1) ≤ n
halves_second l k n some within =
    let same : 2 * k + 1 + 1 ≡ 2 * (k + 1) = omega arith in
    let e : edge (l - 1) (2 * k + 1 + 1) ≡ edge l (k + 1) = ap (edge (l - 1)) same ∙ edge_more l (k + 1) some in
    omega (arith, e, within)

pub halves_first : (l k n : ℕ) → 0 < l → edge l (k + 1) ≤ n → edge (l - 1) (2 * k + 1) ≤ n
halves_first l k n some within = omega (arith, edge_mono (l - 1) (2 * k + 1) (2 * k + 1 + 1) (omega arith), halves_second l k n some within)

-- two halves of a block together
pub sums_both : {X : Type 0} (sums : ℕ → ℕ → X → Type 0) (lo l k first second : ℕ) (a b c a' b' : X) → 0 < l → first ≡ 2 * k → second ≡ 2 * k + 1 → a ≡ a' → b ≡ b'
    → sums (lo + edge (l - 1) first) (lo + edge (l - 1) (first + 1)) a' → sums (lo + edge (l - 1) second) (lo + edge (l - 1) (second + 1)) b'
    → ((x y z : ℕ) → sums x y a → sums y z b → sums x z c) → sums (lo + edge l k) (lo + edge l (k + 1)) c
sums_both {X} sums lo l k first second a b c a' b' some is is' ea eb left right go =
    let mid : first + 1 ≡ second = omega (arith, is, is') in
    let end : second + 1 ≡ 2 * (k + 1) = omega (arith, is') in
    let e1 : lo + edge (l - 1) first ≡ lo + edge l k = ap (λ (x : ℕ). lo + x) (ap (edge (l - 1)) is ∙ edge_more l k some) in
    let e2 : lo + edge (l - 1) (first + 1) ≡ lo + edge (l - 1) second = ap (λ (x : ℕ). lo + edge (l - 1) x) mid in
    let e3 : lo + edge (l - 1) (second + 1) ≡ lo + edge l (k + 1) = ap (λ (x : ℕ). lo + x) (ap (edge (l - 1)) end ∙ edge_more l (k + 1) some) in
    let left1 : sums (lo + edge (l - 1) first) (lo + edge (l - 1) (first + 1)) a = subst (λ (m : X). sums (lo + edge (l - 1) first) (lo + edge (l - 1) (first + 1)) m) (sym ea) left in
    let left2 : sums (lo + edge (l - 1) first) (lo + edge (l - 1) second) a = subst (λ (y : ℕ). sums (lo + edge (l - 1) first) y a) e2 left1 in
    let left3 : sums (lo + edge l k) (lo + edge (l - 1) second) a = subst (λ (x : ℕ). sums x (lo + edge (l - 1) second) a) e1 left2 in
    let right1 : sums (lo + edge (l - 1) second) (lo + edge (l - 1) (second + 1)) b = subst (λ (m : X). sums (lo + edge (l - 1) second) (lo + edge (l - 1) (second + 1)) m) (sym eb) right in
    let right2 : sums (lo + edge (l - 1) second) (lo + edge l (k + 1)) b = subst (λ (y : ℕ). sums (lo + edge (l - 1) second) y b) e3 right1 in
    go (lo + edge l k) (lo + edge (l - 1) second) (lo + edge l (k + 1)) left3 right2
