-- How often numbers stand in lists, and the least of them.
use Rattle.std.proofs.Common.{◌≡◌, ℕ, zero, suc, ◌+◌, ◌-◌, ◌<◌, ◌≤◌, min, Bool, cond, ◌&&◌, ◌==◌, nat_lt, nat_le, List, [], ◌∷◌, ◌++◌, get_or, All, sum_by, count_by, refl, ◌∙◌, ⊎_elim, arith}
use Rattle.std.proofs.lemmas.Bool.{cases_lt}
use Rattle.std.proofs.lemmas.Bool.Decides.{nat_tests}
use Rattle.std.proofs.lemmas.List.Sums.{sum_by-cons, sum_by-append, sum_by_push, sum_by-le-sum_by, get_or-le-sum_by}
use Rattle.std.proofs.lemmas.List.Elements.{All-head, All-tail, All-nil, All-cons, All-weaker}
use Rattle.jl_claim.specs.Numbers.{times, once_below, least_of}
use Rattle.jl_claim.specs.Rule.{count_above}
use Rattle.jl_claim.specs.declared.view.View.{View}
use Rattle.jl_claim.proofs.Sums.{sum_by_same, sum_by_two, sum_by_le}

abbrev pub one_if : Bool → ℕ
one_if b = cond b 1 0

pub times_push : (x y : ℕ) (xs : List ℕ) → times x (xs ++ y ∷ []) ≡ times x xs + one_if (y == x)
times_push x y xs = sum_by_push (λ (z : ℕ). one_if (z == x)) xs y

pub times_append : (x : ℕ) (xs ys : List ℕ) → times x (xs ++ ys) ≡ times x xs + times x ys
times_append x xs ys = sum_by-append (λ (z : ℕ). one_if (z == x)) xs ys

pub once_below_more : (x n : ℕ) → once_below x (n + 1) ≡ once_below x n + one_if (n == x)
once_below_more x n = grind (arith, nat_tests)

itself : (x : ℕ) → one_if (x == x) ≡ 1
itself x = grind (arith, nat_tests)

once_of : (x n : ℕ) → x < n → once_below x n ≡ 1
once_of x n h = grind (arith, nat_tests)

below_once : (x n : ℕ) → 1 ≤ once_below x n → x < n
below_once x n h = grind (arith, nat_tests)

-- what stands only among the numbers below n is below n
pub all_below : (xs : List ℕ) (n : ℕ) → ((x : ℕ) → times x xs ≤ once_below x n) → All (λ x. x < n) xs
all_below xs n once k d h =
    let x = get_or xs k d in
    let stands : one_if (x == x) ≤ times x xs = get_or-le-sum_by (λ (z : ℕ). one_if (z == x)) xs k d h in
    let le = once x in
    below_once x n (omega (arith, itself x))

pub count_above_none : (bound : ℕ) (xs : List ℕ) → All (λ x. x < bound) xs → count_above bound xs ≡ 0
count_above_none bound [] below = refl
count_above_none bound (x ∷ xs) below =
    let rest = count_above_none bound xs (All-tail (λ x. x < bound) x xs below) in
    let here : x < bound = All-head (λ x. x < bound) x xs below in
    let not : one_if (nat_le bound x) ≡ 0 = grind (arith, nat_tests) in
    omega (arith, sum_by-cons (λ (z : ℕ). one_if (nat_le bound z)) x xs)

at_most_one : (bound x : ℕ) → one_if (nat_le bound x) ≤ 1
at_most_one bound x = grind (arith, nat_tests)

pub count_above_push : (bound x : ℕ) (xs : List ℕ) → count_above bound (xs ++ x ∷ []) ≤ count_above bound xs + 1
count_above_push bound x xs = omega (arith, sum_by_push (λ (z : ℕ). one_if (nat_le bound z)) xs x, at_most_one bound x)

pub count_above_append : (bound : ℕ) (xs ys : List ℕ) → count_above bound (xs ++ ys) ≡ count_above bound xs + count_above bound ys
count_above_append bound xs ys = sum_by-append (λ (z : ℕ). one_if (nat_le bound z)) xs ys

-- how many of the n numbers from bound on stand in the list, each as often as it does
abbrev within : ℕ → ℕ → ℕ → Bool
within bound n x = nat_le bound x && nat_lt x (bound + n)

one_more : (bound n x : ℕ) → one_if (within bound (n + 1) x) ≡ one_if (within bound n x) + one_if (x == bound + n)
one_more bound n x = grind (arith, nat_tests)

none_within : (bound x : ℕ) → one_if (within bound 0 x) ≡ 0
none_within bound x = grind (arith, nat_tests)

within_above : (bound n x : ℕ) → one_if (within bound n x) ≤ one_if (nat_le bound x)
within_above bound n x = grind (arith, nat_tests)

count_more : (bound n : ℕ) (xs : List ℕ) → count_by (within bound (n + 1)) xs ≡ count_by (within bound n) xs + times (bound + n) xs
count_more bound n xs = sum_by_same _ _ xs (one_more bound n) ∙ sum_by_two (λ (x : ℕ). one_if (within bound n x)) (λ (x : ℕ). one_if (x == bound + n)) xs

sum_of_zeros : {X : Type 0} (xs : List X) → sum_by (λ (x : X). 0) xs ≡ 0
sum_of_zeros [] = refl
sum_of_zeros (x ∷ xs) = let rest = sum_of_zeros xs in omega (arith, sum_by-cons (λ y. 0) x xs)

count_none : (bound : ℕ) (xs : List ℕ) → count_by (within bound 0) xs ≡ 0
count_none bound xs = sum_by_same _ (λ x. 0) xs (none_within bound) ∙ sum_of_zeros xs

-- where each number below next was drawn once, so was each of the n from bound on that are below it
count_is : (bound n next : ℕ) (views : List View) → bound + n ≤ next → ((x : ℕ) → sum_by (λ v. times x v.drawn) views ≡ once_below x next) → sum_by (λ v. count_by (within bound n) v.drawn) views ≡ n
count_is bound zero next views le once = sum_by_same _ (λ v. 0) views (λ v. count_none bound v.drawn) ∙ sum_of_zeros views
count_is bound (suc n) next views le once =
    let rest = count_is bound n next views (omega arith) once in
    let split : sum_by (λ v. count_by (within bound (n + 1)) v.drawn) views ≡ sum_by (λ v. count_by (within bound n) v.drawn) views + sum_by (λ v. times (bound + n) v.drawn) views =
    sum_by_same _ _ views (λ v. count_more bound n v.drawn) ∙ sum_by_two (λ v. count_by (within bound n) v.drawn) (λ v. times (bound + n) v.drawn) views in
    let one : once_below (bound + n) next ≡ 1 = once_of (bound + n) next (omega arith) in
    let last = once (bound + n) in
    let more : suc n ≡ n + 1 = omega arith in
    rw more (omega arith)

-- so the seats have drawn as many numbers at or above the bound as next is above it
pub next_is_near : (bound next all : ℕ) (views : List View) → ((x : ℕ) → sum_by (λ v. times x v.drawn) views ≡ once_below x next) → All (λ v. count_above bound v.drawn ≤ v.seats + v.room) views
    → sum_by (λ v. v.seats + v.room) views ≡ all → next ≤ bound + all
next_is_near bound next all views once few seats =
    ⊎_elim
    (λ below. omega arith)
    (λ above.
    let n = next - bound in
    let drawn = count_is bound n next views (omega arith) once in
    let more = sum_by-le-sum_by (λ v. count_by (within bound n) v.drawn) (λ v. count_above bound v.drawn) views (λ v. sum_by-le-sum_by _ _ v.drawn (within_above bound n)) in
    let most = sum_by_le (λ v. count_above bound v.drawn) (λ v. v.seats + v.room) views few in
    omega arith)
    (cases_lt next bound)

pub least_of-le : (bound : ℕ) (xs : List ℕ) → least_of bound xs ≤ bound
least_of-le bound [] = omega arith
least_of-le bound (x ∷ xs) = let rest = least_of-le bound xs in omega arith

pub least_of-append : (bound : ℕ) (xs ys : List ℕ) → least_of bound (xs ++ ys) ≡ min (least_of bound xs) (least_of bound ys)
least_of-append bound [] ys = let le = least_of-le bound ys in omega arith
least_of-append bound (x ∷ xs) ys = let rest = least_of-append bound xs ys in omega arith

pub least_of-each : (bound : ℕ) (xs : List ℕ) → All (λ x. least_of bound xs ≤ x) xs
least_of-each bound [] = All-nil (λ x. least_of bound [] ≤ x)
least_of-each bound (x ∷ xs) =
    All-cons (λ y. least_of bound (x ∷ xs) ≤ y) x xs (omega arith) (All-weaker (λ y. least_of bound xs ≤ y) (λ y. least_of bound (x ∷ xs) ≤ y) (λ y h. omega arith) xs (least_of-each bound xs))
