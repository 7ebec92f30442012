-- How often numbers stand in a list, and the least of them.
use Rattle.std.proofs.Common.{◌≡◌, ℕ, ◌<◌, ◌≤◌, ◌==◌, Bool, cond, List, [], ◌∷◌, get_or, Contains, refl, subst, ⊎_elim, arith}
use Rattle.std.proofs.lemmas.Bool.{cases_eq, cases_lt}
use Rattle.std.proofs.lemmas.Bool.Decides.{nat_tests}
use Rattle.std.proofs.lemmas.List.Sums.{sum_by-cons, get_or-le-sum_by}
use Rattle.std.proofs.lemmas.List.Elements.{Contains-append_right}
use Rattle.jl_claim.specs.Numbers.{times, once_below, least_of}

abbrev one_if : Bool → ℕ
one_if b = cond b 1 0

itself : (x : ℕ) → one_if (x == x) ≡ 1
itself x = grind (arith, nat_tests)

apart_from : (x y : ℕ) → (y ≡ x → ⊥) → one_if (y == x) ≡ 0
apart_from x y h = grind (arith, nat_tests)

once_of : (x n : ℕ) → x < n → once_below x n ≡ 1
once_of x n h = grind (arith, nat_tests)

below_once : (x n : ℕ) → 1 ≤ once_below x n → x < n
below_once x n h = grind (arith, nat_tests)

pub times_contained : (xs : List ℕ) (x : ℕ) → Contains xs x → 1 ≤ times x xs
times_contained xs x c =
    let at : one_if (get_or xs c.0 x == x) ≤ times x xs = get_or-le-sum_by (λ (z : ℕ). one_if (z == x)) xs c.0 x c.1 in
    let here : one_if (x == x) ≤ times x xs = subst (λ (y : ℕ). one_if (y == x) ≤ times x xs) c.2 at in
    omega (arith, itself x)

pub contained : (xs : List ℕ) (x : ℕ) → 1 ≤ times x xs → Contains xs x
contained [] x some = absurd (omega arith)
contained (y ∷ ys) x some =
    ⊎_elim
    (λ same. let P : ℕ → Type 0 = λ z. Contains (y ∷ ys) z in subst P same (0, omega arith, refl))
    (λ apart.
    let fewer : 1 ≤ times x ys = omega (arith, sum_by-cons (λ (z : ℕ). one_if (z == x)) y ys, apart_from x y apart) in
    Contains-append_right (y ∷ []) ys x (contained ys x fewer))
    (cases_eq y x)

-- the least is the bound or stands in the list
pub least_contained : (bound : ℕ) (xs : List ℕ) → least_of bound xs < bound → Contains xs (least_of bound xs)
least_contained bound [] less = absurd (omega arith)
least_contained bound (x ∷ xs) less =
    ⊎_elim
    (λ first.
    let same : x ≡ least_of bound (x ∷ xs) = omega arith in
    let P : ℕ → Type 0 = λ z. Contains (x ∷ xs) z in
    subst P same (0, omega arith, refl))
    (λ later.
    let same : least_of bound xs ≡ least_of bound (x ∷ xs) = omega arith in
    let less' : least_of bound xs < bound = omega arith in
    let P : ℕ → Type 0 = λ z. Contains (x ∷ xs) z in
    subst P same (Contains-append_right (x ∷ []) xs (least_of bound xs) (least_contained bound xs less')))
    (cases_lt x (least_of bound xs))

-- where one number that was drawn isn't below n, all below n were drawn
pub all_drawn : (n next : ℕ) (drawn : List ℕ) → ((x : ℕ) → times x drawn ≡ once_below x next) → (x : ℕ) × (n ≤ x) × Contains drawn x → (k : ℕ) → k < n → Contains drawn k
all_drawn n next drawn once beyond k below =
    let some = times_contained drawn beyond.0 beyond.2 in
    let same = once beyond.0 in
    let more : beyond.0 < next = below_once beyond.0 next (omega arith) in
    let high = beyond.1 in
    let one = once_of k next (omega arith) in
    let here = once k in
    contained drawn k (omega arith)
