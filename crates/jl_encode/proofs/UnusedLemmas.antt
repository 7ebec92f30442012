-- Going over places for the first one that passes.
use Rattle.std.proofs.Common.{◌≡◌, ℕ, suc, ◌+◌, ◌-◌, ◌<◌, ◌≤◌, Bool, true, false, find, Some, None, refl, arith}
use Rattle.jl_encoding.specs.Slots.{numbers_from}

pub found_here : (p : ℕ → Bool) (k end : ℕ) → k < end → p k ≡ true → find p (numbers_from k (end - k)) ≡ Some k
found_here p k end below passes =
    let more : end - k ≡ suc (end - (k + 1)) = omega (arith, below) in
    rw (more, passes) refl

pub passed_by : (p : ℕ → Bool) (k end : ℕ) → k < end → p k ≡ false → find p (numbers_from k (end - k)) ≡ find p (numbers_from (k + 1) (end - (k + 1)))
passed_by p k end below fails =
    let more : end - k ≡ suc (end - (k + 1)) = omega (arith, below) in
    rw (more, fails) refl

pub none_left : (p : ℕ → Bool) (k end : ℕ) → end ≤ k → find p (numbers_from k (end - k)) ≡ None
none_left p k end above =
    let none : end - k ≡ 0 = omega (arith, above) in
    rw none refl
