-- When a device may say that it failed.
use Rattle.std.specs.Prelude.{◌≡◌, ℕ, ◌+◌, ◌-◌, ◌^◌, ◌≤◌, min, Result, OnOk, OnErr}

-- a count of faults is greater than before, or stands at the counter's last value
abbrev pub Rose : ℕ → ℕ → Type 0
Rose before after = min (before + 1) (2 ^ 64 - 1) ≤ after

-- A count of faults never falls. It stays where all went well, and a failure is told only where it rose.
pub record HasCause {T E : Type 0} (before after : ℕ) (result : Result T E) : Type 0 where
  pub later : before ≤ after
  pub steady : OnOk result (after ≡ before)
  pub failed : OnErr result (Rose before after)
