-- Which calls of a device in memory fail.
use Rattle.std.specs.Prelude.{ℕ, ◌+◌, ◌==◌, Bool, List}
use Rattle.std.specs.List.{list_any}
use Rattle.jl_base.specs.Sources.{counted}

-- the numbers of the calls that are to fail, counted from 1, and how many calls were made
pub record Schedule : Type 0 where
  pub fails : List ℕ
  pub made : ℕ

-- the next call is one of those that are to fail
abbrev pub is_to_fail : Schedule → Bool
is_to_fail schedule = list_any (λ n. n == schedule.made + 1) schedule.fails

-- with one more call made
abbrev pub after_call : Schedule → Schedule
after_call schedule = record { fails = schedule.fails; made = counted schedule.made 1 }
