-- What a source tells, and what reading does to it.
use Rattle.std.specs.Prelude.{◌≡◌, ℕ, ◌+◌, ◌-◌, ◌^◌, ◌≤◌, min, max, List, [], length, take, Option, Result, Ok, Err}
use Rattle.std.specs.Io.KnownBytes.{Consumes}

-- the bytes that are left, where the source tells them; how many it has given; how often it has failed
pub record Told : Type 0 where
  pub left : Option (List ℕ)
  pub given : ℕ
  pub faults : ℕ

-- a count of bytes after n more, which stands still at its last value
abbrev pub counted : ℕ → ℕ → ℕ
counted before n = max before (min (before + n) (2 ^ 64 - 1))

-- the bytes that a call moved: the first n of these at Ok(n), and none where it failed
abbrev pub moved : {E : Type 0} → Result ℕ E → List ℕ → List ℕ
moved (Ok n) bytes = take n bytes
moved (Err e) bytes = []

-- These bytes were read. Where the source tells what is left, they are its first ones, and else as many as it counts.
pub record Reads (before after : Told) (bytes : List ℕ) : Type 0 where
  pub consumed : Consumes before.left after.left bytes
  pub count : after.given ≡ counted before.given (length bytes)
  pub later : before.faults ≤ after.faults
