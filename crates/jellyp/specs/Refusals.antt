-- Why the program ends before it has served.
use Rattle.std.specs.Prelude.{◌≡◌, ℕ, Result, Ok, Err}
use Rattle.std.specs.declared.io.ErrorKind.{ErrorKind}
use Rattle.std.specs.declared.io.ErrorKind.TheVariants.{OutOfMemory}
use Rattle.jellyp.specs.declared.Refusal.{Refusal}
use Rattle.jellyp.specs.declared.Refusal.TheVariants.{Usage, NoMemory}

-- Want of memory is told as such, and everything else as arguments that can't be used.
pub record IsRefusedFor (kind : ErrorKind) (refusal : Refusal) : Type 0 where
  pub memory : kind ≡ OutOfMemory → refusal ≡ NoMemory
  pub other : (kind ≡ OutOfMemory → ⊥) → refusal ≡ Usage

-- the status that the program ends with: that of serving, where it came to it
abbrev pub status_of : Result ℕ Refusal → ℕ
status_of (Ok status) = status
status_of (Err Usage) = 2
status_of (Err NoMemory) = 5
