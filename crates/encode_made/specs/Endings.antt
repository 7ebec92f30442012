-- Why the program ends, by what the outside told.
use Rattle.std.specs.Prelude.{◌≡◌}
use Rattle.std.specs.declared.io.ErrorKind.{ErrorKind}
use Rattle.std.specs.declared.io.ErrorKind.TheVariants.{OutOfMemory}
use Rattle.encode_made.specs.declared.Ending.{Ending}
use Rattle.encode_made.specs.declared.Ending.TheVariants.{Usage, NoMemory}

-- Want of memory is told as such, and everything else as words that can't be used.
pub record IsEndedFor (kind : ErrorKind) (ending : Ending) : Type 0 where
  pub memory : kind ≡ OutOfMemory → ending ≡ NoMemory
  pub other : (kind ≡ OutOfMemory → ⊥) → ending ≡ Usage
