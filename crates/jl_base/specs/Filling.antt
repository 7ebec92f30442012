-- What filling a space from a source does.
use Rattle.std.specs.Prelude.{◌≡◌, ◌↔◌, ℕ, ◌+◌, ◌<◌, ◌≤◌, List, [], ◌++◌, length, take, Result, Ok, Err, IfOk, OnErr, OnOk}
use Rattle.std.specs.Io.KnownBytes.{IsAtEnd}
use Rattle.jl_base.specs.Causes.{HasCause, Rose}
use Rattle.jl_base.specs.Sources.{Told, Reads}
use Rattle.jl_base.specs.declared.space.FillFault.{FillFault}
use Rattle.jl_base.specs.declared.space.FillFault.TheVariants.{ReadFault, TooLong, NoMemory}

-- Bytes were read, and the space is its old bytes with a prefix of those after them: all of them, up to the source's
-- end, where it is Ok. The source's count of faults may rise only where the answer is that a read failed.
pub record Fills {T : Type 0} (limit : ℕ) (before after : Told) (old new : List ℕ) (result : Result T FillFault) : Type 0 where
  pub bytes : List ℕ
  pub reads : Reads before after bytes
  pub kept : List ℕ
  pub lost : List ℕ
  pub split : bytes ≡ kept ++ lost
  pub appended : new ≡ old ++ kept
  pub whole : OnOk result (lost ≡ [])
  pub ended : OnOk result (IsAtEnd after.left)
  pub too_long : (result ≡ Err TooLong) ↔ (limit < length bytes)
  pub failed : result ≡ Err ReadFault → Rose before.faults after.faults
  pub steady : OnOk result (after.faults ≡ before.faults)
  pub steady_at_limit : result ≡ Err TooLong → after.faults ≡ before.faults
  pub steady_without_memory : result ≡ Err NoMemory → after.faults ≡ before.faults

-- One read, of at most so many bytes, into a page from a place on. The bytes before that place are as they were.
pub record ReadsAt {E : Type 0} (most at : ℕ) (before after : Told) (old new : List ℕ) (result : Result ℕ E) : Type 0 where
  pub bytes : List ℕ
  pub reads : Reads before after bytes
  pub front : take (at + length bytes) new ≡ take at old ++ bytes
  pub few : length bytes ≤ most
  pub count : IfOk result (λ n. n ≡ length bytes)
  pub none : OnErr result (bytes ≡ [])
  pub ended : result ≡ Ok 0 → IsAtEnd after.left
  pub cause : HasCause before.faults after.faults result

-- One read, of at most so many bytes, which stand after the old bytes of a space. Where it is refused nothing was read.
pub record ReadsOn (most : ℕ) (before after : Told) (old new : List ℕ) (result : Result ℕ FillFault) : Type 0 where
  pub bytes : List ℕ
  pub reads : Reads before after bytes
  pub appended : new ≡ old ++ bytes
  pub few : length bytes ≤ most
  pub count : IfOk result (λ n. n ≡ length bytes)
  pub none : OnErr result (bytes ≡ [])
  pub ended : result ≡ Ok 0 → IsAtEnd after.left
  pub failed : result ≡ Err ReadFault → Rose before.faults after.faults
  pub steady : OnOk result (after.faults ≡ before.faults)
  pub steady_without_memory : result ≡ Err NoMemory → after.faults ≡ before.faults
  pub within : result ≡ Err TooLong → ⊥
