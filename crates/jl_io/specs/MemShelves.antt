-- A shelf in memory.
use Rattle.std.specs.Prelude.{ℕ, drop, vec_len}
use Rattle.jl_io.specs.Cuts.{parts_from}
use Rattle.jl_base.specs.Sinks.{Held}
use Rattle.jl_io.specs.Schedules.{Schedule}
use Rattle.jl_io.specs.declared.mem_shelf.MemShelf.{MemShelf}

abbrev pub held_of : MemShelf → Held
held_of shelf = record { finished = parts_from 0 shelf.ends.items shelf.bytes.items; under_way = drop shelf.start shelf.bytes.items }

-- how many bytes it was given in all its parts
abbrev pub size_of : MemShelf → ℕ
size_of shelf = vec_len shelf.bytes

abbrev pub faults_of : MemShelf → ℕ
faults_of shelf = shelf.faults

abbrev pub schedule_of : MemShelf → Schedule
schedule_of shelf = shelf.calls

-- the most bytes that a write takes, that all writes take together, and the most turns
pub record Limits : Type 0 where
  pub piece : ℕ
  pub room : ℕ
  pub turns : ℕ

abbrev pub limits_of : MemShelf → Limits
limits_of shelf = record { piece = shelf.piece; room = shelf.room; turns = shelf.turns }
