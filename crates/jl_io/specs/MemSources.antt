-- A source in memory.
use Rattle.std.specs.Prelude.{ℕ, List, Some, drop}
use Rattle.jl_base.specs.Sources.{Told}
use Rattle.jl_io.specs.Schedules.{Schedule}
use Rattle.jl_io.specs.declared.mem_source.MemSource.{MemSource}

-- the bytes that it has left
abbrev pub left_of : MemSource → List ℕ
left_of source = drop source.at source.bytes.items

abbrev pub told_of : MemSource → Told
told_of source = record { left = Some (left_of source); given = source.given; faults = source.faults }

abbrev pub schedule_of : MemSource → Schedule
schedule_of source = source.calls

-- the most bytes that a read gives
abbrev pub piece_of : MemSource → ℕ
piece_of source = source.piece
