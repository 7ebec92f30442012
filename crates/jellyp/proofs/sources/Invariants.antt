use Rattle.std.proofs.Common.{◌≡◌, take, map}
use Rattle.jl_io.specs.FileSources.{name_of}
use Rattle.jellyp.proofs.sources.Given as goal

abbrev pub invariant-loop-name : goal.invariant-loop-name
invariant-loop-name g l = map name_of l.sources.items ≡ take l.name-index l.names
