-- Where the bytes of a source over a file come from.
use Rattle.std.specs.Prelude.{ℕ, List, Option, Some, None}
use Rattle.jl_base.specs.Sources.{Told}
use Rattle.jl_io.specs.declared.file_source.FileSource.{FileSource}

-- the file's name
abbrev pub name_of : {R File Dir : Type 0} → FileSource R File Dir → List ℕ
name_of source = source.name

-- the bytes that a file has left, where it tells them; before it is opened none are known
abbrev pub left_of : {File : Type 0} → (File → Option (List ℕ)) → Option File → Option (List ℕ)
left_of remaining None = None
left_of remaining (Some file) = remaining file

abbrev pub told_of : {R File Dir : Type 0} → (File → Option (List ℕ)) → FileSource R File Dir → Told
told_of remaining source = record { left = left_of remaining source.file; given = source.given; faults = source.faults }
