-- Where the bytes of a shelf over files go.
use Rattle.std.specs.Prelude.{ℕ, List, ◌++◌, Bool, Option, Some, None, is_some, codes, if◌then◌else◌}
use Rattle.std.specs.Fmt.{decimal}
use Rattle.jl_base.specs.Sources.{counted}
use Rattle.jl_io.specs.declared.file_shelf.FileShelf.{FileShelf}

-- the file's name, or none for standard output; whether each part has a file of its own; the number of the part under
-- way, counted from 1
pub record Place : Type 0 where
  pub name : Option (List ℕ)
  pub parts : Bool
  pub part : ℕ

abbrev pub place_of : {R File Dir : Type 0} → FileShelf R File Dir → Place
place_of shelf = record { name = shelf.name; parts = shelf.parts; part = shelf.part }

-- the place after a turn
abbrev pub next_place : Place → Place
next_place place = if place.parts then record { name = place.name; parts = place.parts; part = counted place.part 1 } else place

-- what the file is called that has the part of this number, or every part
abbrev pub file_name : List ℕ → Option ℕ → List ℕ
file_name name None = name
file_name name (Some part) = name ++ codes "." ++ decimal part ++ codes ".jelly"

-- the file that bytes go to is open
abbrev pub is_open : {R File Dir : Type 0} → FileShelf R File Dir → Bool
is_open shelf = is_some shelf.file

-- The bytes that the file of this name holds, where it tells them. Before it is made none are known, and of standard
-- output none ever.
abbrev pub held_by : {File : Type 0} → (File → Option (List ℕ)) → Option (List ℕ) → Option File → Option (List ℕ)
held_by contents None file = None
held_by contents (Some name) None = None
held_by contents (Some name) (Some file) = contents file

-- the same of the file of a shelf's part under way
abbrev pub contents_of : {R File Dir : Type 0} → (File → Option (List ℕ)) → FileShelf R File Dir → Option (List ℕ)
contents_of contents shelf = held_by contents shelf.name shelf.file
