use Rattle.jl_scan.specs.Files.{field_of}
use Rattle.jl_items.proofs.tests.file_lines.Given as goal

abbrev pub ghosts-lines_of : goal.ghosts-lines_of
ghosts-lines_of g a = record { field = field_of a.file 0 }
