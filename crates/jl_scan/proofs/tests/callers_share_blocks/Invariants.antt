use Rattle.jl_scan.specs.Files.{field_of}
use Rattle.jl_scan.proofs.tests.callers_share_blocks.Given as goal

abbrev pub ghosts-with_scans-F-Scanned : goal.ghosts-with_scans-F-Scanned
ghosts-with_scans-F-Scanned g a = record { field = field_of a.file 0 }

abbrev pub ghosts-with_scans-L-Ledger : goal.ghosts-with_scans-L-Ledger
ghosts-with_scans-L-Ledger g a = record { name = a.blank.name; parts = a.blank.parts }
