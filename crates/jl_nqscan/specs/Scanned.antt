-- What was counted of a part of a text, and how many line feeds stand in it.
use Rattle.std.specs.Prelude.{◌≡◌, ℕ, ◌≤◌, List, [], length, None, IfSome}
use Rattle.jl_nqscan.specs.declared.line_scan.LineScan.{LineScan}
use Rattle.jl_nqscan.specs.Scanning.{told_after, feeds_of}

-- The line feeds were counted to the end where no line is bad.
pub record IsScanned (text : List ℕ) (feeds : ℕ) (scan : LineScan) : Type 0 where
  pub told : scan ≡ told_after 0 [] text
  pub count : scan.bad ≡ None → feeds ≡ feeds_of text
  pub few_feeds : feeds ≤ length text
  pub few : scan.statements ≤ length text
  pub inside : IfSome scan.bad (λ number. number ≤ length text)
