-- What scanning tells of a text that is read: counts, and where its first bad line stands.
use Rattle.std.specs.Prelude.{ℕ, ◌+◌, Bool, true, false, ◌||◌, List, [], ◌∷◌, length, Option, Some, None}
use Rattle.std.specs.List.{list_any}
use Rattle.jl_base.specs.Terms.{Item, Triple, Quad, Namespace}
use Rattle.jl_nqread.specs.declared.line_shape.Shape.{Shape}
use Rattle.jl_nqread.specs.declared.line_shape.Shape.TheVariants as shapes
use Rattle.jl_nqscan.specs.declared.line_scan.LineScan.{LineScan}
use Rattle.jl_nqread.specs.Taking.{begun}
use Rattle.jl_nqscan.specs.Reading.{Reading, feed, lines_after, read_lines}

abbrev pub is_quad : Item → Bool
is_quad (Triple s p o) = false
is_quad (Quad s p o g) = true
is_quad (Namespace name iri) = false

-- how many statements were read, whether one of them has a graph, and the number of the first bad line
abbrev pub told : Reading → LineScan
told reading = record { statements = length reading.items; quads = list_any is_quad reading.items; bad = reading.bad }

-- the same of a part of a text
abbrev pub told_after : ℕ → List ℕ → List ℕ → LineScan
told_after feeds began text = told (read_lines (lines_after feeds began text))

unfoldable pub feeds_of : List ℕ → ℕ
feeds_of [] = 0
feeds_of (b ∷ rest) = feed b + feeds_of rest

abbrev pub nothing : LineScan
nothing = record { statements = 0; quads = false; bad = None }

-- one line
abbrev pub one_line : Shape → ℕ → LineScan
one_line shapes.Blank number = nothing
one_line shapes.Triple number = record { statements = 1; quads = false; bad = None }
one_line shapes.Quad number = record { statements = 1; quads = true; bad = None }
one_line shapes.Bad number = record { statements = 0; quads = false; bad = Some number }

-- some lines, then others: those after a bad line are left out
abbrev pub then_told : LineScan → LineScan → LineScan
then_told a b = begun a.bad (λ number. a) (record { statements = a.statements + b.statements; quads = a.quads || b.quads; bad = b.bad })

-- the same lines after so many more line feeds
abbrev pub moved : ℕ → Option ℕ → Option ℕ
moved feeds None = None
moved feeds (Some number) = Some (feeds + number)

abbrev pub later : ℕ → LineScan → LineScan
later feeds a = record { statements = a.statements; quads = a.quads; bad = moved feeds a.bad }
