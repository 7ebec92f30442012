-- What a text of N-Quads says: its lines, the items of those that are statements, and the first one that isn't in the grammar.
use Rattle.std.specs.Prelude.{ℕ, ◌+◌, Bool, ◌==◌, ◌||◌, List, [], ◌∷◌, ◌++◌, Option, Some, None, if◌then◌else◌}
use Rattle.jl_base.specs.Terms.{Item}
use Rattle.jl_nqread.specs.declared.line_shape.Shape.{Shape}
use Rattle.jl_nqread.specs.declared.line_shape.Shape.TheVariants as shapes
use Rattle.jl_nqread.specs.Lines.{shape_of}
use Rattle.jl_nqread.specs.Meaning.{item_said}

-- a line ends at each line feed and at each carriage return
abbrev pub ends_line : ℕ → Bool
ends_line b = (b == 10) || (b == 13)

-- how many line feeds a byte is
abbrev pub feed : ℕ → ℕ
feed b = if b == 10 then 1 else 0

-- a line's number is one more than the line feeds before it
pub record Line : Type 0 where
  pub number : ℕ
  pub text : List ℕ

abbrev pub line_after : ℕ → List ℕ → Line
line_after feeds text = record { number = feeds + 1; text = text }

-- the lines of a text, before which so many line feeds stand, and whose first line began with these bytes
unfoldable pub lines_after : ℕ → List ℕ → List ℕ → List Line
lines_after feeds began [] = line_after feeds began ∷ []
lines_after feeds began (b ∷ rest) =
    if ends_line b then line_after feeds began ∷ lines_after (feeds + feed b) [] rest else lines_after feeds (began ++ b ∷ []) rest

abbrev pub lines : List ℕ → List Line
lines text = lines_after 0 [] text

-- the items of the statements before the first line that isn't in the grammar, in order, and that line's number
pub record Reading : Type 0 where
  pub items : List Item
  pub bad : Option ℕ

-- a line of some shape, then what was read of the lines after it
abbrev pub line_then : Shape → Line → Reading → Reading
line_then shapes.Blank line rest = rest
line_then shapes.Triple line rest = record { items = item_said line.text ∷ rest.items; bad = rest.bad }
line_then shapes.Quad line rest = record { items = item_said line.text ∷ rest.items; bad = rest.bad }
line_then shapes.Bad line rest = record { items = []; bad = Some line.number }

unfoldable pub read_lines : List Line → Reading
read_lines [] = record { items = []; bad = None }
read_lines (line ∷ rest) = line_then (shape_of line.text) line (read_lines rest)

abbrev pub read : List ℕ → Reading
read text = read_lines (lines text)
