-- A line of N-Quads (RDF 1.1 N-Quads, "Grammar"), and a text that is one term.
use Rattle.std.specs.Prelude.{ℕ, Bool, true, false, ◌==◌, ◌&&◌, List, [], ◌∷◌, Option, Some, None, if◌then◌else◌}
use Rattle.std.specs.Str.{is_utf8}
use Rattle.jl_nqread.specs.declared.line_shape.Shape.{Shape}
use Rattle.jl_nqread.specs.declared.line_shape.Shape.TheVariants.{Blank, Triple, Quad, Bad}
use Rattle.jl_nqread.specs.Taking.{◌>>=◌, starts, byte}
use Rattle.jl_nqread.specs.Grammar.{blanks, plain_term, term, most_nested}

-- nothing, or a comment: '#' and the rest of the line
abbrev pub is_done : List ℕ → Bool
is_done [] = true
is_done (b ∷ rest) = b == 35

-- the full stop of a statement, and nothing after it but blanks and a comment
unfoldable pub ended : Shape → List ℕ → Option Shape
ended shape text = byte 46 text >>= λ rest. if is_done (blanks rest) then Some shape else None

-- after the object, which a graph may follow: any term but a triple term
unfoldable pub after_object : List ℕ → Option Shape
after_object text = if starts (λ b. b == 46) text then ended Triple text else (plain_term text >>= λ g. ended Quad (blanks g))

-- statement ::= subject predicate object graphLabel? '.'. Any term may stand in each place but the last, which is this
-- project's own, and blanks or none between them.
unfoldable pub statement : List ℕ → Option Shape
statement text = do
  s ← term most_nested text
  p ← term most_nested (blanks s)
  o ← term most_nested (blanks p)
  after_object (blanks o)

abbrev pub shape_or_bad : Option Shape → Shape
shape_or_bad (Some shape) = shape
shape_or_bad None = Bad

unfoldable pub shape_after_blanks : List ℕ → Shape
shape_after_blanks text = if is_done text then Blank else shape_or_bad (statement text)

-- the shape of a line: it is UTF-8, its comment too
unfoldable pub shape_of : List ℕ → Shape
shape_of line = if is_utf8 line then shape_after_blanks (blanks line) else Bad

-- whether a part was taken and nothing is left after it
abbrev pub is_over : List ℕ → Bool
is_over [] = true
is_over (b ∷ rest) = false

abbrev pub is_whole : Option (List ℕ) → Bool
is_whole None = false
is_whole (Some rest) = is_over rest

-- whether a whole text is one term, with no blank before it or after it
unfoldable pub is_term : List ℕ → Bool
is_term text = is_utf8 text && is_whole (term most_nested text)
