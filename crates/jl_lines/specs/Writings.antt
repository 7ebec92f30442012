-- What is written of an item.
use Rattle.std.specs.Prelude.{ℕ, List, []}
use Rattle.jl_base.specs.Terms.{Item}
use Rattle.jl_text.specs.Line.{line}
use Rattle.jl_lines.specs.declared.writing.Writing.{Writing}
use Rattle.jl_lines.specs.declared.writing.Writing.TheVariants.{Lines, Nothing}

abbrev pub written : Writing → (Item → List ℕ)
written Lines = line
written Nothing = λ item. []
