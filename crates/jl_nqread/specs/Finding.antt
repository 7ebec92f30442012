-- What the code finds at a place of a line: something and the place after it, or that it doesn't stand there.
use Rattle.std.specs.Prelude.{◌≡◌, ℕ, List, drop, Option, Some, None, Result, Ok, Err, IsSome}
use Rattle.jl_base.specs.Terms.{Value, Nested}
use Rattle.jl_base.specs.Terms as said
use Rattle.jl_base.specs.Items.{value_of, item_of}
use Rattle.jl_base.specs.declared.term.Three.{Three}
use Rattle.jl_base.specs.declared.term.Item.{Item}
use Rattle.jl_nqread.specs.declared.line_shape.Shape.{Shape}
use Rattle.jl_nqread.specs.declared.missing.Missing.{Missing}
use Rattle.jl_nqread.specs.declared.missing.Missing.TheVariants.{Part, Memory}

-- what was found is what the text says there; for want of memory nothing is told
abbrev pub Finds : {A B : Type 0} → (A → B) → List ℕ → Option (List ℕ) → B → Result (A × ℕ) Missing → Type 0
Finds seen bytes said value (Ok found) = (said ≡ Some (drop found.1 bytes)) × (seen found.0 ≡ value)
Finds seen bytes said value (Err Part) = said ≡ None
Finds seen bytes said value (Err Memory) = Unit {0}

abbrev pub three_of : Three → Value
three_of three = Nested (value_of three.s) (value_of three.p) (value_of three.o)

-- the same of a whole statement
abbrev pub FindsItem : Option Shape → said.Item → Result Item Missing → Type 0
FindsItem shape item (Ok found) = IsSome shape × (item_of found ≡ item)
FindsItem shape item (Err Part) = shape ≡ None
FindsItem shape item (Err Memory) = Unit {0}
