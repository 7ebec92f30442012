-- Where the number of an option lies.
use Rattle.std.specs.Prelude.{◌≡◌, ℕ, ◌≤◌}
use Rattle.jl_words.specs.declared.table.Values.{Values}
use Rattle.jl_words.specs.declared.table.Values.TheVariants.{Range, Text}

abbrev pub IsIn : Values → ℕ → Type 0
IsIn (Range least most default) n = (least ≤ n) × (n ≤ most)
IsIn Text n = n ≡ 0
