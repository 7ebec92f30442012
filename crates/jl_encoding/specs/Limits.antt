-- How much an item may hold, and the tables of a written file.
use Rattle.std.specs.Prelude.{ℕ, ◌^◌}

-- how many entries the tables of names, prefixes and datatypes have
abbrev pub most_names : ℕ
most_names = 4000

abbrev pub most_prefixes : ℕ
most_prefixes = 150

abbrev pub most_datatypes : ℕ
most_datatypes = 32

-- how many bytes the entries and the row of an item take
abbrev pub most_item_bytes : ℕ
most_item_bytes = 2 ^ 26
