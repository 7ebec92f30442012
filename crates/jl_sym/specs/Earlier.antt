-- What a run did before a row.
use Rattle.std.specs.Prelude.{ℕ, List}
use Rattle.jl_sym_laws.specs.Summaries.{Written, Summary}

-- how many rows it read, and what they wrote
pub record Earlier : Type 0 where
  pub rows : ℕ
  pub writes : List Written

abbrev pub earlier_in : Summary → Earlier
earlier_in m = record { rows = m.rows; writes = m.writes }
