-- How far the items of a number are made.
use Rattle.std.specs.Prelude.{ℕ}
use Rattle.jl_base.specs.Terms.{Item}
use Rattle.jl_base.specs.Items.{item_of}
use Rattle.jl_made.specs.declared.made.Made.{Made}

-- the number, how many items it is to make and how many it has made, and the last one of these
pub record Making : Type 0 where
  pub number : ℕ
  pub items : ℕ
  pub at : ℕ
  pub item : Item

abbrev pub making : Made → Making
making m = record { number = m.number; items = m.items; at = m.at; item = item_of m.item }
