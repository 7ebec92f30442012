-- What a summary keeps of itself while it is made.
use Rattle.std.specs.Prelude.{ℕ, List, [], ◌∷◌, ◌++◌}
use Rattle.jl_base.specs.declared.place.Fault.{Fault}
use Rattle.jl_rows.specs.declared.row.Table.{Table}
use Rattle.jl_sym_laws.specs.Cutting.{IsMade}
use Rattle.jl_sym_laws.specs.Summaries as sums
use Rattle.jl_sym.specs.declared.relative_id.RelativeId.{RelativeId}
use Rattle.jl_sym.specs.declared.growing.Growing.{Growing}
use Rattle.jl_sym.specs.declared.marks.Marks.{Marks}
use Rattle.jl_sym.specs.Earlier.{earlier_in}
use Rattle.jl_sym.specs.Held.{HasGrowing}
use Rattle.jl_sym.specs.Marking.{AreMarked}
use Rattle.jl_sym.specs.Seen.{demands_seen, growing_seen, word_seen, IsSmall, IsSmallId}

pub record IsFit (bytes : List ℕ) (m : Growing) (marks : Marks) : Type 0 where
  pub made : IsMade (growing_seen bytes m)
  pub name_entry : IsSmall m.name_entry
  pub prefix_entry : IsSmall m.prefix_entry
  pub datatype_entry : IsSmall m.datatype_entry
  pub name : IsSmallId (word_seen m.ids.name)
  pub marked : AreMarked (earlier_in (growing_seen bytes m)) (demands_seen m.demands.items) marks
  pub held : HasGrowing bytes m

abbrev pub last_entry : Table → Growing → RelativeId
last_entry Table.Name m = m.name_entry
last_entry Table.Prefix m = m.prefix_entry
last_entry Table.Datatype m = m.datatype_entry

abbrev pub with_last_entry : Table → RelativeId → Growing → Growing
with_last_entry Table.Name id m = record m { name_entry = id }
with_last_entry Table.Prefix id m = record m { prefix_entry = id }
with_last_entry Table.Datatype id m = record m { datatype_entry = id }

-- a certain fault after a summary
abbrev pub with_never : sums.Summary → Fault → sums.Summary
with_never m fault = record m { demands = m.demands ++ record { moment = m.rows; fault = fault; need = sums.Never } ∷ [] }
