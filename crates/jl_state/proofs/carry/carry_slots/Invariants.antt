use Rattle.std.proofs.Common.{◌≡◌, ◌++◌, map, take}
use Rattle.jl_rows.specs.Carries.{Grows}
use Rattle.jl_state.specs.Extents.{slot_seen}
use Rattle.jl_state.specs.Carries.{CarriesSlots}
use Rattle.jl_state.specs.Texts.{table_text}
use Rattle.jl_state.proofs.carry.carry_slots.Given as goal

abbrev pub invariant-loop-i : goal.invariant-loop-i
invariant-loop-i l = record {
  carried : CarriesSlots l.from l.into (take l.i l.slots) l.carried.items;
  after : l.into ≡ l.fn.into ++ table_text (map (slot_seen l.from) (take l.i l.slots));
  grown : Grows l.fn.into l.into;
}
