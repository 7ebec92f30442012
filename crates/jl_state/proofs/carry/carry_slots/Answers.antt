use Rattle.std.proofs.Common.{◌≡◌, ◌++◌, ◌∙◌, map, take, ap, arith, List, subst}
use Rattle.std.proofs.lemmas.List.{take_all}
use Rattle.jl_state.specs.declared.extent.Extent.{Extent}
use Rattle.jl_state.specs.Carries.{CarriesSlots}
use Rattle.jl_state.specs.Extents.{slot_seen}
use Rattle.jl_state.specs.Texts.{table_text}
use Rattle.jl_rows.proofs.Carrying.{grows_then}
use Rattle.jl_state.proofs.Carrying.{slots_more, slots_after}
use Rattle.jl_state.proofs.carry.carry_slots.Goals as goal

pub returns-in_err-push-clause-grows : goal.returns-in_err-push-clause-grows
returns-in_err-push-clause-grows c = grows_then c.args.into.now c.loop-i.into c.carried_slot.new.into c.loop-i.invariant.grown c.carried_slot.ensures.grows

pub loop-i-preserved : goal.loop-i-preserved
loop-i-preserved c = record {
  carried = rw c.in_ok-push.ensures.items (slots_more c.args.from.now c.loop-i.into c.carried_slot.new.into c.args.slots.now c.loop-i.carried.items c.loop-i.i _ c.in_ok-slot.slot (omega arith) c.loop-i.invariant.carried c.carried_slot.ensures.grows c.in_ok-slot.ensures.carries);
  after = slots_after c.args.from.now c.args.into.now c.loop-i.into c.carried_slot.new.into c.args.slots.now c.loop-i.i _ (omega arith) c.loop-i.invariant.after c.in_ok-slot.ensures.after;
  grown = grows_then c.args.into.now c.loop-i.into c.carried_slot.new.into c.loop-i.invariant.grown c.carried_slot.ensures.grows;
}

pub returns-clause-carries : goal.returns-clause-carries
returns-clause-carries c =
    let all : take c.loop-i.i c.args.slots.now ≡ c.args.slots.now = take_all c.loop-i.i c.args.slots.now (omega arith) in
    subst (λ (es : List Extent). CarriesSlots c.args.from.now c.loop-i.into es c.loop-i.carried.items) all c.loop-i.invariant.carried

pub returns-clause-after : goal.returns-clause-after
returns-clause-after c =
    c.loop-i.invariant.after ∙ ap (λ (es : List Extent). c.args.into.now ++ table_text (map (slot_seen c.args.from.now) es)) (take_all c.loop-i.i c.args.slots.now (omega arith))
