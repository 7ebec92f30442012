use Rattle.std.proofs.Common.{ap, ◌∙◌, refl, set, map}
use Rattle.std.proofs.lemmas.List.{map-set}
use Rattle.jl_state.specs.Extents.{text_in, slot_seen}
use Rattle.jl_state.proofs.Slots.{filled_seen}
use Rattle.jl_apply.proofs.log.fill_slot.Goals as goal

pub returns-then-id-len-clause-exact : goal.returns-then-id-len-clause-exact
returns-then-id-len-clause-exact c =
    map-set (slot_seen c.args.bytes.now) c.args.slots.now.items c.args.id c.args.text
    ∙ ap (set (map (slot_seen c.args.bytes.now) c.args.slots.now.items) c.args.id) (filled_seen c.args.bytes.now c.args.text (text_in c.args.bytes.now c.args.text) refl c.requires.filled)
