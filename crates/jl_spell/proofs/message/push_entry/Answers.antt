use Rattle.std.proofs.Common.{[], ◌∷◌}
use Rattle.jl_rows.specs.declared.message.Message.{Message}
use Rattle.jl_spell.specs.Messages.{message_of, unless_0, unless_empty}
use Rattle.jl_spell.specs.Rows.{number, bytes, entry_number}
use Rattle.jl_spell.proofs.Parts.{entry_parts}
use Rattle.jl_spell.proofs.Writing.{on_ok, entry_length, entry_row, in_field_twice, field_length}
use Rattle.jl_spell.proofs.message.push_entry.Goals as goal

pub returns : goal.returns
returns c =
    let message = message_of Message.Entry (number c.args.id ∷ bytes c.args.text.now ∷ []) in
    let size = entry_length c.args.id c.args.text.now c.size_unless_0.result c.size_unless_empty.result c.size_unless_0.ensures.exact c.size_unless_empty.ensures.exact in
    let front = rw c.entry_field-field.ensures at c.front_size.ensures.exact in
    let inner = rw c.entry_field-field.ensures at c.in_ok-push_front-2.ensures.ok in
    let whole = field_length (entry_number c.args.table) _ c.front_size.result message size front in
    on_ok c.push_unless_empty.result c.push_unless_empty.ensures
    (λ last. rw (entry_row c.args.table c.args.id c.args.text.now) (in_field_twice 1 (entry_number c.args.table) _ _ c.args.out.now.items c.push_front.new.out.items c.push_front-2.new.out.items c.push_unless_0.new.out.items c.push_unless_empty.new.out.items
    message (unless_0 1 c.args.id) (unless_empty 2 c.args.text.now) (entry_parts c.args.id c.args.text.now) size whole c.in_ok-push_front.ensures.ok inner c.in_ok-push_unless_0.ensures last))
