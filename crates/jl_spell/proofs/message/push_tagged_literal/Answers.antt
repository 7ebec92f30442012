use Rattle.jl_rows.specs.Written.{Ending}
use Rattle.jl_spell.specs.Fields.{Bytes, field_of}
use Rattle.jl_spell.specs.Messages.{unless_empty}
use Rattle.jl_spell.specs.Rows.{literal_of}
use Rattle.jl_spell.proofs.Parts.{tagged_parts}
use Rattle.jl_spell.proofs.Writing.{on_ok, two_in_field, tagged_length}
use Rattle.jl_spell.proofs.message.push_tagged_literal.Goals as goal

pub returns : goal.returns
returns c =
    let size = tagged_length c.args.lex.now c.args.tag.now c.size_unless_empty.result c.front_size.result c.size_unless_empty.ensures.exact c.front_size.ensures.exact in
    on_ok c.push_bytes.result c.push_bytes.ensures.ok
    (λ last. two_in_field c.args.field _ c.args.out.now.items c.push_front.new.out.items c.push_unless_empty.new.out.items c.push_bytes.new.out.items
    (literal_of c.args.lex.now (Ending.Lang c.args.tag.now)) (unless_empty 1 c.args.lex.now) (field_of 2 (Bytes c.args.tag.now)) (tagged_parts c.args.lex.now c.args.tag.now) c.in_ok-push_front.ensures.ok size c.in_ok-push_unless_empty.ensures last)
