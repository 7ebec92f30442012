use Rattle.jl_rows.specs.Written.{Ending}
use Rattle.jl_spell.specs.Fields.{Number, field_of}
use Rattle.jl_spell.specs.Messages.{unless_empty}
use Rattle.jl_spell.specs.Rows.{literal_of}
use Rattle.jl_spell.proofs.Parts.{typed_parts}
use Rattle.jl_spell.proofs.Writing.{on_ok, two_in_field, typed_length}
use Rattle.jl_spell.proofs.message.push_typed_literal.Goals as goal

pub returns : goal.returns
returns c =
    let size = typed_length c.args.lex.now c.args.datatype c.size_unless_empty.result c.number_size.result c.size_unless_empty.ensures.exact c.number_size.ensures.exact in
    on_ok c.push_number.result c.push_number.ensures.ok
    (λ last. two_in_field c.args.field _ c.args.out.now.items c.push_front.new.out.items c.push_unless_empty.new.out.items c.push_number.new.out.items
    (literal_of c.args.lex.now (Ending.Typed c.args.datatype)) (unless_empty 1 c.args.lex.now) (field_of 3 (Number c.args.datatype)) (typed_parts c.args.lex.now c.args.datatype) c.in_ok-push_front.ensures.ok size c.in_ok-push_unless_empty.ensures last)
