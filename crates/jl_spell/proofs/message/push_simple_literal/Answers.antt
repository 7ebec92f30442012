use Rattle.std.proofs.Common.{ap, sym, ◌∙◌, length}
use Rattle.jl_rows.specs.Written.{Ending}
use Rattle.jl_spell.specs.Rows.{literal_of}
use Rattle.jl_spell.proofs.Parts.{simple_parts}
use Rattle.jl_spell.proofs.Writing.{on_ok, in_field}
use Rattle.jl_spell.proofs.message.push_simple_literal.Goals as goal

pub returns : goal.returns
returns c =
    let whole = simple_parts c.args.lex.now in
    on_ok c.push_unless_empty.result c.push_unless_empty.ensures
    (λ last. in_field c.args.field c.size_unless_empty.result c.args.out.now.items c.push_front.new.out.items c.push_unless_empty.new.out.items
    (literal_of c.args.lex.now Ending.Simple) c.in_ok-push_front.ensures.ok (c.size_unless_empty.ensures.exact ∙ ap length (sym whole)) (rw whole last))
