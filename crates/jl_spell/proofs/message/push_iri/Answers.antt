use Rattle.jl_spell.specs.Messages.{unless_0}
use Rattle.jl_spell.specs.Rows.{iri_of}
use Rattle.jl_spell.proofs.Parts.{iri_parts}
use Rattle.jl_spell.proofs.Writing.{on_ok, two_in_field}
use Rattle.jl_spell.proofs.message.push_iri.Goals as goal

pub returns : goal.returns
returns c = on_ok c.push_unless_0-2.result c.push_unless_0-2.ensures
    (λ last. two_in_field c.args.field c.iri_size.result c.args.out.now.items c.push_front.new.out.items c.push_unless_0.new.out.items c.push_unless_0-2.new.out.items
    (iri_of (record { prefix = c.args.prefix; name = c.args.name })) (unless_0 1 c.args.prefix) (unless_0 2 c.args.name) (iri_parts (record { prefix = c.args.prefix; name = c.args.name })) c.in_ok-push_front.ensures.ok c.iri_size.ensures.exact c.in_ok-push_unless_0.ensures last)
