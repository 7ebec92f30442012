use Rattle.std.proofs.Common.{ap, ◌∙◌, arith}
use Rattle.jl_base.specs.Items.{value_of}
use Rattle.jl_base.specs.declared.term.Three.{Three}
use Rattle.jl_resolve.proofs.Triples.{owned_triple}
use Rattle.jl_state.proofs.NestedTerms.{parts_of}
use Rattle.jl_resolve.proofs.terms.+own.Goals as goal

pub term-triple_term-requires : goal.term-triple_term-requires
term-triple_term-requires t c = (omega (arith, c.decreases), (c.requires, parts_of c.args.bytes.now c.args.known.now c.in-Triple.held c.get.result.now c.in-Triple.is c.get.ensures))

pub triple_term-returns : goal.triple_term-returns
triple_term-returns t c =
    let is = c.in_ok-new.ensures in
    owned_triple c.args.bytes.now c.args.whole.now c.args.held.now c.in_ok-new.field-0 c.requires.parts
    (ap (λ (x : Three). value_of x.s) is ∙ c.in_ok-term.ensures)
    (ap (λ (x : Three). value_of x.p) is ∙ c.in_ok-term-2.ensures)
    (ap (λ (x : Three). value_of x.o) is ∙ c.in_ok-term-3.ensures)
