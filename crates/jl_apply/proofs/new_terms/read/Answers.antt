use Rattle.jl_apply.proofs.Resolving.{read_left}
use Rattle.jl_apply.proofs.new_terms.read.Goals as goal

pub returns-clause-read : goal.returns-clause-read
returns-clause-read c =
    read_left c.args.lookup.now.bytes.now c.args.lookup.now.tables.now c.args.incoming c.args.left.now c.args.value.now c.in-Set.set c.args.moment c.in-Set.before c.in-Set.term c.real.result c.real-2.result c.in_ok-term.field-0
    c.in-Set.is c.if-set-moment.false c.requires.tables c.real.ensures c.real-2.ensures c.in_ok-term.ensures.value
