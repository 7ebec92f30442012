use Rattle.std.proofs.Common.{arith}
use Rattle.jl_state.proofs.NestedTerms.{parts_of}
use Rattle.jl_lines.proofs.known.+push.Goals as goal

pub push_known-push_three-requires : goal.push_known-push_three-requires
push_known-push_three-requires t c = (omega (arith, c.decreases), (c.requires, parts_of c.args.bytes.now c.args.term.now c.in-Triple.three c.get.result.now c.in-Triple.is c.get.ensures))
