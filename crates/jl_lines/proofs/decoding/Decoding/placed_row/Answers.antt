use Rattle.jl_tape.specs.Tapes.{placed_seen}
use Rattle.jl_lines.proofs.Taping.{takes_leads, takes_state}
use Rattle.jl_lines.proofs.decoding.Decoding.placed_row.Goals as goal

pub returns-clause-comes : goal.returns-clause-comes
returns-clause-comes c B =
    takes_leads c.args.bytes.now c.args.self.now c.row.new.self (placed_seen c.args.bytes.now c.args.placed.now) B c.row.result c.row.ensures.exact c.row.ensures.options c.row.ensures.writing

pub returns-clause-state : goal.returns-clause-state
returns-clause-state c = takes_state c.args.bytes.now _ c.args.self.now c.row.new.self c.row.result c.row.ensures.exact
