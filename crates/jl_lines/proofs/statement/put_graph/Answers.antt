use Rattle.std.proofs.Common.{take, sym, ◌∙◌}
use Rattle.jl_lines.proofs.Graphs.{untold, told, no_graph}
use Rattle.jl_lines.proofs.statement.put_graph.Goals as goal

pub returns-in_default-clause-text : goal.returns-in_default-clause-text
returns-in_default-clause-text c = no_graph c.args.bytes.now c.args.graph.now (take c.args.at c.args.page.now.items) c.in_default.is

pub returns-then-is_default-clause-text : goal.returns-then-is_default-clause-text
returns-then-is_default-clause-text c = untold c.args.bytes.now c.args.graph.now c.in-Some.known (take c.args.at c.args.page.now.items) c.in-Some.is (sym c.is_default.ensures ∙ c.if-is_default.true)

pub returns-clause-text : goal.returns-clause-text
returns-clause-text c =
    rw (told c.args.bytes.now c.args.graph.now c.in-Some.known c.in-Some.is (sym c.is_default.ensures ∙ c.if-is_default.false)) c.put_name.ensures.text
