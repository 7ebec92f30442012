use Rattle.jl_text.proofs.StatementLemmas.{graph_left_out, graph_appended}
use Rattle.jl_text.proofs.item.push_graph.Goals as goal

pub returns-then-is_default : goal.returns-then-is_default
returns-then-is_default c = graph_left_out _ _ (c.is_default.ensures.0 c.if-is_default.true)

pub returns : goal.returns
returns c =
    graph_appended _ _ _ _ (λ e. let told = c.is_default.ensures.1 e in let untold = c.if-is_default.false in cc) c.in_ok-push.ensures.items c.in_ok-push_term.ensures
