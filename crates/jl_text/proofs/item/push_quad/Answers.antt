use Rattle.jl_text.proofs.StatementLemmas.{quad_appended}
use Rattle.jl_text.proofs.item.push_quad.Goals as goal

pub returns : goal.returns
returns c =
    quad_appended _ _ _ _ _ _ _ _ c.in_ok-push_spaced.ensures c.in_ok-push_graph.ensures c.in_ok-extend_from_slice.ensures.items
