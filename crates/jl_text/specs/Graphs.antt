-- The graph in a statement's line (RDF 1.1 N-Quads, section 2.4).
use Rattle.std.specs.Prelude.{ℕ, List, ◌∷◌}
use Rattle.std.specs.List.{flat_map}
use Rattle.jl_base.specs.Terms.{Value}
use Rattle.jl_text.specs.Line.{graph_texts}

-- what stands behind the object: a space and the graph, or nothing for the default graph
abbrev pub graph_part : Value → List ℕ
graph_part g = flat_map (λ text. 0x20 ∷ text) (graph_texts g)
