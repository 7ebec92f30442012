-- The graph in a line.
use Rattle.std.specs.Prelude.{ℕ, Bool, true, false, List, [], ◌∷◌, ◌++◌, codes, if◌then◌else◌}
use Rattle.jl_base.specs.Terms.{Value}
use Rattle.jl_text.specs.Line.{graph_texts}
use Rattle.jl_rows.specs.Written.{StreamOptions}
use Rattle.jl_rows.specs.Decoder.{is_quads, is_graphs}
use Rattle.jl_state.specs.States.{State}
use Rattle.jl_state.specs.Lawful.{value_or_default}

-- texts with a space behind each
abbrev pub with_spaces : List (List ℕ) → List ℕ
with_spaces [] = []
with_spaces (text ∷ texts) = (text ++ codes " ") ++ with_spaces texts

abbrev pub is_default : Value → Bool
is_default Value.Default = true
is_default _ = false

-- the graph that the last statement stands in, where it is told
abbrev pub graph_around : StreamOptions → State → List (List ℕ)
graph_around o t =
    if is_quads o then graph_texts (value_or_default t.graph)
    else if is_graphs o then graph_texts (value_or_default t.open_graph)
    else []
