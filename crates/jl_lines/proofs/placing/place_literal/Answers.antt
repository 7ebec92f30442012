use Rattle.std.proofs.Common.{◌++◌, ℕ, List, arith, subst}
use Rattle.jl_text.specs.Line.{string_text, tail_text}
use Rattle.jl_text.specs.Places.{Places}
use Rattle.jl_text.proofs.PlaceLemmas.{places_then}
use Rattle.jl_state.specs.KnownTerms.{tail_value}
use Rattle.jl_lines.proofs.placing.place_literal.Goals as goal

pub returns-clause-placed : goal.returns-clause-placed
returns-clause-placed c =
    subst (λ (text : List ℕ). Places c.args.page.now c.place_tail.new.page c.args.at (string_text text ++ tail_text (tail_value c.args.bytes.now c.args.tail)) c.place_tail.result)
    (c.span.ensures.text c.args.bytes.now)
    (places_then _ _ c.place_tail.result (omega (arith, c.requires.room)) (omega (arith, c.in_ok-behind.ensures.room)) c.in_ok-behind.ensures.placed c.place_tail.ensures.placed)
