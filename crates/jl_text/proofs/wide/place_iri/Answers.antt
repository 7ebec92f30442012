use Rattle.std.proofs.Common.{List, ℕ, arith, subst}
use Rattle.jl_base.specs.Spans.{text_of}
use Rattle.jl_text.specs.Places.{Placed}
use Rattle.jl_text.proofs.PlaceLemmas.{placed_then}
use Rattle.jl_text.proofs.WideLemmas.{clean_iri_of_two}
use Rattle.jl_text.proofs.wide.place_iri.Goals as goal

pub returns-clause-placed : goal.returns-clause-placed
returns-clause-placed c =
    let p = text_of c.args.bytes.now c.args.prefix in
    let n = text_of c.args.bytes.now c.args.name in
    let opened = placed_then (omega (arith, c.place_byte-begin.ensures.end)) (omega (arith, c.requires.room)) c.place_byte-begin.ensures.placed c.place_long-middle.ensures.placed in
    let named = placed_then (omega (arith, c.place_byte-begin.ensures.end, c.place_long-middle.ensures.end)) (omega (arith, c.requires.room)) opened c.place_long-end.ensures.placed in
    let whole = placed_then (omega (arith, c.place_byte-begin.ensures.end, c.place_long-middle.ensures.end, c.place_long-end.ensures.end)) (omega (arith, c.requires.room)) named c.place_byte.ensures.placed in
    subst (λ (text : List ℕ). Placed c.args.page.now c.place_byte.new.page c.args.at text c.place_byte.result) (clean_iri_of_two p n c.requires.prefix_clean c.requires.name_clean) whole
