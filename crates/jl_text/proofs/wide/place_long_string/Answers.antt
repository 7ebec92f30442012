use Rattle.std.proofs.Common.{arith}
use Rattle.jl_text.proofs.PlaceLemmas.{placed_then}
use Rattle.jl_text.proofs.StringLemmas.{placed_grows}
use Rattle.jl_text.proofs.wide.place_long_string.Goals as goal

pub returns-clause-placed : goal.returns-clause-placed
returns-clause-placed c =
    let begin = c.place_byte-begin.ensures in
    let middle = c.place_escaped-end.ensures in
    let opened = placed_then (omega (arith, begin.end)) (omega (arith, c.requires.room)) begin.placed middle.placed in
    let grows = placed_grows (omega (arith, begin.end, begin.placed.size, c.requires.room)) middle.placed in
    placed_then (omega (arith, begin.end, grows)) (omega (arith, c.requires.room)) opened c.place_byte.ensures.placed
