use Rattle.std.proofs.Common.{arith}
use Rattle.jl_text.proofs.PlaceLemmas.{placed_then}
use Rattle.jl_text.proofs.wide.place_datatype.Goals as goal

pub returns-clause-placed : goal.returns-clause-placed
returns-clause-placed c =
    let signed = placed_then (omega (arith, c.place_pair-middle.ensures.end)) (omega (arith, c.requires.room)) c.place_pair-middle.ensures.placed c.place_byte-begin.ensures.placed in
    let opened = placed_then (omega (arith, c.place_pair-middle.ensures.end, c.place_byte-begin.ensures.end)) (omega (arith, c.requires.room)) signed c.place_long-end.ensures.placed in
    let whole = placed_then (omega (arith, c.place_pair-middle.ensures.end, c.place_byte-begin.ensures.end, c.place_long-end.ensures.end)) (omega (arith, c.requires.room)) opened c.place_byte.ensures.placed in
    rw c.requires.clean whole
