use Rattle.std.proofs.Common.{arith, refl}
use Rattle.jl_text.proofs.PlaceLemmas.{placed_then}
use Rattle.jl_text.proofs.wide.place_string.Goals as goal

pub returns-clause-placed : goal.returns-clause-placed
returns-clause-placed c =
    let opened = placed_then (omega (arith, c.place_byte-begin.ensures.end)) (omega (arith, c.requires.room)) c.place_byte-begin.ensures.placed c.place_short-end.ensures.placed in
    let whole = placed_then (omega (arith, c.place_byte-begin.ensures.end, c.place_short-end.ensures.end)) (omega (arith, c.requires.room)) opened c.place_byte.ensures.placed in
    rw (c.if-not-is_plain_string.ensures.clean refl) whole
