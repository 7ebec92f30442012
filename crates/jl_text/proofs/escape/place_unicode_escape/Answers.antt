use Rattle.std.proofs.Common.{arith}
use Rattle.jl_text.proofs.PlaceLemmas.{placed_then}
use Rattle.jl_text.proofs.escape.place_unicode_escape.Goals as goal

pub returns-clause-placed : goal.returns-clause-placed
returns-clause-placed c =
    let signed = placed_then (omega (arith, c.place_pair-sign.ensures.end)) (omega (arith, c.requires)) c.place_pair-sign.ensures.placed c.place_pair-zeros.ensures.placed in
    let whole = placed_then (omega (arith, c.place_pair-sign.ensures.end, c.place_pair-zeros.ensures.end)) (omega (arith, c.requires)) signed c.place_pair.ensures.placed in
    rw (c.hexadecimal_digit-high.ensures, c.hexadecimal_digit-low.ensures) at whole
