use Rattle.std.proofs.Common.{refl, arith}
use Rattle.std.proofs.lemmas.Simd.{zip2_splat, zip2_of_maps, length-chunk}
use lib.Lanes.{chunk}
use Rattle.jl_text.specs.declared.escape.Terminal.TheVariants.{StringLiteral}
use Rattle.jl_text.specs.Line.{string_byte}
use Rattle.jl_text.proofs.LaneLemmas.{raw_from_empty_mask}
use Rattle.jl_text.proofs.lanes.is_raw_wide_block.Goals as goal

pub returns : goal.returns
unfolding string_byte
returns c =
    let v = chunk c.args.at 64 c.args.text.now in
    let long = length-chunk c.args.at 64 c.args.text.now c.requires in
    raw_from_empty_mask StringLiteral c.args.text.now c.args.at 64 _ _ c.requires (omega arith) c.type_inv.text
    (zip2_of_maps _ _ _ v (zip2_of_maps _ _ _ v (zip2_splat _ v 64 32 long) (zip2_splat _ v 64 127 long))
    (zip2_of_maps _ _ _ v (zip2_splat _ v 64 34 long) (zip2_splat _ v 64 92 long))) refl
