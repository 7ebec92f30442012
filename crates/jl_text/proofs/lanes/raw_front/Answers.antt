use Rattle.std.proofs.Common.{ℕ, refl, arith}
use Rattle.std.proofs.lemmas.Simd.{zip2_splat, zip2_of_maps, length-chunk}
use lib.Lanes.{chunk}
use Rattle.jl_text.specs.declared.escape.Terminal.TheVariants.{StringLiteral}
use Rattle.jl_text.specs.Line.{string_byte}
use Rattle.jl_text.proofs.LaneLemmas.{raw_before_first, raw_to_first, escaped_at_first}
use Rattle.jl_text.proofs.lanes.raw_front.Goals as goal

pub returns-then-first-gt-LANES-clause-raw : goal.returns-then-first-gt-LANES-clause-raw
unfolding string_byte
returns-then-first-gt-LANES-clause-raw c =
    let v = chunk c.args.at 16 c.args.text.now in
    let long = length-chunk c.args.at 16 c.args.text.now c.requires in
    let past = c.if-first-gt-LANES.true in
    raw_before_first StringLiteral c.args.text.now c.args.at 16 _ _ c.requires (omega arith) c.type_inv.text
    (zip2_of_maps _ _ _ v (zip2_of_maps _ _ _ v (zip2_splat {Y = ℕ} _ v 16 32 long) (zip2_splat {Y = ℕ} _ v 16 127 long))
    (zip2_of_maps _ _ _ v (zip2_splat {Y = ℕ} _ v 16 92 long) (zip2_splat {Y = ℕ} _ v 16 34 long))) refl past

pub returns-clause-raw : goal.returns-clause-raw
unfolding string_byte
returns-clause-raw c =
    let v = chunk c.args.at 16 c.args.text.now in
    let long = length-chunk c.args.at 16 c.args.text.now c.requires in
    let within = c.if-first-gt-LANES.false in
    raw_to_first StringLiteral c.args.text.now c.args.at 16 _ _ c.requires (omega arith) c.type_inv.text
    (zip2_of_maps _ _ _ v (zip2_of_maps _ _ _ v (zip2_splat {Y = ℕ} _ v 16 32 long) (zip2_splat {Y = ℕ} _ v 16 127 long))
    (zip2_of_maps _ _ _ v (zip2_splat {Y = ℕ} _ v 16 92 long) (zip2_splat {Y = ℕ} _ v 16 34 long))) refl _ refl within

pub returns-clause-stops : goal.returns-clause-stops
unfolding string_byte
returns-clause-stops c = λ short.
    let v = chunk c.args.at 16 c.args.text.now in
    let long = length-chunk c.args.at 16 c.args.text.now c.requires in
    escaped_at_first StringLiteral c.args.text.now c.args.at 16 _ _ c.requires (omega arith) c.type_inv.text
    (zip2_of_maps _ _ _ v (zip2_of_maps _ _ _ v (zip2_splat {Y = ℕ} _ v 16 32 long) (zip2_splat {Y = ℕ} _ v 16 127 long))
    (zip2_of_maps _ _ _ v (zip2_splat {Y = ℕ} _ v 16 92 long) (zip2_splat {Y = ℕ} _ v 16 34 long))) refl _ refl short
