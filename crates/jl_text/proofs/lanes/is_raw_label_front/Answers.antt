use Rattle.std.proofs.Common.{ℕ, leb, cond, bit_and, bit_or, refl, arith}
use Rattle.std.proofs.lemmas.Simd.{zip2_splat, zip2_of_maps, splat_is_map, length-chunk}
use lib.Lanes.{chunk}
use Rattle.jl_text.specs.declared.escape.Terminal.TheVariants.{BlankNodeLabel}
use Rattle.jl_text.specs.Line.{label_byte}
use Rattle.jl_text.proofs.LaneLemmas.{lowest_of_raw, raw_below_first}
use Rattle.jl_text.proofs.lanes.is_raw_label_front.Goals as goal

pub returns-clause-raw : goal.returns-clause-raw
unfolding label_byte
returns-clause-raw c =
    let v = chunk c.args.at 32 c.args.text.now in
    let long = length-chunk c.args.at 32 c.args.text.now c.requires.room in
    raw_below_first BlankNodeLabel c.args.text.now c.args.at 32 _ _ c.requires.room (omega arith) c.type_inv.text
    (zip2_of_maps bit_or _ _ v
    (zip2_of_maps bit_and _ _ v
    (zip2_of_maps (λ a b. cond (leb a b) 255 0) _ _ v (splat_is_map v 32 26 long) (zip2_of_maps _ _ _ v (zip2_splat {Y = ℕ} _ v 32 32 long) (splat_is_map v 32 97 long)))
    (zip2_of_maps (λ a b. cond (leb a b) 255 0) _ _ v (splat_is_map v 32 10 long) (zip2_splat {Y = ℕ} _ v 32 48 long)))
    (zip2_splat {Y = ℕ} _ v 32 88 long)) refl c.args.len c.requires.within

pub returns-clause-where_raw : goal.returns-clause-where_raw
unfolding label_byte
returns-clause-where_raw c = λ raw.
    let v = chunk c.args.at 32 c.args.text.now in
    let long = length-chunk c.args.at 32 c.args.text.now c.requires.room in
    lowest_of_raw BlankNodeLabel c.args.text.now c.args.at 32 _ _ c.requires.room (omega arith) c.type_inv.text
    (zip2_of_maps bit_or _ _ v
    (zip2_of_maps bit_and _ _ v
    (zip2_of_maps (λ a b. cond (leb a b) 255 0) _ _ v (splat_is_map v 32 26 long) (zip2_of_maps _ _ _ v (zip2_splat {Y = ℕ} _ v 32 32 long) (splat_is_map v 32 97 long)))
    (zip2_of_maps (λ a b. cond (leb a b) 255 0) _ _ v (splat_is_map v 32 10 long) (zip2_splat {Y = ℕ} _ v 32 48 long)))
    (zip2_splat {Y = ℕ} _ v 32 88 long)) refl c.args.len c.requires.within raw
