-- Frames are read back.
use Rattle.std.proofs.Common.{◌≡◌, ℕ, ◌-◌, ◌^◌, ◌<◌, ◌≤◌, List, [], ◌∷◌, ◌++◌, length, Ok, nat_lt, false, refl, ap, ◌∙◌, arith, append_assoc, length-append}
use lib.Seq.{drop-append_seam, take-append_seam}
use Rattle.std.proofs.lemmas.Bool.{le-ltb}
use Rattle.jl_base.specs.Results.{Reading, with_front}
use Rattle.jl_base.specs.declared.kind.Kind.{Kind}
use Rattle.jl_rows.specs.Files.{most_body, body, frames}
use Rattle.jl_rows.proofs.FrameLaws.{frames_next, frames_end}
use Rattle.jl_spell.specs.Varints.{varint_of}
use Rattle.jl_spell.specs.Frames.{frame_of, frames_of}
use Rattle.jl_spell.specs.Laws.{FramesReadBack}
use Rattle.jl_spell.proofs.VarintLaws.{varint_back}

body_back : (b rest : List ℕ) → length b ≤ most_body → body (frame_of b ++ rest) ≡ Ok (b, length (frame_of b))
body_back b rest fits =
    let short : nat_lt most_body (length b) ≡ false = le-ltb most_body (length b) fits in
    let number : length b < 2 ^ 64 = omega (arith, fits) in
    let len = varint_of (length b) in
    let enough : nat_lt (length (len ++ (b ++ rest)) - length len) (length b) ≡ false =
    le-ltb (length (len ++ (b ++ rest)) - length len) (length b) (omega (arith, length-append len (b ++ rest), length-append b rest)) in
    rw (append_assoc len b rest, varint_back (length b) (b ++ rest) number, short, enough, drop-append_seam len (b ++ rest), take-append_seam b rest, length-append len b) refl

pub frames_back : FramesReadBack
frames_back [] all = frames_end
frames_back (b ∷ bs) all =
    frames_next (frame_of b ++ frames_of bs) (b, length (frame_of b)) (body_back b (frames_of bs) all.0)
    ∙ ap (λ (rest : List ℕ). with_front b (frames rest)) (drop-append_seam (frame_of b) (frames_of bs))
    ∙ ap (λ (r : Reading (List ℕ) Kind). with_front b r) (frames_back bs all.1)
