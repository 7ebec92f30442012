-- Stretches in which no line ends, by their places.
use Rattle.std.proofs.Common.{◌≡◌, ℕ, zero, suc, ◌+◌, ◌-◌, ◌<◌, ◌≤◌, true, false, List, [], ◌∷◌, ◌++◌, length, take, drop, get_or, slice_range, refl, sym, ap, subst, ◌∙◌, arith, inl, inr}
use Rattle.std.proofs.Math.ListN.{drop_of_length-le}
use Rattle.std.proofs.lemmas.Bool.{cases_lt, false_from_ne_true}
use Rattle.std.proofs.lemmas.List.{take_rest, drop_more, length-drop, take_more, get_or-drop, get_or_past}
use Rattle.memchr.specs.Find.{Nowhere, Passes, is_byte2}
use Rattle.jl_nqread.specs.Lines.{shape_of}
use Rattle.jl_nqscan.specs.Reading.{ends_line, feed, Line, lines_after, read_lines}
use Rattle.jl_nqscan.specs.Scanning.{told, told_after, feeds_of, one_line, then_told}
use Rattle.jl_nqscan.specs.Stretches.{feed_at, IsStretch}
use Rattle.jl_nqscan.proofs.Adding.{nothing_last}
use Rattle.jl_nqscan.proofs.ReadingLaws.{told_end, told_nothing, told_line, lines_go_on, no_feed, feeds_more, feeds_none}

slice_snoc : (bytes : List ℕ) (from at : ℕ) → from ≤ at → at < length bytes → slice_range bytes from (at + 1) ≡ slice_range bytes from at ++ get_or bytes at 0 ∷ []
slice_snoc bytes from at order inside =
    let n = at - from in
    let more : at + 1 - from ≡ n + 1 = omega (arith, order) in
    let there : from + n ≡ at = omega (arith, order) in
    let fits : n < length (drop from bytes) = rw (length-drop from bytes) (omega (arith, order, inside)) in
    ap (λ (k : ℕ). take k (drop from bytes)) more
    ∙ take_more (drop from bytes) n 0 fits
    ∙ ap (λ (b : ℕ). slice_range bytes from at ++ b ∷ []) (get_or-drop from bytes n 0 ∙ ap (λ (k : ℕ). get_or bytes k 0) there)

pub stretch_start : (bytes : List ℕ) (at : ℕ) → IsStretch bytes at at
stretch_start bytes at =
    let none : at - at ≡ 0 = omega arith in
    (λ feeds. ap (λ (k : ℕ). lines_after feeds (take k (drop at bytes)) (drop at bytes)) (sym none), refl)

pub stretch_more : (bytes : List ℕ) (from at : ℕ) → from ≤ at → at < length bytes → ends_line (get_or bytes at 0) ≡ false → IsStretch bytes from at → IsStretch bytes from (at + 1)
stretch_more bytes from at order inside is stretch =
    let b = get_or bytes at 0 in
    let rest = drop (at + 1) bytes in
    let more = drop_more bytes at 0 inside in
    let count : feed b + feeds_of rest ≡ feeds_of rest = rw (no_feed b is) (omega arith) in (
      λ feeds. stretch.0 feeds
          ∙ ap (lines_after feeds (slice_range bytes from at)) more
          ∙ lines_go_on feeds (slice_range bytes from at) b rest is
          ∙ ap (λ (t : List ℕ). lines_after feeds t rest) (sym (slice_snoc bytes from at order inside)),
      stretch.1 ∙ ap feeds_of more ∙ feeds_more b rest ∙ count,
    )

run_from : (bytes : List ℕ) (from n : ℕ) → from + n ≤ length bytes → ((k : ℕ) → k < n → ends_line (get_or bytes (from + k) 0) ≡ false) → IsStretch bytes from (from + n)
run_from bytes from zero inside stays = let none : from + 0 ≡ from = omega arith in subst (IsStretch bytes from) (sym none) (stretch_start bytes from)
run_from bytes from (suc n) inside stays =
    let more : from + n + 1 ≡ from + suc n = omega arith in
    let shorter : from + n ≤ length bytes = omega (arith, inside) in
    let there : from + n < length bytes = omega (arith, inside) in
    let order : from ≤ from + n = omega arith in
    let last : n < suc n = omega arith in
    let earlier = run_from bytes from n shorter (λ k lt. let le : k < suc n = omega (arith, lt) in stays k le) in
    subst (IsStretch bytes from) more (stretch_more bytes from (from + n) order there (stays n last) earlier)

byte_there : (bytes : List ℕ) (from k : ℕ) → get_or (slice_range bytes from (length bytes)) k 0 ≡ get_or bytes (from + k) 0
byte_there bytes from k = ap (λ (t : List ℕ). get_or t k 0) (take_rest bytes from) ∙ get_or-drop from bytes k 0

pub rest_length : (bytes : List ℕ) (from : ℕ) → length (slice_range bytes from (length bytes)) ≡ length bytes - from
rest_length bytes from = ap length (take_rest bytes from) ∙ length-drop from bytes

-- up to the first byte that ends a line
pub none_ends : (bytes : List ℕ) (from n : ℕ) → from + n ≤ length bytes → Nowhere (Passes (is_byte2 10 13) (slice_range bytes from (length bytes))) 0 n → IsStretch bytes from (from + n)
none_ends bytes from n inside none = run_from bytes from n inside (λ k lt.
    let low : 0 ≤ k = omega arith in
    false_from_ne_true (ends_line (get_or bytes (from + k) 0)) (λ is. none k low lt (ap ends_line (byte_there bytes from k) ∙ is)))

told_stretch : (bytes : List ℕ) (at end feeds : ℕ) → IsStretch bytes at end → told_after feeds [] (drop at bytes) ≡ told_after feeds (slice_range bytes at end) (drop end bytes)
told_stretch bytes at end feeds stretch = ap (λ (ls : List Line). told (read_lines ls)) (stretch.0 feeds)

-- a line with its end
pub line_done : (bytes : List ℕ) (at end : ℕ) → IsStretch bytes at end → (end < length bytes → ends_line (get_or bytes end 0) ≡ true) → (feeds : ℕ)
    → told_after feeds [] (drop at bytes) ≡ then_told (one_line (shape_of (slice_range bytes at end)) (feeds + 1)) (told_after (feeds + feed_at bytes end) [] (drop (end + 1) bytes))
line_done bytes at end stretch ends feeds =
    let line = slice_range bytes at end in
    let after = feeds + feed_at bytes end in
    elim (cases_lt end (length bytes)) [
      | inl inside ↦
          told_stretch bytes at end feeds stretch
          ∙ ap (told_after feeds line) (drop_more bytes end 0 inside)
          ∙ told_line feeds line (get_or bytes end 0) (drop (end + 1) bytes) (ends inside)
      | inr past ↦
          let none = drop_of_length-le bytes past in
          let over : length bytes ≤ end + 1 = omega (arith, past) in
          told_stretch bytes at end feeds stretch
          ∙ ap (told_after feeds line) none
          ∙ told_end feeds line
          ∙ sym (nothing_last (one_line (shape_of line) (feeds + 1)))
          ∙ ap (then_told (one_line (shape_of line) (feeds + 1))) (sym (told_nothing after))
          ∙ ap (λ (t : List ℕ). then_told (one_line (shape_of line) (feeds + 1)) (told_after after [] t)) (sym (drop_of_length-le bytes over))
    ]

-- the line feeds from a line on
pub feeds_done : (bytes : List ℕ) (at end : ℕ) → IsStretch bytes at end → feeds_of (drop at bytes) ≡ feed_at bytes end + feeds_of (drop (end + 1) bytes)
feeds_done bytes at end stretch = elim (cases_lt end (length bytes)) [
  | inl inside ↦ stretch.1 ∙ ap feeds_of (drop_more bytes end 0 inside) ∙ feeds_more (get_or bytes end 0) (drop (end + 1) bytes)
  | inr past ↦
      let over : length bytes ≤ end + 1 = omega (arith, past) in
      let none : feeds_of (drop end bytes) ≡ 0 = ap feeds_of (drop_of_length-le bytes past) ∙ feeds_none in
      let after : feeds_of (drop (end + 1) bytes) ≡ 0 = ap feeds_of (drop_of_length-le bytes over) ∙ feeds_none in
      let feed : feed_at bytes end ≡ 0 = ap feed (get_or_past bytes end 0 past) in
      stretch.1 ∙ none ∙ sym (rw (after, feed) refl)
]
