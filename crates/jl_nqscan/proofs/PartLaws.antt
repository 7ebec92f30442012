-- A text that is cut at a line feed tells what its two parts tell.
use Rattle.std.proofs.Common.{◌≡◌, ℕ, ◌+◌, ◌<◌, ◌≤◌, List, [], ◌∷◌, ◌++◌, length, take, drop, slice_range, get_or, None, sym, ap, subst, ◌∙◌, arith}
use Rattle.std.proofs.lemmas.List.{drop_more, take_rest, take-append-drop, length-append}
use Rattle.jl_nqscan.specs.declared.line_scan.LineScan.{LineScan}
use Rattle.jl_nqscan.specs.Scanning.{told_after, feeds_of, then_told, later}
use Rattle.jl_nqscan.specs.Scanned.{IsScanned}
use Rattle.jl_nqscan.proofs.Adding.{then_same, both_good, moved_good, then_few, then_inside, moved_inside, weaker}
use Rattle.jl_nqscan.proofs.ReadingLaws.{told_cut, told_later, feeds_cut}

-- a text around one of its bytes
pub around : (text : List ℕ) (at : ℕ) → at < length text → get_or text at 0 ≡ 10 → text ≡ take at text ++ 10 ∷ drop (at + 1) text
around text at inside is =
    sym (take-append-drop at text)
    ∙ ap (λ (t : List ℕ). take at text ++ t) (drop_more text at 0 inside)
    ∙ ap (λ (b : ℕ). take at text ++ b ∷ drop (at + 1) text) is

parts_told : (left right : List ℕ) (f : ℕ) (a b : LineScan) → a ≡ told_after 0 [] left → (a.bad ≡ None → f ≡ feeds_of left) → b ≡ told_after 0 [] right
    → then_told a (later (f + 1) b) ≡ told_after 0 [] (left ++ 10 ∷ right)
parts_told left right f a b first feeds second =
    let shifted : a.bad ≡ None → later (f + 1) b ≡ told_after (0 + feeds_of left + 1) [] right = λ good.
    let count : f + 1 + 0 ≡ 0 + feeds_of left + 1 = let same = feeds good in omega (arith, same) in
    ap (later (f + 1)) second ∙ sym (told_later (f + 1) right 0 []) ∙ ap (λ (n : ℕ). told_after n [] right) count in
    then_same a (later (f + 1) b) (told_after (0 + feeds_of left + 1) [] right) shifted
    ∙ ap (λ (s : LineScan). then_told s (told_after (0 + feeds_of left + 1) [] right)) first
    ∙ sym (told_cut left right 0 [])

parts_scanned : (left right : List ℕ) (f h : ℕ) (a b : LineScan) → IsScanned left f a → IsScanned right h b → IsScanned (left ++ 10 ∷ right) (f + 1 + h) (then_told a (later (f + 1) b))
parts_scanned left right f h a b first second =
    let long : length (left ++ 10 ∷ right) ≡ length left + (1 + length right) = length-append left (10 ∷ right) ∙ omega arith in
    let all = length (left ++ 10 ∷ right) in
    let sum = then_few a (later (f + 1) b) in
    let x = first.few_feeds in
    let y = second.few_feeds in
    let s = first.few in
    let t = second.few in
    let front : length left ≤ all = omega (arith, long) in
    let back : f + 1 + length right ≤ all = omega (arith, long, x) in
    record {
      told = parts_told left right f a b first.told first.count second.told;
      count = λ good.
          let both = both_good a (later (f + 1) b) good in
          let p = first.count both.0 in
          let q = second.count (moved_good (f + 1) b.bad both.1) in
          let cut = feeds_cut left right in
          omega (arith, p, q, cut);
      few_feeds = omega (arith, long, x, y);
      few = omega (arith, long, sum, s, t);
      inside = then_inside all a (later (f + 1) b) (weaker (length left) all a.bad first.inside front) (moved_inside (f + 1) (length right) all b.bad second.inside back);
    }

pub whole_scanned : (text : List ℕ) (at f h feeds : ℕ) (a b scan : LineScan) → at < length text → get_or text at 0 ≡ 10 → IsScanned (take at text) f a → IsScanned (slice_range text (at + 1) (length text)) h b
    → feeds ≡ f + 1 + h → scan ≡ then_told a (later (f + 1) b) → IsScanned text feeds scan
whole_scanned text at f h feeds a b scan inside is first second count sum =
    subst (λ (t : List ℕ). IsScanned t feeds scan) (sym (around text at inside is))
    (rw (count, sum) (parts_scanned (take at text) (drop (at + 1) text) f h a b first (subst (λ (t : List ℕ). IsScanned t h b) (take_rest text (at + 1)) second)))
