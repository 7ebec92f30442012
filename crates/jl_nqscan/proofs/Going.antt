-- How far the scanning of a piece has come.
use Rattle.std.proofs.Common.{◌≡◌, ℕ, ◌+◌, ◌<◌, ◌≤◌, true, false, List, [], Option, length, drop, get_or, slice_range, Some, None, is_some, refl, sym, ap, ◌∙◌, arith}
use Rattle.std.proofs.Math.ListN.{drop_of_length-le}
use Rattle.jl_nqread.specs.Lines.{shape_of}
use Rattle.jl_nqscan.specs.declared.line_scan.LineScan.{LineScan}
use Rattle.jl_nqscan.specs.Reading.{ends_line}
use Rattle.jl_nqscan.specs.Scanning.{told_after, feeds_of, nothing, one_line, then_told}
use Rattle.jl_nqscan.specs.Stretches.{feed_at, IsStretch}
use Rattle.jl_nqscan.specs.Scanned.{IsScanned}
use Rattle.jl_nqscan.proofs.Adding.{then_assoc, nothing_first, nothing_last, stops, then_few, then_inside, line_few, line_inside}
use Rattle.jl_nqscan.proofs.ReadingLaws.{told_nothing, feeds_none}
use Rattle.jl_nqscan.proofs.Stretching.{line_done, feeds_done}

pub record Going (bytes : List ℕ) (at feeds : ℕ) (scan : LineScan) : Type 0 where
  pub told : told_after 0 [] bytes ≡ then_told scan (told_after feeds [] (drop at bytes))
  pub good : scan.bad ≡ None
  pub count : feeds + feeds_of (drop at bytes) ≡ feeds_of bytes

pub going_start : (bytes : List ℕ) → Going bytes 0 0 nothing
going_start bytes = record { told = sym (nothing_first (told_after 0 [] bytes)); good = refl; count = omega arith }

abbrev pub line_at : List ℕ → ℕ → ℕ → ℕ → LineScan
line_at bytes at end feeds = one_line (shape_of (slice_range bytes at end)) (feeds + 1)

told_step : (bytes : List ℕ) (at end feeds : ℕ) (scan : LineScan) → Going bytes at feeds scan → IsStretch bytes at end → (end < length bytes → ends_line (get_or bytes end 0) ≡ true)
    → told_after 0 [] bytes ≡ then_told (then_told scan (line_at bytes at end feeds)) (told_after (feeds + feed_at bytes end) [] (drop (end + 1) bytes))
told_step bytes at end feeds scan going stretch ends =
    going.told
    ∙ ap (then_told scan) (line_done bytes at end stretch ends feeds)
    ∙ sym (then_assoc scan (line_at bytes at end feeds) (told_after (feeds + feed_at bytes end) [] (drop (end + 1) bytes)))

not_some : (x : Option ℕ) → is_some x ≡ false → x ≡ None
not_some None is = refl
not_some (Some n) is = let no : true ≡ false = is in cc

pub going_step : (bytes : List ℕ) (at end feeds : ℕ) (scan : LineScan) → Going bytes at feeds scan → IsStretch bytes at end → (end < length bytes → ends_line (get_or bytes end 0) ≡ true)
    → is_some (then_told scan (line_at bytes at end feeds)).bad ≡ false → Going bytes (end + 1) (feeds + feed_at bytes end) (then_told scan (line_at bytes at end feeds))
going_step bytes at end feeds scan going stretch ends good =
    let count = going.count in
    let done = feeds_done bytes at end stretch in
    record {
      told = told_step bytes at end feeds scan going stretch ends;
      good = not_some (then_told scan (line_at bytes at end feeds)).bad good;
      count = omega (arith, count, done);
    }

pub going_stop : (bytes : List ℕ) (at end feeds : ℕ) (scan : LineScan) → Going bytes at feeds scan → IsStretch bytes at end → (end < length bytes → ends_line (get_or bytes end 0) ≡ true)
    → at < length bytes → feeds ≤ at → scan.statements ≤ at → is_some (then_told scan (line_at bytes at end feeds)).bad ≡ true → IsScanned bytes feeds (then_told scan (line_at bytes at end feeds))
going_stop bytes at end feeds scan going stretch ends inside few_feeds few bad =
    let line = line_at bytes at end feeds in
    let sum = then_few scan line in
    let one = line_few (shape_of (slice_range bytes at end)) (feeds + 1) in
    let number : feeds + 1 ≤ length bytes = omega (arith, inside, few_feeds) in
    record {
      told = sym (told_step bytes at end feeds scan going stretch ends ∙ stops (then_told scan line) (told_after (feeds + feed_at bytes end) [] (drop (end + 1) bytes)) bad);
      count = λ good. let no : false ≡ true = sym (ap is_some good) ∙ bad in cc;
      few_feeds = omega (arith, inside, few_feeds);
      few = omega (arith, inside, few, sum, one);
      inside = then_inside (length bytes) scan line (rw going.good tt) (line_inside (length bytes) (feeds + 1) (shape_of (slice_range bytes at end)) number);
    }

pub going_end : (bytes : List ℕ) (at feeds : ℕ) (scan : LineScan) → Going bytes at feeds scan → length bytes ≤ at → feeds ≤ length bytes → scan.statements ≤ length bytes → IsScanned bytes feeds scan
going_end bytes at feeds scan going past few_feeds few =
    let over = drop_of_length-le bytes past in
    let count = going.count in
    let none : feeds_of (drop at bytes) ≡ 0 = ap feeds_of over ∙ feeds_none in
    record {
      told = sym (going.told ∙ ap (λ (t : List ℕ). then_told scan (told_after feeds [] t)) over ∙ ap (then_told scan) (told_nothing feeds) ∙ nothing_last scan);
      count = λ good. omega (arith, count, none);
      few_feeds = few_feeds;
      few = few;
      inside = rw going.good tt;
    }
