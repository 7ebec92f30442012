-- What is told of a text, line by line, and part by part.
use Rattle.std.proofs.Common.{◌≡◌, ℕ, suc, ◌+◌, Bool, true, false, ◌||◌, cond, List, [], ◌∷◌, ◌++◌, length, refl, sym, ap, ◌∙◌, arith}
use Rattle.std.specs.Prelude.{◌==◌}
use Rattle.jl_nqread.specs.declared.line_shape.Shape.{Shape}
use Rattle.jl_nqread.specs.declared.line_shape.Shape.TheVariants as shapes
use Rattle.jl_nqread.specs.Lines.{shape_of}
use Rattle.jl_nqread.specs.Meaning.{item_said}
use Rattle.jl_nqscan.specs.declared.line_scan.LineScan.{LineScan}
use Rattle.jl_nqscan.specs.Reading.{ends_line, feed, Line, line_after, lines_after, Reading, line_then, read_lines}
use Rattle.jl_nqscan.specs.Scanning.{is_quad, told, told_after, feeds_of, nothing, one_line, then_told, later}
use Rattle.jl_nqscan.proofs.Adding.{then_assoc, nothing_first, nothing_last, later_then, later_line}
use Rattle.jl_nqscan.proofs.ShapeLaws.{triple_said, quad_said, empty_line}

told_as : (q : Shape) (line : Line) (rest : Reading) → (q ≡ shapes.Triple → is_quad (item_said line.text) ≡ false) → (q ≡ shapes.Quad → is_quad (item_said line.text) ≡ true)
    → told (line_then q line rest) ≡ then_told (one_line q line.number) (told rest)
told_as shapes.Blank line rest t g = sym (nothing_first (told rest))
told_as shapes.Triple line rest t g =
    let more : suc (length rest.items) ≡ 1 + length rest.items = omega arith in
    rw (t refl, more) refl
told_as shapes.Quad line rest t g =
    let more : suc (length rest.items) ≡ 1 + length rest.items = omega arith in
    rw (g refl, more) refl
told_as shapes.Bad line rest t g = refl

told_lines : (line : Line) (rest : List Line) → told (read_lines (line ∷ rest)) ≡ then_told (one_line (shape_of line.text) line.number) (told (read_lines rest))
unfolding read_lines
told_lines line rest = told_as (shape_of line.text) line (read_lines rest) (triple_said line.text) (quad_said line.text)

told_none : told (read_lines []) ≡ nothing
unfolding read_lines
told_none = refl

-- the end of a text
pub told_end : (feeds : ℕ) (began : List ℕ) → told_after feeds began [] ≡ one_line (shape_of began) (feeds + 1)
unfolding lines_after
told_end feeds began =
    told_lines (line_after feeds began) [] ∙ ap (then_told (one_line (shape_of began) (feeds + 1))) told_none ∙ nothing_last (one_line (shape_of began) (feeds + 1))

pub told_nothing : (feeds : ℕ) → told_after feeds [] [] ≡ nothing
told_nothing feeds = told_end feeds [] ∙ ap (λ (q : Shape). one_line q (feeds + 1)) empty_line

-- a byte that ends a line, and one that doesn't
lines_end : (feeds : ℕ) (began : List ℕ) (b : ℕ) (rest : List ℕ) → ends_line b ≡ true → lines_after feeds began (b ∷ rest) ≡ line_after feeds began ∷ lines_after (feeds + feed b) [] rest
unfolding lines_after
lines_end feeds began b rest is = rw is refl

pub lines_go_on : (feeds : ℕ) (began : List ℕ) (b : ℕ) (rest : List ℕ) → ends_line b ≡ false → lines_after feeds began (b ∷ rest) ≡ lines_after feeds (began ++ b ∷ []) rest
unfolding lines_after
lines_go_on feeds began b rest is = rw is refl

pub told_line : (feeds : ℕ) (began : List ℕ) (b : ℕ) (rest : List ℕ) → ends_line b ≡ true
    → told_after feeds began (b ∷ rest) ≡ then_told (one_line (shape_of began) (feeds + 1)) (told_after (feeds + feed b) [] rest)
told_line feeds began b rest is =
    ap (λ (ls : List Line). told (read_lines ls)) (lines_end feeds began b rest is)
    ∙ told_lines (line_after feeds began) (lines_after (feeds + feed b) [] rest)

told_on : (feeds : ℕ) (began : List ℕ) (b : ℕ) (rest : List ℕ) → ends_line b ≡ false → told_after feeds began (b ∷ rest) ≡ told_after feeds (began ++ b ∷ []) rest
told_on feeds began b rest is = ap (λ (ls : List Line). told (read_lines ls)) (lines_go_on feeds began b rest is)

no_feed_by : (t u : Bool) → (t || u) ≡ false → ◌≡◌ {A = ℕ} (cond t 1 0) 0
no_feed_by true u is = let no : true ≡ false = is in cc
no_feed_by false u is = refl

pub no_feed : (b : ℕ) → ends_line b ≡ false → feed b ≡ 0
no_feed b is = no_feed_by (b == 10) (b == 13) is

pub feeds_more : (b : ℕ) (rest : List ℕ) → feeds_of (b ∷ rest) ≡ feed b + feeds_of rest
unfolding feeds_of
feeds_more b rest = refl

pub feeds_none : feeds_of [] ≡ 0
unfolding feeds_of
feeds_none = refl

-- a text that is cut at a line feed
abbrev CutAt : List ℕ → List ℕ → Type 0
CutAt a rest = (feeds : ℕ) (began : List ℕ) → told_after feeds began (a ++ 10 ∷ rest) ≡ then_told (told_after feeds began a) (told_after (feeds + feeds_of a + 1) [] rest)

cut_over : (b : ℕ) (a rest : List ℕ) (t : Bool) → ends_line b ≡ t → CutAt a rest → CutAt (b ∷ a) rest
cut_over b a rest true is cut feeds began =
    let count : feeds + feed b + feeds_of a + 1 ≡ feeds + feeds_of (b ∷ a) + 1 = rw (feeds_more b a) (omega arith) in
    let line = one_line (shape_of began) (feeds + 1) in
    let more = told_after (feeds + feed b) [] a in
    let end = told_after (feeds + feed b + feeds_of a + 1) [] rest in
    told_line feeds began b (a ++ 10 ∷ rest) is
    ∙ ap (then_told line) (cut (feeds + feed b) [])
    ∙ sym (then_assoc line more end)
    ∙ ap (λ (s : LineScan). then_told s end) (sym (told_line feeds began b a is))
    ∙ ap (λ (n : ℕ). then_told (told_after feeds began (b ∷ a)) (told_after n [] rest)) count
cut_over b a rest false is cut feeds began =
    let count : feeds + feeds_of a + 1 ≡ feeds + feeds_of (b ∷ a) + 1 = rw (feeds_more b a, no_feed b is) (omega arith) in
    told_on feeds began b (a ++ 10 ∷ rest) is
    ∙ cut feeds (began ++ b ∷ [])
    ∙ ap (λ (s : LineScan). then_told s (told_after (feeds + feeds_of a + 1) [] rest)) (sym (told_on feeds began b a is))
    ∙ ap (λ (n : ℕ). then_told (told_after feeds began (b ∷ a)) (told_after n [] rest)) count

cut_first : (rest : List ℕ) → CutAt [] rest
cut_first rest feeds began =
    let count : feeds + 1 ≡ feeds + feeds_of [] + 1 = rw feeds_none (omega arith) in
    told_line feeds began 10 rest refl
    ∙ ap (λ (s : LineScan). then_told s (told_after (feeds + 1) [] rest)) (sym (told_end feeds began))
    ∙ ap (λ (n : ℕ). then_told (told_after feeds began []) (told_after n [] rest)) count

pub told_cut : (a rest : List ℕ) → CutAt a rest
told_cut [] rest = cut_first rest
told_cut (b ∷ a) rest = cut_over b a rest (ends_line b) refl (told_cut a rest)

-- the same text after more line feeds
abbrev Moves : ℕ → List ℕ → Type 0
Moves k text = (feeds : ℕ) (began : List ℕ) → told_after (k + feeds) began text ≡ later k (told_after feeds began text)

moved_end : (k : ℕ) → Moves k []
moved_end k feeds began =
    let count : k + feeds + 1 ≡ k + (feeds + 1) = omega arith in
    told_end (k + feeds) began
    ∙ ap (one_line (shape_of began)) count
    ∙ sym (later_line k (feeds + 1) (shape_of began))
    ∙ ap (later k) (sym (told_end feeds began))

moved_over : (k b : ℕ) (rest : List ℕ) (t : Bool) → ends_line b ≡ t → Moves k rest → Moves k (b ∷ rest)
moved_over k b rest true is moves feeds began =
    let count : k + feeds + 1 ≡ k + (feeds + 1) = omega arith in
    let after : k + feeds + feed b ≡ k + (feeds + feed b) = omega arith in
    let line = one_line (shape_of began) (feeds + 1) in
    told_line (k + feeds) began b rest is
    ∙ ap (λ (n : ℕ). then_told (one_line (shape_of began) n) (told_after (k + feeds + feed b) [] rest)) count
    ∙ ap (λ (s : LineScan). then_told s (told_after (k + feeds + feed b) [] rest)) (sym (later_line k (feeds + 1) (shape_of began)))
    ∙ ap (λ (n : ℕ). then_told (later k line) (told_after n [] rest)) after
    ∙ ap (then_told (later k line)) (moves (feeds + feed b) [])
    ∙ sym (later_then k line (told_after (feeds + feed b) [] rest))
    ∙ ap (later k) (sym (told_line feeds began b rest is))
moved_over k b rest false is moves feeds began =
    told_on (k + feeds) began b rest is
    ∙ moves feeds (began ++ b ∷ [])
    ∙ ap (later k) (sym (told_on feeds began b rest is))

pub told_later : (k : ℕ) (text : List ℕ) → Moves k text
told_later k [] = moved_end k
told_later k (b ∷ rest) = moved_over k b rest (ends_line b) refl (told_later k rest)

-- the line feeds of a text that is cut
pub feeds_cut : (a rest : List ℕ) → feeds_of (a ++ 10 ∷ rest) ≡ feeds_of a + 1 + feeds_of rest
unfolding feeds_of
feeds_cut [] rest = omega arith
feeds_cut (b ∷ a) rest = let more = feeds_cut a rest in omega (arith, more)
