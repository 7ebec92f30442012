-- Texts that were written behind one another on a page, and what is kept of the last line.
use Rattle.std.proofs.Common.{◌≡◌, ℕ, ◌+◌, ◌-◌, ◌≤◌, List, ◌++◌, Option, length, take, drop, slice_range, ap, sym, ◌∙◌, arith, length-append, length-take-le, take_at, drop_at}
use Rattle.std.proofs.lemmas.List.{take-take, drop-take}
use Rattle.jl_base.specs.Terms.{Value}
use Rattle.jl_state.specs.Lawful.{maybe_value, IsLawful}
use Rattle.jl_lines.specs.declared.decoding.Decoding.{Decoding}
use Rattle.jl_lines.specs.Pages.{IsStill, KeepsNone}
use Rattle.jl_lines.specs.Kept.{Keeps}

-- what a text that was written behind a place tells
pub record Wrote (old new : List ℕ) (at : ℕ) (text : List ℕ) (end : ℕ) : Type 0 where
  pub moved : at ≤ end
  pub front : take at new ≡ take at old
  pub part : slice_range new at end ≡ text

-- a range, by the front that it ends
range_of_front : (xs : List ℕ) (i e : ℕ) → i ≤ e → slice_range xs i e ≡ drop i (take e xs)
range_of_front xs i e le =
    let size : i + (e - i) ≡ e = omega (arith, le) in
    sym (drop-take i (e - i) xs) ∙ ap (λ n. drop i (take n xs)) size

pub wrote : (old new text : List ℕ) (at end : ℕ) → at ≤ length old → end ≤ length new → take end new ≡ take at old ++ text → Wrote old new at text end
wrote old new text at end within inside bytes =
    let first : length (take at old) ≡ at = length-take-le at old within in
    let moved : at ≤ end = omega (arith, ap length bytes, length-take-le end new inside, length-append (take at old) text, first) in
    record {
      moved = moved;
      front = sym (take-take at end new moved) ∙ ap (take at) bytes ∙ take_at (take at old) text at first;
      part = range_of_front new at end moved ∙ ap (drop at) bytes ∙ drop_at (take at old) text at first;
    }

-- a range before the place is left
pub range_left : (old new : List ℕ) (at i e : ℕ) → take at new ≡ take at old → i ≤ e → e ≤ at → slice_range new i e ≡ slice_range old i e
range_left old new at i e front le within =
    range_of_front new i e le ∙ ap (drop i) (sym (take-take e at new within) ∙ ap (take e) front ∙ take-take e at old within) ∙ sym (range_of_front old i e le)

-- nothing is kept, and that is still so
none_still : (text : List ℕ) (term : Option Value) → length text ≡ 0 → IsStill text term
none_still text term none some = absurd (omega (arith, none, some))

pub kept_anew : (bytes : List ℕ) (d : Decoding) → IsLawful bytes d.state → KeepsNone d.page → Keeps bytes d
kept_anew bytes d lawful none = record {
  lawful = lawful;
  subject = none_still d.page.subject (maybe_value bytes d.state.subject) none.subject;
  predicate = none_still d.page.predicate (maybe_value bytes d.state.predicate) none.predicate;
  object = none_still d.page.object (maybe_value bytes d.state.object) none.object;
}
