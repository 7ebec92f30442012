-- A string that is placed part by part.
use Rattle.std.proofs.Common.{◌≡◌, ℕ, ◌+◌, ◌-◌, ◌*◌, ◌<◌, ◌≤◌, List, [], ◌∷◌, ◌++◌, length, get_or, take, drop, slice_range, ap, sym, ◌∙◌, subst, arith, append-nil, length-take, length-append, drop-drop, take-add}
use Rattle.std.proofs.lemmas.List.{drop_more, length-take-le}
use Rattle.std.proofs.lemmas.List.Concat.{flat_map-append}
use Rattle.jl_text.specs.declared.escape.Terminal.TheVariants.{StringLiteral}
use Rattle.jl_text.specs.Line.{string_byte, string_escaped}
use Rattle.jl_text.specs.Escapes.{AreRaw}
use Rattle.jl_text.specs.Places.{Placed}
use Rattle.jl_text.proofs.PlaceLemmas.{placed_then}
use Rattle.jl_text.proofs.WideLemmas.{clean_string_at}

-- the bytes up to one place, and those from there up to another
slice_parts : (bytes : List ℕ) (from next len : ℕ) → from ≤ next → slice_range bytes from (next + len) ≡ slice_range bytes from next ++ slice_range bytes next (next + len)
slice_parts bytes from next len ordered =
    let whole : next + len - from ≡ next - from + len = omega arith in
    let back : from + (next - from) ≡ next = omega arith in
    let size : len ≡ next + len - next = omega arith in
    ap (λ (n : ℕ). take n (drop from bytes)) whole ∙ take-add (next - from) len (drop from bytes)
    ∙ ap (λ (rest : List ℕ). slice_range bytes from next ++ take len rest) (drop-drop (next - from) from bytes ∙ ap (λ (n : ℕ). drop n bytes) back)
    ∙ ap (λ (n : ℕ). slice_range bytes from next ++ take n (drop next bytes)) size

slice_one : (bytes : List ℕ) (next : ℕ) → next < length bytes → slice_range bytes next (next + 1) ≡ get_or bytes next 0 ∷ []
slice_one bytes next inside =
    let one : next + 1 - next ≡ 1 = omega arith in
    ap (λ (n : ℕ). take n (drop next bytes)) one ∙ ap (take 1) (drop_more bytes next 0 inside)

escaped_parts : (bytes : List ℕ) (from next len : ℕ) → from ≤ next
    → string_escaped (slice_range bytes from (next + len)) ≡ string_escaped (slice_range bytes from next) ++ string_escaped (slice_range bytes next (next + len))
escaped_parts bytes from next len ordered = ap string_escaped (slice_parts bytes from next len ordered) ∙ flat_map-append string_byte _ _

-- a text ends no earlier than it begins
pub placed_grows : {old new text : List ℕ} {at end : ℕ} → at ≤ length old → Placed old new at text end → at + length text ≤ end
placed_grows {old} {new} {text} {at} {end} within p =
    omega (arith, ap length p.bytes, length-take end new, length-take-le at old within, length-append (take at old) text)

-- the bytes up to the next one are placed, in at most six bytes each
pub record Gone (old bytes : List ℕ) (at from end : ℕ) (page : List ℕ) (next place : ℕ) : Type 0 where
  pub ordered : from ≤ next
  pub within : next ≤ end
  pub begun : at ≤ place
  pub bounded : place ≤ at + 6 * (next - from)
  pub placed : Placed old page at (string_escaped (slice_range bytes from next)) place

module _ {old bytes : List ℕ} {at from end : ℕ} {page : List ℕ} {next place : ℕ} (gone : Gone old bytes at from end page next place)
    (inside : end ≤ length bytes) (room : at + 6 * (end - from) ≤ length old) where
  -- bytes that are written as this text
  written : (new text : List ℕ) (len behind : ℕ) → string_escaped (slice_range bytes next (next + len)) ≡ text → Placed page new place text behind
      → Placed old new at (string_escaped (slice_range bytes from (next + len))) behind
  written new text len behind is wrote =
      subst (λ (l : List ℕ). Placed old new at l behind)
      (sym (escaped_parts bytes from next len gone.ordered ∙ ap (λ (l : List ℕ). string_escaped (slice_range bytes from next) ++ l) is))
      (placed_then gone.begun (omega (arith, room)) gone.placed wrote)

  -- and up to the end
  written_all : (new text : List ℕ) (behind : ℕ) → string_escaped (slice_range bytes next (next + (end - next))) ≡ text → Placed page new place text behind
      → Placed old new at (string_escaped (slice_range bytes from end)) behind
  written_all new text behind is wrote =
      let last : next + (end - next) ≡ end = omega (arith, gone.within) in
      subst (λ (n : ℕ). Placed old new at (string_escaped (slice_range bytes from n)) behind) last (written new text (end - next) behind is wrote)

  -- some that stand for themselves
  pub gone_raw : {new : List ℕ} {behind : ℕ} (len : ℕ) → next + len ≤ end → AreRaw StringLiteral bytes next (next + len)
      → Placed page new place (slice_range bytes next (next + len)) behind → behind ≡ place + len → Gone old bytes at from end new (next + len) behind
  gone_raw {new} {behind} len few raw wrote size = record {
    ordered = omega (arith, gone.ordered);
    within = few;
    begun = omega (arith, gone.begun, size);
    bounded = omega (arith, gone.ordered, gone.bounded, size);
    placed = written new _ len behind (clean_string_at bytes next len (omega (arith, few, inside)) raw) wrote;
  }

  -- one that is escaped
  pub gone_escape : {new : List ℕ} {behind : ℕ} → next < end → Placed page new place (string_byte (get_or bytes next 0)) behind → behind ≤ place + 6
      → Gone old bytes at from end new (next + 1) behind
  gone_escape {new} {behind} some wrote size =
      let in_page : place ≤ length page = omega (arith, gone.bounded, gone.ordered, gone.within, gone.placed.size, room) in
      record {
        ordered = omega (arith, gone.ordered);
        within = omega (arith, some);
        begun = omega (arith, gone.begun, placed_grows in_page wrote);
        bounded = omega (arith, gone.ordered, gone.bounded, size);
        placed = written new _ 1 behind (ap string_escaped (slice_one bytes next (omega (arith, some, inside))) ∙ append-nil (string_byte (get_or bytes next 0))) wrote;
      }

  -- the last ones, which stand for themselves
  pub gone_last : {new : List ℕ} {behind : ℕ} (len : ℕ) → AreRaw StringLiteral bytes next (next + len) → end - next ≤ len
      → Placed page new place (slice_range bytes next (next + (end - next))) behind → Placed old new at (string_escaped (slice_range bytes from end)) behind
  gone_last {new} {behind} len raw all wrote =
      written_all new _ behind
      (clean_string_at bytes next (end - next) (omega (arith, gone.within, inside)) (λ k from_next below. raw k from_next (omega (arith, below, all)))) wrote

  -- the last ones
  pub gone_rest : {new : List ℕ} {behind : ℕ} → Placed page new place (string_escaped (slice_range bytes next end)) behind
      → Placed old new at (string_escaped (slice_range bytes from end)) behind
  gone_rest {new} {behind} wrote =
      let last : next + (end - next) ≡ end = omega (arith, gone.within) in
      written_all new _ behind (ap (λ (n : ℕ). string_escaped (slice_range bytes next n)) last) wrote
