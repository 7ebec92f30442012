-- Texts that are placed on a page.
use Rattle.std.proofs.Common.{◌≡◌, ℕ, ◌+◌, ◌≤◌, List, ◌++◌, length, take, slice_range, ap, sym, ◌∙◌, arith, Option, Some, None, length-append, length-take-le, take-add, take_at, drop_at, append_assoc}
use Rattle.std.proofs.lemmas.List.{take-take}
use Rattle.std.proofs.lemmas.Simd.{take_more_put_chunk, length-put_chunk, length-chunk}
use lib.Lanes.{chunk, put_chunk}
use Rattle.jl_text.specs.Places.{Placed, Places}
use Rattle.jl_text.proofs.WideLemmas.{front_of_copy}

-- the front stays where the text stands behind it
pub placed_behind : (old new text : List ℕ) (at end : ℕ) → at ≤ length old → at ≤ end → take end new ≡ take at old ++ text → length new ≡ length old → Placed old new at text end
placed_behind old new text at end within behind bytes size =
    record {
      bytes = bytes;
      front = sym (take-take at end new behind) ∙ ap (take at) bytes ∙ take_at (take at old) text at (length-take-le at old within);
      size = size;
    }

-- a block was written, and its first bytes count
pub block_placed : (page bytes : List ℕ) (at from len width : ℕ) → len ≤ width → from + width ≤ length bytes → at + width ≤ length page
    → Placed page (put_chunk at page (chunk from width bytes)) at (slice_range bytes from (from + len)) (at + len)
block_placed page bytes at from len width counted inside room =
    let v = chunk from width bytes in
    let long : length v ≡ width = length-chunk from width bytes inside in
    let whole : take (at + width) (put_chunk at page v) ≡ take at page ++ v = take_more_put_chunk at page v (at + width) (omega (arith, long)) room in
    let first : length (take at page) ≡ at = length-take-le at page (omega arith) in
    placed_behind page (put_chunk at page v) (slice_range bytes from (from + len)) at (at + len) (omega arith) (omega arith)
    (sym (take-take (at + len) (at + width) (put_chunk at page v) (omega arith)) ∙ ap (take (at + len)) whole ∙ take-add at len (take at page ++ v)
    ∙ (λ k. take_at (take at page) v at first k ++ take len (drop_at (take at page) v at first k))
    ∙ ap (λ (text : List ℕ). take at page ++ text) (front_of_copy bytes from len width counted))
    (length-put_chunk at page v)

-- a second text behind a first one
pub placed_then : {a b c xs ys : List ℕ} {i j k : ℕ} → i ≤ j → i ≤ length a → Placed a b i xs j → Placed b c j ys k → Placed a c i (xs ++ ys) k
placed_then {a} {b} {c} {xs} {ys} {i} {j} {k} behind within p q = record {
  bytes = q.bytes ∙ ap (λ (l : List ℕ). l ++ ys) p.bytes ∙ append_assoc (take i a) xs ys;
  front = sym (take-take i j c behind) ∙ ap (take i) q.front ∙ take-take i j b behind ∙ p.front;
  size = q.size ∙ p.size;
}

pub placed_end : {a b xs : List ℕ} {i j : ℕ} → i ≤ length a → j ≤ length b → Placed a b i xs j → j ≡ i + length xs
placed_end {a} {b} {xs} {i} {j} within inside p =
    let text = ap length p.bytes in
    omega (arith, text, length-take-le j b inside, length-append (take i a) xs, length-take-le i a within)

-- a second text, or none, behind a first one
pub places_then : {a b xs : List ℕ} {i j : ℕ} (c ys : List ℕ) (found : Option ℕ) → i ≤ length a → j ≤ length b → Placed a b i xs j → Places b c j ys found → Places a c i (xs ++ ys) found
places_then {a} {b} {xs} {i} {j} c ys (Some end) within inside p q =
    let moved = placed_end within inside p in
    placed_then (omega (arith, moved)) within p q
places_then {a} {b} {xs} {i} {j} c ys None within inside p q =
    let moved = placed_end within inside p in
    (sym (take-take i j c (omega (arith, moved))) ∙ ap (take i) q.0 ∙ take-take i j b (omega (arith, moved)) ∙ p.front, q.1 ∙ p.size)
