-- Rows that are written part by part.
use Rattle.std.proofs.Common.{◌≡◌, ℕ, ◌^◌, ◌<◌, ◌≤◌, Bool, true, false, List, [], ◌∷◌, ◌++◌, length, Option, Some, None, Err, nat_lt, refl, ap, sym, ◌∙◌, ltb-false, append_assoc, append-nil, ap₂, unwrap_or}
use Rattle.jl_encoding.specs.Limits.{most_item_bytes}
use Rattle.jl_rows.specs.Written.{Ids, Row}
use Rattle.jl_spell.specs.Fields.{Bytes, front_of, field_of}
use Rattle.jl_spell.specs.Messages.{message_of, unless_empty}
use Rattle.jl_spell.specs.Rows.{iri_of, row_of}
use Rattle.jl_spell.specs.Frames.{body_of}
use Rattle.jl_encode.specs.declared.refusal.Refusal.{Refusal}
use Rattle.jl_encode.specs.declared.refusal.Refusal.TheVariants.{TooWide, NoMemory}
use Rattle.jl_encode.specs.Putting.{PutsRow}
use Rattle.jl_encode.specs.Spelling.{limited, joint, in_field, row_bytes, fronts, AddsFronts}
use Rattle.jl_encode.proofs.Lengths.{joint_bytes, field_bytes}
use Rattle.jl_encode.proofs.ShortLemmas.{told, untold, held_short}
use Rattle.jl_spell.proofs.Writing as writing

pub three_appended : (field size : ℕ) (old first second third fourth a b d : List ℕ) → first ≡ old ++ front_of field size → size ≡ length (a ++ (b ++ d)) → second ≡ first ++ a → third ≡ second ++ b → fourth ≡ third ++ d
    → fourth ≡ old ++ field_of field (Bytes (a ++ (b ++ d)))
three_appended field size old first second third fourth a b d front is x y z =
    let whole : fourth ≡ first ++ (a ++ (b ++ d)) = rw (z, y, x) (simp append_assoc) in
    writing.in_field field size old first fourth (a ++ (b ++ d)) front is whole

-- the lengths of a row, told from that of its message
pub row_told : (number : ℕ) (m : List ℕ) (message row whole : Option ℕ) → message ≡ limited (length m) → row ≡ in_field number message → whole ≡ in_field 1 row → whole ≡ limited (length (row_bytes number m))
row_told number m message row whole is inner outer = outer ∙ ap (in_field 1) (inner ∙ ap (in_field number) is ∙ field_bytes number m) ∙ field_bytes 1 (field_of number (Bytes m))

pub row_long : (number : ℕ) (m : List ℕ) (message row whole : Option ℕ) → message ≡ limited (length m) → row ≡ in_field number message → whole ≡ in_field 1 row → whole ≡ None → most_item_bytes < length (row_bytes number m)
row_long number m message row whole is inner outer none = untold (length (row_bytes number m)) (sym (row_told number m message row whole is inner outer) ∙ none)

told_short : (n k : ℕ) → limited n ≡ Some k → n ≤ most_item_bytes
told_short n k some = by_test (nat_lt most_item_bytes n) refl
  where
    by_test : (b : Bool) → nat_lt most_item_bytes n ≡ b → n ≤ most_item_bytes
    by_test true e = let none = rw e at some in absurd (cc)
    by_test false e = ltb-false most_item_bytes n e

pub row_short : (number : ℕ) (m : List ℕ) (message row whole : Option ℕ) (size : ℕ) → message ≡ limited (length m) → row ≡ in_field number message → whole ≡ in_field 1 row → whole ≡ Some size → length (field_of number (Bytes m)) ≤ most_item_bytes
row_short number m message row whole size is inner outer some =
    held_short 1 (field_of number (Bytes m)) (told_short (length (row_bytes number m)) size (sym (row_told number m message row whole is inner outer) ∙ some))

pub fronts_appended : (number : ℕ) (m : List ℕ) (message row whole : Option ℕ) (size a b : ℕ) (old first second : List ℕ) → message ≡ limited (length m) → row ≡ in_field number message → whole ≡ in_field 1 row → whole ≡ Some size
    → a ≡ unwrap_or row 0 → b ≡ unwrap_or message 0 → first ≡ old ++ front_of 1 a → second ≡ first ++ front_of number b
    → (second ≡ old ++ fronts number m) × (length m ≤ most_item_bytes)
fronts_appended number m message row whole size a b old first second is inner outer some x y front back =
    let short = row_short number m message row whole size is inner outer some in
    let within : length m ≤ most_item_bytes = held_short number m short in
    let one : a ≡ length (field_of number (Bytes m)) = x ∙ ap (λ (l : Option ℕ). unwrap_or l 0) (inner ∙ ap (in_field number) is ∙ field_bytes number m ∙ told (length (field_of number (Bytes m))) short) in
    let two : b ≡ length m = y ∙ ap (λ (l : Option ℕ). unwrap_or l 0) (is ∙ told (length m) within) in
    (rw (back, front, one, two) (append_assoc old (front_of 1 (length (field_of number (Bytes m)))) (front_of number (length m))), within)

-- a row behind its fronts
pub row_appended : (number : ℕ) (old first last m row : List ℕ) → row ≡ row_bytes number m → first ≡ old ++ fronts number m → last ≡ first ++ m → last ≡ old ++ row
unfolding field_of
row_appended number old first last m row is front rest = rw (rest, front, is) (simp append_assoc)

pub row_refused : (e : Refusal) (r : Row) (number : ℕ) (old new m : List ℕ) → body_of (r ∷ []) ≡ row_bytes number m → AddsFronts {A = Unit {0}} (Err e) number old new m → PutsRow r old new (Err e)
row_refused TooWide r number old new m is adds = rw is adds
row_refused NoMemory r number old new m is adds = tt

pub namespace_row : (name : List ℕ) (i : Ids) → body_of (Row.Namespace name (Some i) ∷ []) ≡ row_bytes 6 (unless_empty 1 name ++ field_of 2 (Bytes (iri_of i)))
unfolding row_of message_of
namespace_row [] i = append-nil _ ∙ ap (row_bytes 6) (append-nil (field_of 2 (Bytes (iri_of i))))
namespace_row (b ∷ bs) i = append-nil _ ∙ ap (λ (xs : List ℕ). row_bytes 6 (field_of 1 (Bytes (b ∷ bs)) ++ xs)) (append-nil (field_of 2 (Bytes (iri_of i))))

pub two_behind : (number : ℕ) (old first second third a b row : List ℕ) → row ≡ row_bytes number (a ++ b) → first ≡ old ++ fronts number (a ++ b) → second ≡ first ++ a → third ≡ second ++ b → third ≡ old ++ row
two_behind number old first second third a b row is front x y = row_appended number old first third (a ++ b) row is front (y ∙ ap (λ (xs : List ℕ). xs ++ b) x ∙ append_assoc first a b)

pub namespace_told : (name : List ℕ) (i : Ids) (len : ℕ) (inner iri first whole : Option ℕ) → len ≡ length (iri_of i) → inner ≡ limited len → iri ≡ in_field 2 inner → first ≡ limited (length (unless_empty 1 name)) → whole ≡ joint first iri
    → whole ≡ limited (length (unless_empty 1 name ++ field_of 2 (Bytes (iri_of i))))
namespace_told name i len inner iri first whole is x y z w =
    w ∙ ap₂ joint z (y ∙ ap (in_field 2) (x ∙ ap limited is) ∙ field_bytes 2 (iri_of i)) ∙ joint_bytes (unless_empty 1 name) (field_of 2 (Bytes (iri_of i)))

pub empty_field : (number : ℕ) → front_of number 0 ≡ field_of number (Bytes [])
unfolding field_of
empty_field number = sym (append-nil (front_of number 0))
