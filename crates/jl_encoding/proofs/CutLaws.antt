-- Frames: they have all rows in their order, none is too long, and they are read back at their places.
use Rattle.std.proofs.Common.{◌≡◌, ℕ, ◌+◌, ◌<◌, ◌≤◌, ◌^◌, Bool, true, false, not, List, [], ◌∷◌, ◌++◌, length, map, None, nat_lt, nat_eq, if◌then◌else◌, refl, ap, ◌∙◌, arith, append_assoc, length-append}
use Rattle.jl_encoding.specs.Limits.{most_item_bytes}
use Rattle.std.specs.List.{AllByRecursion}
use Rattle.std.proofs.lemmas.Bool.{or_parts, not-false, ltb-true, ne_eqb}
use Rattle.std.proofs.lemmas.List.{map-append}
use Rattle.std.proofs.lemmas.List.Concat.{flat_map-append}
use Rattle.jl_base.specs.Results.{Reading, joined, with_front}
use Rattle.jl_base.specs.declared.place.Fault.{Fault}
use Rattle.jl_rows.specs.Written.{Row}
use Rattle.jl_rows.specs.Files.{Placed, most_body, place_at, placed, frame_rows, rows_from}
use Rattle.jl_spell.specs.Fields.{Bytes, field_of}
use Rattle.jl_spell.specs.Rows.{IsRow, row_of}
use Rattle.jl_spell.specs.Frames.{body_of}
use Rattle.jl_spell.proofs.RowLaws.{body_back}
use Rattle.jl_encoding.specs.declared.form.Form.{Form}
use Rattle.jl_encoding.specs.Encoding.{first_row, is_ended, cut, framed}
use Rattle.jl_encoding.proofs.FileLaws.{all_of, row_of_place}

abbrev pub AreRows : List Row → Type 0
AreRows rs = AllByRecursion IsRow rs

pub rows_append : (rs qs : List Row) → AreRows rs → AreRows qs → AreRows (rs ++ qs)
rows_append [] qs a b = b
rows_append (r ∷ rs) qs a b = (a.0, rows_append rs qs a.1 b)

-- all rows, in their order
cut_all : (per count : ℕ) (under_way : List Row) (rss : List (List Row)) → (nat_eq count 0 ≡ true → under_way ≡ []) → all_of (cut per count under_way rss) ≡ under_way ++ all_of rss
unfolding cut
cut_all per count under_way [] none = by_count (nat_eq count 0) none
  where
    by_count : (b : Bool) → (b ≡ true → under_way ≡ []) → all_of (if b then [] else (under_way ∷ [])) ≡ under_way ++ []
    by_count true none = let empty : under_way ≡ [] = none refl in rw empty refl
    by_count false none = refl
cut_all per count under_way (rs ∷ rss) none = by_end (is_ended per (count + 1) (under_way ++ rs)) (cut_all per 0 [] rss (λ _. refl)) (cut_all per (count + 1) (under_way ++ rs) rss (λ zero. absurd (some zero)))
  where
    some : nat_eq (count + 1) 0 ≡ true → ⊥
    some zero = let no : nat_eq (count + 1) 0 ≡ false = ne_eqb (count + 1) 0 (λ e. omega (arith, e)) in cc

    by_end : (b : Bool) → all_of (cut per 0 [] rss) ≡ all_of rss → all_of (cut per (count + 1) (under_way ++ rs) rss) ≡ (under_way ++ rs) ++ all_of rss
        → all_of (if b then ((under_way ++ rs) ∷ cut per 0 [] rss) else cut per (count + 1) (under_way ++ rs) rss) ≡ under_way ++ (rs ++ all_of rss)
    by_end true ended on = ap (λ (qs : List Row). (under_way ++ rs) ++ qs) ended ∙ append_assoc under_way rs (all_of rss)
    by_end false ended on = on ∙ append_assoc under_way rs (all_of rss)

-- behind a first row, which the first item's rows follow
first_cut : (per : ℕ) (under_way rs : List Row) (rss : List (List Row)) → all_of (cut per 0 under_way (rs ∷ rss)) ≡ under_way ++ all_of (rs ∷ rss)
unfolding cut
first_cut per under_way rs rss = by_end (is_ended per 1 (under_way ++ rs)) (cut_all per 0 [] rss (λ _. refl)) (cut_all per 1 (under_way ++ rs) rss (λ zero. absurd (cc)))
  where
    by_end : (b : Bool) → all_of (cut per 0 [] rss) ≡ all_of rss → all_of (cut per 1 (under_way ++ rs) rss) ≡ (under_way ++ rs) ++ all_of rss
        → all_of (if b then ((under_way ++ rs) ∷ cut per 0 [] rss) else cut per 1 (under_way ++ rs) rss) ≡ under_way ++ (rs ++ all_of rss)
    by_end true ended on = ap (λ (qs : List Row). (under_way ++ rs) ++ qs) ended ∙ append_assoc under_way rs (all_of rss)
    by_end false ended on = on ∙ append_assoc under_way rs (all_of rss)

pub framed_all : (form : Form) (per : ℕ) (rss : List (List Row)) → all_of (framed form per rss) ≡ first_row form ∷ all_of rss
framed_all form per [] = refl
framed_all form per (rs ∷ rss) = first_cut per (first_row form ∷ []) rs rss

-- a frame that can be read back
pub record IsFrame (rs : List Row) : Type 0 where
  pub rows : AreRows rs
  pub short : length (body_of rs) < most_body

-- an item's rows take no more than 2^26 bytes in their frame
abbrev pub IsNarrow : List Row → Type 0
IsNarrow rs = length (body_of rs) ≤ most_item_bytes

-- rows of items that are narrow
pub record IsGood (rs : List Row) : Type 0 where
  pub rows : AreRows rs
  pub narrow : IsNarrow rs

grown : (under_way rs : List Row) → AreRows under_way → length (body_of under_way) < 2 ^ 24 → IsGood rs → IsFrame (under_way ++ rs)
grown under_way rs are small good =
    let sum : length (body_of (under_way ++ rs)) ≡ length (body_of under_way) + length (body_of rs) =
    ap length (flat_map-append (λ (r : Row). field_of 1 (Bytes (row_of r))) under_way rs) ∙ length-append (body_of under_way) (body_of rs) in
    let narrow : length (body_of rs) ≤ most_item_bytes = good.narrow in
    record { rows = rows_append under_way rs are good.rows; short = omega (arith, sum, narrow, small) }

cut_frames : (per count : ℕ) (under_way : List Row) (rss : List (List Row)) → AreRows under_way → length (body_of under_way) < 2 ^ 24 → AllByRecursion IsGood rss → AllByRecursion IsFrame (cut per count under_way rss)
unfolding cut
cut_frames per count under_way [] are small good = by_count (nat_eq count 0)
  where
    by_count : (b : Bool) → AllByRecursion IsFrame (if b then [] else (under_way ∷ []))
    by_count true = tt
    by_count false = (record { rows = are; short = omega (arith, small) }, tt)
cut_frames per count under_way (rs ∷ rss) are small good =
    by_end (is_ended per (count + 1) (under_way ++ rs)) refl (grown under_way rs are small good.0) (cut_frames per 0 [] rss tt (omega arith) good.1) (λ below. cut_frames per (count + 1) (under_way ++ rs) rss (rows_append under_way rs are good.0.rows) below good.1)
  where
    by_end : (b : Bool) → is_ended per (count + 1) (under_way ++ rs) ≡ b → IsFrame (under_way ++ rs) → AllByRecursion IsFrame (cut per 0 [] rss) → (length (body_of (under_way ++ rs)) < 2 ^ 24 → AllByRecursion IsFrame (cut per (count + 1) (under_way ++ rs) rss))
        → AllByRecursion IsFrame (if b then ((under_way ++ rs) ∷ cut per 0 [] rss) else cut per (count + 1) (under_way ++ rs) rss)
    by_end true e frame ended on = (frame, ended)
    by_end false e frame ended on =
        let open_yet : nat_lt (length (body_of (under_way ++ rs))) (2 ^ 24) ≡ true = not-false (nat_lt (length (body_of (under_way ++ rs))) (2 ^ 24)) (or_parts _ (not (nat_lt (length (body_of (under_way ++ rs))) (2 ^ 24))) e).1 in
        on (ltb-true (length (body_of (under_way ++ rs))) (2 ^ 24) open_yet)

pub framed_frames : (form : Form) (per : ℕ) (rss : List (List Row)) → IsRow (first_row form) → length (body_of (first_row form ∷ [])) < 2 ^ 24 → AllByRecursion IsGood rss → AllByRecursion IsFrame (framed form per rss)
framed_frames form per [] is small good = (record { rows = (is, tt); short = omega (arith, small) }, tt)
framed_frames form per (rs ∷ rss) is small good = cut_frames per 0 (first_row form ∷ []) (rs ∷ rss) (is, tt) small good

-- rows at their places
pub record Places (made : Reading Placed Fault) (rs : List Row) : Type 0 where
  pub items : List Placed
  pub are : made ≡ record { items = items; fault = None }
  pub rows : map row_of_place items ≡ rs

placed_places : (frame before : ℕ) (rs : List Row) → Places (placed frame before rs None) rs
unfolding placed
placed_places frame before [] = record { items = []; are = refl; rows = refl }
placed_places frame before (r ∷ rs) =
    let rest = placed_places frame (before + 1) rs in
    let p : Placed = record { place = place_at frame (before + 1); row = r } in
    record { items = p ∷ rest.items; are = ap (with_front p) rest.are; rows = ap (λ (qs : List Row). r ∷ qs) rest.rows }

in_frame : (frame : ℕ) (rs : List Row) → IsFrame rs → Places (frame_rows frame (body_of rs)) rs
in_frame frame rs is =
    let made = placed_places frame 0 rs in
    record { items = made.items; are = ap (λ (R : Reading Row _). placed frame 0 R.items R.fault) (body_back rs is.rows (let short = is.short in omega (arith, short))) ∙ made.are; rows = made.rows }

pub frames_places : (frame : ℕ) (rss : List (List Row)) → AllByRecursion IsFrame rss → Places (rows_from frame (map body_of rss) None) (all_of rss)
unfolding rows_from
frames_places frame [] all = record { items = []; are = refl; rows = refl }
frames_places frame (rs ∷ rss) all =
    let one = in_frame frame rs all.0 in
    let rest = frames_places (frame + 1) rss all.1 in
    let front = one.are in
    let back = rest.are in
    record {
      items = one.items ++ rest.items;
      are = both (frame_rows frame (body_of rs)) (rows_from (frame + 1) (map body_of rss) None) one.items rest.items front back;
      rows = map-append row_of_place one.items rest.items ∙ ap (λ (qs : List Row). qs ++ map row_of_place rest.items) one.rows ∙ ap (λ (qs : List Row). rs ++ qs) rest.rows;
    }
  where
    both : (a b : Reading Placed Fault) (xs ys : List Placed) → a ≡ record { items = xs; fault = None } → b ≡ record { items = ys; fault = None } → joined a b ≡ record { items = xs ++ ys; fault = None }
    both a b xs ys front back = rw (front, back) refl
