-- A text that is put in a table.
use Rattle.std.proofs.Common.{◌≡◌, false, ℕ, ◌+◌, ◌^◌, ◌≤◌, List, [], ◌∷◌, ◌++◌, length, slice_set, nat_lt, if◌then◌else◌, Some, Ok, refl, sym}
use Rattle.jl_encoding.specs.Limits.{most_item_bytes}
use Rattle.std.proofs.lemmas.Bool.{le-ltb}
use Rattle.jl_rows.specs.declared.row.Table.{Table}
use Rattle.jl_rows.specs.Written.{Row}
use Rattle.jl_spell.specs.Frames.{body_of}
use Rattle.jl_encoding.specs.Slots.{unless_given}
use Rattle.jl_encode.specs.Desks.{Texts, next_place, entry_bytes, in_new}
use Rattle.jl_encode.specs.Putting.{PutsIn}

pub put_new_is : (item : ℕ) (t : Table) (x : List ℕ) (T : Texts) (k : ℕ) (out new : List ℕ) (held : List (List ℕ)) (marks : List ℕ)
    → Some k ≡ next_place item T → length x ≤ most_item_bytes → new ≡ out ++ entry_bytes t x k T
    → held ≡ (if nat_lt k (length T.held) then slice_set T.held k x else T.held ++ x ∷ []) → marks ≡ slice_set T.marks k item
    → PutsIn (in_new item t x T (next_place item T)) out new (record { size = T.size; held = held; marks = marks; last = k + 1 }) (Ok (k + 1))
put_new_is item t x T k out new held marks found short appended entered marked =
    let fits : nat_lt most_item_bytes (length x) ≡ false = le-ltb most_item_bytes (length x) short in
    rw (sym found, fits) (refl, appended, rw (entered, marked) refl)

-- the same, where the table before is known by what the code keeps of it
pub put_new_seen : (item : ℕ) (t : Table) (x : List ℕ) (T U : Texts) (k id : ℕ) (out new : List ℕ) (held : List (List ℕ)) (marks : List ℕ)
    → U ≡ T → Some k ≡ next_place item U → length x ≤ most_item_bytes → new ≡ out ++ body_of (Row.Entry t id x ∷ []) → id ≡ unless_given (U.last + 1) (k + 1)
    → held ≡ (if nat_lt k (length U.held) then slice_set U.held k x else U.held ++ x ∷ []) → marks ≡ slice_set U.marks k item
    → PutsIn (in_new item t x T (next_place item T)) out new (record { size = U.size; held = held; marks = marks; last = k + 1 }) (Ok (k + 1))
put_new_seen item t x T U k id out new held marks same found short appended given entered marked =
    rw (sym same) (put_new_is item t x U k out new held marks found short (rw (sym given) appended) entered marked)
