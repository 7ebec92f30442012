-- What the code keeps of the lookup tables and ids, as plain values, and what a text does to it. No history stands here: what
-- these values are to the rows written before is said in Standing.
use Rattle.std.specs.Prelude.{ℕ, ◌+◌, ◌-◌, ◌^◌, Bool, false, ◌==◌, ◌&&◌, not, List, [], ◌∷◌, ◌++◌, length, find, replicate, slice_get, slice_set, Option, Some, None, is_none, nat_lt, if◌then◌else◌}
use Rattle.jl_encoding.specs.Limits.{most_item_bytes}
use Rattle.std.specs.Str.{bytes_eq}
use Rattle.jl_rows.specs.declared.row.Table.{Table}
use Rattle.jl_rows.specs.Written.{Row}
use Rattle.jl_spell.specs.Frames.{body_of}
use Rattle.jl_encoding.specs.Slots.{numbers_from, unless_given}

-- A lookup table: the texts of its slots, from slot 1 on; for each slot the number of the last item that used it, 0 where
-- none did; and the slot of its last entry, 0 before the first.
pub record Texts : Type 0 where
  pub size : ℕ
  pub held : List (List ℕ)
  pub marks : List ℕ
  pub last : ℕ

-- before any entry
abbrev pub new_texts : ℕ → Texts
new_texts size = record { size = size; held = []; marks = replicate size 0; last = 0 }

-- where a text stands among others, counted from a number on
abbrev pub place_from : ℕ → List ℕ → List (List ℕ) → Option ℕ
place_from n x [] = None
place_from n x (y ∷ ys) = if bytes_eq x y then Some n else place_from (n + 1) x ys

-- where a text stands in a table, from 0
abbrev pub place : List ℕ → Texts → Option ℕ
place x T = place_from 0 x T.held

abbrev pub is_mark : ℕ → Option ℕ → Bool
is_mark item None = false
is_mark item (Some m) = m == item

-- the item uses the slot that stands at a place
abbrev pub is_used : ℕ → ℕ → Texts → Bool
is_used item k T = is_mark item (slice_get T.marks k)

abbrev pub used : ℕ → ℕ → Texts → Texts
used item k T = record { size = T.size; held = T.held; marks = slice_set T.marks k item; last = T.last }

-- the next place in turn that the item doesn't use: from behind the last entry's on, and then from the first
abbrev pub next_place : ℕ → Texts → Option ℕ
next_place item T = find (λ k. not (is_used item k T)) (numbers_from T.last (T.size - T.last) ++ numbers_from 0 T.size)

-- with a text as the entry at a place
abbrev pub entered : List ℕ → ℕ → Texts → Texts
entered x k T = record { size = T.size; held = if nat_lt k (length T.held) then slice_set T.held k x else T.held ++ x ∷ []; marks = T.marks; last = k + 1 }

-- A text in a table: its id, the bytes of its entry where it is new, and the table behind it.
pub record InTable : Type 0 where
  pub id : ℕ
  pub bytes : List ℕ
  pub texts : Texts

abbrev pub entry_bytes : Table → List ℕ → ℕ → Texts → List ℕ
entry_bytes t x k T = body_of (Row.Entry t (unless_given (T.last + 1) (k + 1)) x ∷ [])

-- None where the item uses all slots already, or the text alone has more bytes than an item may have.
abbrev pub in_new : ℕ → Table → List ℕ → Texts → Option ℕ → Option InTable
in_new item t x T None = None
in_new item t x T (Some k) = if nat_lt most_item_bytes (length x) then None else Some (record { id = k + 1; bytes = entry_bytes t x k T; texts = used item k (entered x k T) })

abbrev pub in_place : ℕ → Table → List ℕ → Texts → Option ℕ → Option InTable
in_place item t x T (Some k) = Some (record { id = k + 1; bytes = []; texts = used item k T })
in_place item t x T None = in_new item t x T (next_place item T)

abbrev pub in_table : ℕ → Table → List ℕ → Texts → Option InTable
in_table item t x T = in_place item t x T (place x T)

-- The tables, the ids of the last IRI, and the number of the item that is being written, from 1. Hidden: this item asked for
-- the empty prefix, and uses no slot for it.
pub record Desk : Type 0 where
  pub names : Texts
  pub prefixes : Texts
  pub datatypes : Texts
  pub prefix : ℕ
  pub name : ℕ
  pub item : ℕ
  pub hidden : Bool

-- the desk of a first item, with tables of these sizes
abbrev pub new_desk : ℕ → ℕ → ℕ → Desk
new_desk names prefixes datatypes = record { names = new_texts names; prefixes = new_texts prefixes; datatypes = new_texts datatypes; prefix = 0; name = 0; item = 1; hidden = false }

abbrev pub texts_of : Table → Desk → Texts
texts_of Table.Name D = D.names
texts_of Table.Prefix D = D.prefixes
texts_of Table.Datatype D = D.datatypes

abbrev pub with_texts : Table → Texts → Desk → Desk
with_texts Table.Name T D = record { names = T; prefixes = D.prefixes; datatypes = D.datatypes; prefix = D.prefix; name = D.name; item = D.item; hidden = D.hidden }
with_texts Table.Prefix T D = record { names = D.names; prefixes = T; datatypes = D.datatypes; prefix = D.prefix; name = D.name; item = D.item; hidden = D.hidden }
with_texts Table.Datatype T D = record { names = D.names; prefixes = D.prefixes; datatypes = T; prefix = D.prefix; name = D.name; item = D.item; hidden = D.hidden }

abbrev pub with_ids : ℕ → ℕ → Desk → Desk
with_ids p n D = record { names = D.names; prefixes = D.prefixes; datatypes = D.datatypes; prefix = p; name = n; item = D.item; hidden = D.hidden }

abbrev pub with_hidden : Bool → Desk → Desk
with_hidden b D = record { names = D.names; prefixes = D.prefixes; datatypes = D.datatypes; prefix = D.prefix; name = D.name; item = D.item; hidden = b }

-- behind an item: the next one uses no slot yet
abbrev pub for_next : Desk → Desk
for_next D = record { names = D.names; prefixes = D.prefixes; datatypes = D.datatypes; prefix = D.prefix; name = D.name; item = D.item + 1; hidden = false }

-- The item uses all slots for prefixes, and asked for the empty prefix besides.
abbrev pub is_overfull : Desk → Bool
is_overfull D = D.hidden && is_none (next_place D.item D.prefixes)
