-- How far an encoder has come, which items it stands for, and what its calls leave.
use Rattle.std.specs.Prelude.{◌≡◌, ℕ, ◌+◌, ◌^◌, ◌==◌, ◌&&◌, ◌||◌, Bool, true, false, not, nat_lt, List, [], ◌∷◌, ◌++◌, length, Option, Some, None, Result, Ok, Err, IsOk}
use Rattle.std.specs.List.{AllByRecursion}
use Rattle.jl_base.specs.Terms.{Item}
use Rattle.jl_base.specs.declared.failed.Failed.{Failed}
use Rattle.jl_base.specs.Sinks.{Held, Adds, AddsFront}
use Rattle.jl_rows.specs.Written.{Row}
use Rattle.jl_rows.specs.History.{History}
use Rattle.jl_spell.specs.Frames.{body_of, frame_of}
use Rattle.jl_encoding.specs.declared.form.Form.{Form}
use Rattle.jl_encoding.specs.Items.{Fits, with_items}
use Rattle.jl_encoding.specs.Proper.{IsProperItem}
use Rattle.jl_encoding.specs.Encoding.{options_of, first_row, rows_of, encoding, wide}
use Rattle.jl_encoding.specs.Handed.{left_of, handed}
use Rattle.jl_encode.specs.declared.stop.Stop.{Stop}
use Rattle.jl_encode.specs.declared.stop.Stop.TheVariants as stop
use Rattle.jl_encode.specs.Desks.{Desk}
use Rattle.jl_encode.specs.Putting.{Lasts, lasts_behind, put_item, is_refused}
use Rattle.jl_encode.specs.Standing.{Agrees}

-- The form and the number of items in a frame; the tables and last terms; the frame under way with its number of items; and
-- whether no more items are taken.
pub record Progress : Type 0 where
  pub form : Form
  pub per : ℕ
  pub desk : Desk
  pub lasts : Lasts
  pub body : List ℕ
  pub count : ℕ
  pub spent : Bool

-- an item put behind the others, with this desk and these bytes under way
abbrev pub with_item : Item → Desk → List ℕ → Progress → Progress
with_item i D body e = record { form = e.form; per = e.per; desk = D; lasts = lasts_behind i e.lasts; body = body; count = e.count; spent = e.spent }

-- a body with so many items ends its frame
abbrev pub is_full : ℕ → ℕ → List ℕ → Bool
is_full per count body = (count == per) || not (nat_lt (length body) (2 ^ 24))

abbrev pub ends_frame : Progress → Bool
ends_frame e = is_full e.per (e.count + 1) e.body

-- one item more is counted; behind an ended frame the next one has none
abbrev pub counted : Bool → Progress → Progress
counted true e = record { form = e.form; per = e.per; desk = e.desk; lasts = e.lasts; body = []; count = 0; spent = e.spent }
counted false e = record { form = e.form; per = e.per; desk = e.desk; lasts = e.lasts; body = e.body; count = e.count + 1; spent = e.spent }

abbrev pub with_spent : Bool → Progress → Progress
with_spent b e = record { form = e.form; per = e.per; desk = e.desk; lasts = e.lasts; body = e.body; count = e.count; spent = b }

-- the frame is given to the sink where it is ended
abbrev pub HandsFrame : Bool → Progress → Option Held → Option Held → Result (Unit {0}) Failed → Type 0
HandsFrame true e held held' result = AddsFront held held' (frame_of e.body) result
HandsFrame false e held held' result = (held' ≡ held) × IsOk result

-- the number of the item that comes next, from 1
abbrev pub next_number : Progress → ℕ
next_number e = e.desk.item

-- An encoder stands for items that are proper and fit its form, none of them too wide: its tables and last terms are those
-- that their rows leave, and its frame has those of their rows that no ended frame has.
pub record Stands (e : Progress) (is : List Item) : Type 0 where
  pub alive : e.spent ≡ false
  pub fit : AllByRecursion (Fits (options_of e.form)) is
  pub proper : AllByRecursion IsProperItem is
  pub narrow : wide e.form is ≡ None
  pub history : History
  pub behind : with_items (options_of e.form) (first_row e.form ∷ []) is ≡ Ok history
  pub agrees : Agrees (options_of e.form) history e.desk e.lasts
  pub number : e.desk.item ≡ length is + 1
  pub rows : List (List Row)
  pub are : rows_of e.form is ≡ Ok rows
  pub body : e.body ≡ body_of (left_of e.form e.per rows).rows
  pub count : e.count ≡ (left_of e.form e.per rows).count

-- An item can't be added to these: it is too wide, and the number tells which one it is.
abbrev pub IsTooWide : Progress → List Item → Item → ℕ → Type 0
IsTooWide e is i n = (wide e.form (is ++ i ∷ []) ≡ Some n) × (n ≡ length is + 1)

-- Why an item was refused, proper or not: its number is the next one, and a table has no slot for a text of it, or its
-- rows take too many bytes. Behind items that the encoder stands for it is too wide.
pub record IsRefused (e : Progress) (i : Item) (n : ℕ) : Type 0 where
  pub number : n ≡ next_number e
  pub cause : is_refused (put_item i e.lasts e.desk) ≡ true
  pub wide : (is : List Item) → Stands e is → IsTooWide e is i n

abbrev pub IfTooWide : Progress → Item → Result (Unit {0}) Stop → Type 0
IfTooWide e i (Err (stop.TooWide n)) = IsRefused e i n
IfTooWide e i _ = Unit {0}

-- The bytes by which what was handed grows with an item.
pub record Grows (e : Progress) (is : List Item) (i : Item) (bytes : List ℕ) : Type 0 where
  pub before : List ℕ
  pub was : handed e.form e.per is ≡ Ok before
  pub becomes : handed e.form e.per (is ++ i ∷ []) ≡ Ok (before ++ bytes)

-- The bytes of the file that weren't handed yet.
pub record Lacks (e : Progress) (is : List Item) (bytes : List ℕ) : Type 0 where
  pub before : List ℕ
  pub was : handed e.form e.per is ≡ Ok before
  pub whole : encoding e.form e.per is ≡ Ok (before ++ bytes)

-- a front of the bytes was given
pub record GivesFront (bytes : List ℕ) (held held' : Option Held) : Type 0 where
  pub given : List ℕ
  pub rest : List ℕ
  pub split : bytes ≡ given ++ rest
  pub adds : Adds held held' given

-- What adding an item to these leaves. Where it isn't added, the sink was given nothing, but at a fault of its own.
abbrev pub AddsItem : Progress → Progress → List Item → Item → Option Held → Option Held → Result (Unit {0}) Stop → Type 0
AddsItem e e' is i held held' (Ok _) = Stands e' (is ++ i ∷ []) × ((bytes : List ℕ) × Grows e is i bytes × Adds held held' bytes)
AddsItem e e' is i held held' (Err stop.WriteFault) = (wide e.form (is ++ i ∷ []) ≡ None) × ((bytes : List ℕ) × Grows e is i bytes × GivesFront bytes held held')
AddsItem e e' is i held held' (Err (stop.TooWide n)) = IsTooWide e is i n × (held' ≡ held)
AddsItem e e' is i held held' (Err stop.Spent) = ⊥
AddsItem e e' is i held held' (Err stop.NoMemory) = held' ≡ held

-- no frame is left to be written: the one under way has no item, and some item was added
abbrev pub is_done : Progress → Bool
is_done e = (e.count == 0) && nat_lt 1 e.desk.item

-- What finishing behind these leaves.
abbrev pub Finishes : Progress → List Item → Option Held → Option Held → Result (Unit {0}) Stop → Type 0
Finishes e is held held' (Ok _) = (bytes : List ℕ) × Lacks e is bytes × Adds held held' bytes
Finishes e is held held' (Err stop.WriteFault) = (bytes : List ℕ) × Lacks e is bytes × GivesFront bytes held held'
Finishes e is held held' (Err _) = ⊥
