-- What a sink was handed once items were added: the frames that are ended. The last frame isn't ended yet.
use Rattle.std.specs.Prelude.{◌≡◌, ℕ, ◌+◌, ◌==◌, List, [], ◌∷◌, ◌++◌, length, map, reverse, Some, None, Result, Ok, if◌then◌else◌}
use Rattle.jl_base.specs.Results.{◌>>=◌}
use Rattle.jl_base.specs.Terms.{Item}
use Rattle.jl_rows.specs.Written.{Row}
use Rattle.jl_rows.specs.History.{History}
use Rattle.jl_spell.specs.Frames.{body_of, frames_of}
use Rattle.jl_encoding.specs.declared.form.Form.{Form}
use Rattle.jl_encoding.specs.Slots.{Refusal}
use Rattle.jl_encoding.specs.Items.{item_rows, with_items}
use Rattle.jl_encoding.specs.Wide.{is_too_wide}
use Rattle.jl_encoding.specs.Encoding.{options_of, first_row, rows_of, is_ended, framed, file_of, wide}

-- the frames that are ended, behind rows under way with so many items, as further items' rows come
unfoldable pub ended : ℕ → ℕ → List Row → List (List Row) → List (List Row)
ended per count rows [] = []
ended per count rows (rs ∷ rss) = if is_ended per (count + 1) (rows ++ rs) then ((rows ++ rs) ∷ ended per 0 [] rss) else ended per (count + 1) (rows ++ rs) rss

-- a frame that isn't ended: how many items it has, and its rows
pub record UnderWay : Type 0 where
  pub count : ℕ
  pub rows : List Row

-- the frame that isn't ended then
unfoldable pub under_way : ℕ → ℕ → List Row → List (List Row) → UnderWay
under_way per count rows [] = record { count = count; rows = rows }
under_way per count rows (rs ∷ rss) = if is_ended per (count + 1) (rows ++ rs) then under_way per 0 [] rss else under_way per (count + 1) (rows ++ rs) rss

abbrev pub ended_of : Form → ℕ → List (List Row) → List (List Row)
ended_of form per rss = ended per 0 (first_row form ∷ []) rss

abbrev pub left_of : Form → ℕ → List (List Row) → UnderWay
left_of form per rss = under_way per 0 (first_row form ∷ []) rss

-- the bytes of the frames that are ended
abbrev pub handed_of : Form → ℕ → List (List Row) → List ℕ
handed_of form per rss = frames_of (map body_of (ended_of form per rss))

unfoldable pub handed : Form → ℕ → List Item → Result (List ℕ) Refusal
handed form per is = rows_of form is >>= λ rss. Ok (handed_of form per rss)

-- a frame without items isn't written
abbrev pub unless_empty : UnderWay → List (List Row)
unless_empty u = if u.count == 0 then [] else (u.rows ∷ [])

-- What is still to be written at the end: the frame under way. Where no item was added, that is the options row.
abbrev pub last_frame : Form → ℕ → List (List Row) → List (List Row)
last_frame form per [] = (first_row form ∷ []) ∷ []
last_frame form per (rs ∷ rss) = unless_empty (left_of form per (rs ∷ rss))

-- one more item's rows end a frame, or they don't
abbrev pub ended_by : ℕ → UnderWay → List Row → List (List Row)
ended_by per u rs = if is_ended per (u.count + 1) (u.rows ++ rs) then ((u.rows ++ rs) ∷ []) else []

abbrev pub behind : ℕ → UnderWay → List Row → UnderWay
behind per u rs = if is_ended per (u.count + 1) (u.rows ++ rs) then record { count = 0; rows = [] } else record { count = u.count + 1; rows = u.rows ++ rs }

-- With one item's rows more, one frame more is ended exactly where these rows end it.
abbrev pub RowsEndFrames : Type 0
RowsEndFrames = (per count : ℕ) (rows : List Row) (rss : List (List Row)) (rs : List Row) → ended per count rows (rss ++ rs ∷ []) ≡ ended per count rows rss ++ ended_by per (under_way per count rows rss) rs

abbrev pub RowsGoUnderWay : Type 0
RowsGoUnderWay = (per count : ℕ) (rows : List Row) (rss : List (List Row)) (rs : List Row) → under_way per count rows (rss ++ rs ∷ []) ≡ behind per (under_way per count rows rss) rs

-- so much more is handed on
abbrev pub MoreIsHanded : Type 0
MoreIsHanded = (form : Form) (per : ℕ) (rss : List (List Row)) (rs : List Row) → handed_of form per (rss ++ rs ∷ []) ≡ handed_of form per rss ++ frames_of (map body_of (ended_by per (left_of form per rss) rs))

-- The frames that are ended are a front of the file's, and the last one is the rest.
abbrev pub FramesAreHanded : Type 0
FramesAreHanded = (form : Form) (per : ℕ) (rss : List (List Row)) → framed form per rss ≡ ended_of form per rss ++ last_frame form per rss

abbrev pub FrontIsHanded : Type 0
FrontIsHanded = (form : Form) (per : ℕ) (rss : List (List Row)) → file_of form per rss ≡ handed_of form per rss ++ frames_of (map body_of (last_frame form per rss))

-- an item behind others
abbrev pub MoreRows : Type 0
MoreRows = (form : Form) (is : List Item) (i : Item) (rss : List (List Row)) (H : History) (rs : List Row) → rows_of form is ≡ Ok rss → with_items (options_of form) (first_row form ∷ []) is ≡ Ok H → item_rows (options_of form) H i ≡ Ok rs
    → rows_of form (is ++ i ∷ []) ≡ Ok (rss ++ reverse rs ∷ [])

abbrev pub MoreHistory : Type 0
MoreHistory = (form : Form) (is : List Item) (i : Item) (H : History) (rs : List Row) → with_items (options_of form) (first_row form ∷ []) is ≡ Ok H → item_rows (options_of form) H i ≡ Ok rs
    → with_items (options_of form) (first_row form ∷ []) (is ++ i ∷ []) ≡ Ok (rs ++ H)

abbrev pub MoreWidth : Type 0
MoreWidth = (form : Form) (is : List Item) (i : Item) (H : History) → wide form is ≡ None → with_items (options_of form) (first_row form ∷ []) is ≡ Ok H
    → wide form (is ++ i ∷ []) ≡ (if is_too_wide (options_of form) H i then Some (length is + 1) else None)

-- Items none of which is too wide have rows, and a history behind them.
abbrev pub NarrowHaveRows : Type 0
NarrowHaveRows = (form : Form) (is : List Item) → wide form is ≡ None → (rss : List (List Row)) × (H : History) × (rows_of form is ≡ Ok rss) × (with_items (options_of form) (first_row form ∷ []) is ≡ Ok H)
