-- The plain steps of items do what the rows of items are by definition.
use Rattle.std.specs.Prelude.{◌≡◌, List, [], ◌∷◌, ◌++◌, reverse, Some, None, Ok}
use Rattle.jl_base.specs.Terms.{Item}
use Rattle.jl_rows.specs.Written.{StreamOptions, Row}
use Rattle.jl_rows.specs.History.{History}
use Rattle.jl_spell.specs.Frames.{body_of}
use Rattle.jl_encoding.specs.Items.{item_rows, ItemHasTags}
use Rattle.jl_encoding.specs.Wide.{is_too_wide}
use Rattle.jl_encode.specs.Desks.{Desk, for_next, new_desk}
use Rattle.jl_encode.specs.Putting.{Step, Lasts, put_item, lasts_behind, item_bytes, is_refused}
use Rattle.jl_encode.specs.Standing.{Agrees}

-- An item that was put has rows; they are spelled by its bytes, and behind them the desk is ready for the next item.
pub record GivesRows (o : StreamOptions) (H : History) (i : Item) (L : Lasts) (D : Desk) (s : Step Row) : Type 0 where
  pub rows : List Row
  pub are : item_rows o H i ≡ Ok rows
  pub number : s.desk.item ≡ D.item
  pub bytes : body_of (reverse rows) ≡ item_bytes s
  pub agrees : Agrees o (rows ++ H) (for_next s.desk) (lasts_behind i L)

abbrev pub StepsAreRows : Type 0
StepsAreRows = (o : StreamOptions) (H : History) (D : Desk) (L : Lasts) (i : Item) (s : Step Row) → Agrees o H D L → ItemHasTags i → put_item i L D ≡ Some s → GivesRows o H i L D s

-- An item is refused exactly where it is too wide.
abbrev pub RefusedAreTooWide : Type 0
RefusedAreTooWide = (o : StreamOptions) (H : History) (D : Desk) (L : Lasts) (i : Item) → Agrees o H D L → is_too_wide o H i ≡ is_refused (put_item i L D)

-- Before the first item there is the options row alone, and no term was the last one.
abbrev pub no_lasts : Lasts
no_lasts = record { subject = None; predicate = None; object = None; graph = None }

abbrev pub NewDeskAgrees : Type 0
NewDeskAgrees = (o p : StreamOptions) → Agrees o (Row.Options p ∷ []) (new_desk o.names o.prefixes o.datatypes) no_lasts
