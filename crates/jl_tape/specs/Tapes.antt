-- What a tape holds, and how it takes a row.
use Rattle.std.specs.Prelude.{◌≡◌, ℕ, ◌+◌, ◌≤◌, List, [], ◌∷◌, ◌++◌, map, slice_range, Option, Some, None, Result, Ok, Err}
use Rattle.jl_base.specs.Results.{Reading}
use Rattle.jl_base.specs.declared.place.Fault.{Fault}
use Rattle.jl_base.specs.declared.place.Place.{Place}
use Rattle.jl_base.specs.declared.kind.Kind.{Kind}
use Rattle.jl_rows.specs.declared.row.Row.{Row}
use Rattle.jl_rows.specs.Files.{Placed, row_end}
use Rattle.jl_rows.specs.Seen.{row_seen, HasRow, IsNextRow, IsRowWithin}
use Rattle.jl_tape.specs.declared.tape.PlacedRow.{PlacedRow}

abbrev pub placed_seen : List ℕ → PlacedRow → Placed
placed_seen bytes p = record { place = p.place; row = row_seen bytes p.row }

-- a tape's rows, and the fault that ends them
abbrev pub reading_of : List ℕ → List PlacedRow → Option Fault → Reading Placed Fault
reading_of bytes tape fault = record { items = map (placed_seen bytes) tape; fault = fault }

-- What the code knows of where their texts lie: inside the bytes.
abbrev pub HasRows : List ℕ → List PlacedRow → Type 0
HasRows bytes [] = Unit {0}
HasRows bytes (p ∷ tape) = HasRow bytes p.row × HasRows bytes tape

-- The next row of a frame, at a place of the file after the tape's others.
pub record TakesOne (bytes : List ℕ) (at end : ℕ) (place : Place) (old new : List PlacedRow) (next : ℕ) : Type 0 where
  pub row : Row
  pub taken : new ≡ old ++ record { place = place; row = row } ∷ []
  pub exact : IsNextRow bytes at end (Ok (Some (row, next)))
  pub within : IsRowWithin bytes at end (row, next)
  pub wide : at + 2 ≤ next
  pub next_is : next ≡ at + row_end (slice_range bytes at end)

-- What a reader of a frame answered, with its row on the tape.
abbrev pub TakesNext : List ℕ → ℕ → ℕ → Place → List PlacedRow → List PlacedRow → Result (Option ℕ) Kind → Type 0
TakesNext bytes at end place old new (Ok (Some next)) = TakesOne bytes at end place old new next
TakesNext bytes at end place old new (Ok None) = (new ≡ old) × IsNextRow bytes at end (Ok None)
TakesNext bytes at end place old new (Err k) = (new ≡ old) × IsNextRow bytes at end (Err k)
