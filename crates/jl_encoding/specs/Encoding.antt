-- A file of items: its options row, the rows of each item, and how they stand in frames.
use Rattle.std.specs.Prelude.{◌≡◌, ℕ, ◌+◌, ◌^◌, ◌<◌, ◌==◌, ◌||◌, Bool, true, false, List, [], ◌∷◌, ◌++◌, length, map, reverse, Option, None, Result, Ok, not, nat_lt, if◌then◌else◌}
use Rattle.jl_encoding.specs.Limits.{most_names, most_prefixes, most_datatypes}
use Rattle.std.specs.List.{AllByRecursion}
use Rattle.jl_base.specs.Results.{◌>>=◌}
use Rattle.jl_base.specs.Terms.{Item}
use Rattle.jl_rows.specs.Written.{StreamOptions, Row}
use Rattle.jl_rows.specs.Files.{most_body}
use Rattle.jl_rows.specs.History.{History}
use Rattle.jl_rows.specs.Decoder.{decode}
use Rattle.jl_spell.specs.Frames.{body_of, frames_of}
use Rattle.jl_encoding.specs.declared.form.Form.{Form}
use Rattle.jl_encoding.specs.Slots.{Refusal}
use Rattle.jl_encoding.specs.Items.{item_rows, Fits}
use Rattle.jl_encoding.specs.Proper.{IsProperItem}
use Rattle.jl_encoding.specs.Wide.{wide_from}

-- the physical type: TRIPLES or QUADS
abbrev pub physical_of : Form → ℕ
physical_of Form.Triples = 1
physical_of Form.Quads = 2

-- both flags, tables of 4000, 150 and 32 entries, no logical type, version 2 and no stream name
abbrev pub options_of : Form → StreamOptions
options_of form = record { stream_name = []; physical = physical_of form; generalized = true; star = true; names = most_names; prefixes = most_prefixes; datatypes = most_datatypes; logical = 0; version = 2; strict = false }

abbrev pub first_row : Form → Row
first_row form = Row.Options (options_of form)

-- the rows of each item behind a history, in the order of the file
unfoldable pub each_item : StreamOptions → History → List Item → Result (List (List Row)) Refusal
each_item o H [] = Ok []
each_item o H (i ∷ is) = do
  rs ← item_rows o H i
  rest ← each_item o (rs ++ H) is
  Ok (reverse rs ∷ rest)

abbrev pub rows_of : Form → List Item → Result (List (List Row)) Refusal
rows_of form is = each_item (options_of form) (first_row form ∷ []) is

-- A frame is ended once it has so many items, or a body of 2^24 bytes or more. The last one has at least one item.
abbrev pub is_ended : ℕ → ℕ → List Row → Bool
is_ended per count under_way = (count == per) || not (nat_lt (length (body_of under_way)) (2 ^ 24))

unfoldable pub cut : ℕ → ℕ → List Row → List (List Row) → List (List Row)
cut per count under_way [] = if count == 0 then [] else (under_way ∷ [])
cut per count under_way (rs ∷ rss) = if is_ended per (count + 1) (under_way ++ rs) then ((under_way ++ rs) ∷ cut per 0 [] rss) else cut per (count + 1) (under_way ++ rs) rss

-- the rows of each frame; without items there is one frame, with the options row alone
abbrev pub framed : Form → ℕ → List (List Row) → List (List Row)
framed form per [] = (first_row form ∷ []) ∷ []
framed form per (rs ∷ rss) = cut per 0 (first_row form ∷ []) (rs ∷ rss)

abbrev pub file_of : Form → ℕ → List (List Row) → List ℕ
file_of form per rss = frames_of (map body_of (framed form per rss))

-- the file of items, so many in each frame
unfoldable pub encoding : Form → ℕ → List Item → Result (List ℕ) Refusal
encoding form per is = rows_of form is >>= λ rss. Ok (file_of form per rss)

-- the number of the first item that is too wide, from 1
abbrev pub wide : Form → List Item → Option ℕ
wide form is = wide_from (options_of form) (first_row form ∷ []) 1 is

-- Proper items that fit the form, none of them too wide, have a file. It states these items and has no fault, under the
-- strict profile or not.
abbrev pub EncodingsDecode : Type 0
EncodingsDecode = (form : Form) (per : ℕ) (is : List Item) → AllByRecursion (Fits (options_of form)) is → AllByRecursion IsProperItem is → wide form is ≡ None
    → (file : List ℕ) × (encoding form per is ≡ Ok file) × ((strict : Bool) → decode strict file ≡ record { items = is; fault = None })

-- Each frame of such a file is shorter than a frame may be.
abbrev pub FramesAreShort : Type 0
FramesAreShort = (form : Form) (per : ℕ) (is : List Item) (rss : List (List Row)) → AllByRecursion IsProperItem is → wide form is ≡ None → rows_of form is ≡ Ok rss → AllByRecursion (λ (rs : List Row). length (body_of rs) < most_body) (framed form per rss)
