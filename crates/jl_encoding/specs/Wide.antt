-- Items that are too wide: their terms ask a table for more different texts than it has slots, or their rows take too
-- many bytes.
use Rattle.std.specs.Prelude.{ℕ, ◌+◌, ◌^◌, Bool, false, ◌||◌, List, [], ◌∷◌, ◌++◌, length, reverse, Option, Some, None, Result, Ok, Err, nat_lt, if◌then◌else◌}
use Rattle.jl_encoding.specs.Limits.{most_item_bytes}
use Rattle.std.specs.Str.{bytes_eq}
use Rattle.jl_base.specs.Terms.{Tail, Value, Item}
use Rattle.jl_rows.specs.declared.row.Table.{Table}
use Rattle.jl_rows.specs.Written.{StreamOptions, Row}
use Rattle.jl_rows.specs.History.{History}
use Rattle.jl_rows.specs.Values.{Position, last_term}
use Rattle.jl_rows.specs.Decoder.{size_of}
use Rattle.jl_spell.specs.Frames.{body_of}
use Rattle.jl_encoding.specs.Sameness.{is_value}
use Rattle.jl_encoding.specs.Splits.{prefix_of, name_of}
use Rattle.jl_encoding.specs.Slots.{Refusal}
use Rattle.jl_encoding.specs.Items.{item_rows}

-- a text is among others
abbrev pub has : List ℕ → List (List ℕ) → Bool
has x [] = false
has x (y ∷ ys) = bytes_eq x y || has x ys

-- how many different texts there are
abbrev pub different : List (List ℕ) → ℕ
different [] = 0
different (x ∷ xs) = if has x xs then different xs else different xs + 1

-- The texts that are asked of a table, the newest first: those asked before a term, and then the term's own. The empty
-- prefix is asked as well, even where it gets no entry.
abbrev pub asked_by_iri : Table → List ℕ → List (List ℕ) → List (List ℕ)
asked_by_iri Table.Prefix text xs = prefix_of text ∷ xs
asked_by_iri Table.Name text xs = name_of text ∷ xs
asked_by_iri Table.Datatype text xs = xs

abbrev pub asked_by_tail : Table → Tail → List (List ℕ) → List (List ℕ)
asked_by_tail Table.Datatype (Tail.Typed iri) xs = iri ∷ xs
asked_by_tail t tail xs = xs

abbrev pub asked_by : Table → Value → List (List ℕ) → List (List ℕ)
asked_by t (Value.Iri text) xs = asked_by_iri t text xs
asked_by t (Value.Bnode label) xs = xs
asked_by t (Value.Literal lex tail) xs = asked_by_tail t tail xs
asked_by t (Value.Nested s p o) xs = asked_by t o (asked_by t p (asked_by t s xs))
asked_by t Value.Default xs = xs

-- a term that is unset asks nothing
abbrev pub asked_at : Table → Position → Value → History → List (List ℕ) → List (List ℕ)
asked_at t x v H xs = if is_value v (last_term x H) then xs else asked_by t v xs

abbrev pub asked_by_item : Table → Item → History → List (List ℕ)
asked_by_item t (Item.Triple s p o) H = asked_at t Position.Object o H (asked_at t Position.Predicate p H (asked_at t Position.Subject s H []))
asked_by_item t (Item.Quad s p o g) H = asked_at t Position.Graph g H (asked_at t Position.Object o H (asked_at t Position.Predicate p H (asked_at t Position.Subject s H [])))
asked_by_item t (Item.Namespace name iri) H = asked_by_iri t iri []

-- a table is asked for more different texts than it has slots
abbrev pub is_crowded : StreamOptions → History → Item → Table → Bool
is_crowded o H i t = nat_lt (size_of o t) (different (asked_by_item t i H))

-- rows take more than 2^26 bytes in their frame
abbrev pub is_long : Result (List Row) Refusal → Bool
is_long (Ok rs) = nat_lt most_item_bytes (length (body_of (reverse rs)))
is_long (Err e) = false

abbrev pub is_too_wide : StreamOptions → History → Item → Bool
is_too_wide o H i = is_crowded o H i Table.Name || (is_crowded o H i Table.Prefix || (is_crowded o H i Table.Datatype || is_long (item_rows o H i)))

abbrev pub where_answered : {A B E : Type 0} → Result A E → (A → Option B) → Option B
where_answered (Ok x) f = f x
where_answered (Err e) f = None

-- the number of the first item that is too wide, behind a history and counted on
unfoldable pub wide_from : StreamOptions → History → ℕ → List Item → Option ℕ
wide_from o H n [] = None
wide_from o H n (i ∷ is) = if is_too_wide o H i then Some n else where_answered (item_rows o H i) (λ rs. wide_from o (rs ++ H) (n + 1) is)
