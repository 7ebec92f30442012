-- Which items are too wide, by the state behind their terms.
use Rattle.std.proofs.Common.{◌≡◌, ◌^◌, ◌&&◌, ◌||◌, Bool, true, false, not, List, ◌++◌, length, reverse, find, is_none, nat_lt, Result, Ok, Err, refl}
use Rattle.jl_encoding.specs.Limits.{most_item_bytes}
use Rattle.std.proofs.lemmas.Bool.{ltb-false, or_parts, true_from_ne_false}
use Rattle.jl_base.specs.Terms.{Item}
use Rattle.jl_rows.specs.declared.row.Table.{Table}
use Rattle.jl_rows.specs.Written.{StreamOptions, Row}
use Rattle.jl_rows.specs.History.{History, entry_id}
use Rattle.jl_rows.specs.Decoder.{size_of}
use Rattle.jl_spell.specs.Frames.{body_of}
use Rattle.jl_encoding.specs.Slots.{Refusal, State, in_turn, is_claimed}
use Rattle.jl_encoding.specs.Items.{item_rows}
use Rattle.jl_encoding.specs.Wide.{different, asked_by_item, is_crowded, is_long, is_too_wide}
use Rattle.jl_encoding.proofs.FitLaws.{FitsTables, item_fits}
use Rattle.jl_encoding.proofs.ExactSteps.{Exacts, crowds}

module _ (o : StreamOptions) (H : History) (i : Item) where
  -- no table is crowded
  pub tables_fit : is_crowded o H i Table.Name ≡ false → is_crowded o H i Table.Prefix ≡ false → is_crowded o H i Table.Datatype ≡ false → FitsTables o H i
  tables_fit names prefixes datatypes Table.Name = ltb-false (size_of o Table.Name) (different (asked_by_item Table.Name i H)) names
  tables_fit names prefixes datatypes Table.Prefix = ltb-false (size_of o Table.Prefix) (different (asked_by_item Table.Prefix i H)) prefixes
  tables_fit names prefixes datatypes Table.Datatype = ltb-false (size_of o Table.Datatype) (different (asked_by_item Table.Datatype i H)) datatypes

  -- an item without rows is too wide
  pub refused_is_wide : (e : Refusal) → item_rows o H i ≡ Err e → is_too_wide o H i ≡ true
  refused_is_wide e none = true_from_ne_false (is_too_wide o H i) (λ narrow.
      let a = or_parts (is_crowded o H i Table.Name) (is_crowded o H i Table.Prefix || (is_crowded o H i Table.Datatype || is_long (item_rows o H i))) narrow in
      let b = or_parts (is_crowded o H i Table.Prefix) (is_crowded o H i Table.Datatype || is_long (item_rows o H i)) a.1 in
      let c = or_parts (is_crowded o H i Table.Datatype) (is_long (item_rows o H i)) b.1 in
      let found = item_fits o H i (tables_fit a.0 b.0 c.0) in
      let are = found.are in
      absurd (cc))

  -- One with rows is too wide where these take too many bytes, or where it uses all slots for prefixes and the empty prefix is
  -- hidden.
  pub width_is : (rs : List Row) (st : State) (hidden : Bool) → item_rows o H i ≡ Ok rs → Exacts o H st hidden (λ u. asked_by_item u i H)
      → is_too_wide o H i ≡ ((hidden && is_none (find (λ n. not (is_claimed Table.Prefix n st.claims)) (in_turn (size_of o Table.Prefix) (entry_id Table.Prefix (st.entries ++ H))))) || nat_lt most_item_bytes (length (body_of (reverse rs))))
  width_is rs st hidden are all =
      let c = crowds o H i st hidden all in
      by_crowds (is_crowded o H i Table.Name) (is_crowded o H i Table.Prefix) (is_crowded o H i Table.Datatype) (item_rows o H i) c.names c.prefixes c.datatypes are
    where
      by_crowds : (a b c : Bool) (r : Result (List Row) Refusal) {f : Bool} → a ≡ false → b ≡ f → c ≡ false → r ≡ Ok rs → (a || (b || (c || is_long r))) ≡ (f || nat_lt most_item_bytes (length (body_of (reverse rs))))
      by_crowds a b c r names prefixes datatypes are = rw (names, prefixes, datatypes, are) refl
