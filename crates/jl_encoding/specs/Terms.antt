-- Terms as an item writes them: by ids, in reading order.
use Rattle.std.specs.Prelude.{ℕ, Bool, true, false, ◌==◌, ◌&&◌, List, [], ◌∷◌, Result, Ok, if◌then◌else◌}
use Rattle.jl_base.specs.Results.{◌>>=◌}
use Rattle.jl_base.specs.Terms.{Tail, Value}
use Rattle.jl_rows.specs.declared.row.Table.{Table}
use Rattle.jl_rows.specs.Written.{StreamOptions, Ids, Ending, Term}
use Rattle.jl_rows.specs.History.{History, prefix_id, name_id}
use Rattle.jl_rows.specs.Values.{Position, last_term}
use Rattle.jl_encoding.specs.Sameness.{is_value}
use Rattle.jl_encoding.specs.Splits.{prefix_of, name_of}
use Rattle.jl_encoding.specs.Slots.{Refusal, State, unless_given, put_text}

abbrev pub is_empty : List ℕ → Bool
is_empty [] = true
is_empty (b ∷ bs) = false

-- The empty prefix is id 0, and no entry, as long as no prefix id was given.
unfoldable pub put_prefix : StreamOptions → History → List ℕ → State → Result (ℕ × State) Refusal
put_prefix o H text st = if is_empty text && (prefix_id st.seen == 0) then Ok (0, st) else put_text o H Table.Prefix text st

-- an IRI's ids as they are written behind these IRIs; that of the name by what 0 would give
abbrev pub ids_of : List Ids → ℕ → ℕ → Ids
ids_of seen p n = record { prefix = unless_given (prefix_id seen) p; name = unless_given (name_id (record { prefix = 0; name = 0 } ∷ seen)) n }

abbrev pub with_iri : Ids → State → State
with_iri i st = record { entries = st.entries; seen = i ∷ st.seen; claims = st.claims }

-- first the prefix, then the name
unfoldable pub put_iri : StreamOptions → History → List ℕ → State → Result (Ids × State) Refusal
put_iri o H text st = do
  p ← put_prefix o H (prefix_of text) st
  n ← put_text o H Table.Name (name_of text) p.1
  Ok (ids_of st.seen p.0 n.0, with_iri (ids_of st.seen p.0 n.0) n.1)

unfoldable pub put_tail : StreamOptions → History → Tail → State → Result (Ending × State) Refusal
put_tail o H Tail.Simple st = Ok (Ending.Simple, st)
put_tail o H (Tail.Lang tag) st = Ok (Ending.Lang tag, st)
put_tail o H (Tail.Typed iri) st = put_text o H Table.Datatype iri st >>= λ n. Ok (Ending.Typed n.0, n.1)

unfoldable pub put_term : StreamOptions → History → Value → State → Result (Term × State) Refusal
put_term o H (Value.Iri text) st = put_iri o H text st >>= λ i. Ok (Term.Iri i.0, i.1)
put_term o H (Value.Bnode label) st = Ok (Term.Bnode label, st)
put_term o H (Value.Literal lex tail) st = put_tail o H tail st >>= λ e. Ok (Term.Literal lex e.0, e.1)
put_term o H (Value.Nested s p ob) st = do
  a ← put_term o H s st
  b ← put_term o H p a.1
  c ← put_term o H ob b.1
  Ok (Term.Nested a.0 b.0 c.0, c.1)
put_term o H Value.Default st = Ok (Term.Default, st)

-- a term that is the last one at its position is unset, and takes no part
unfoldable pub put_at : StreamOptions → History → Position → Value → State → Result (Term × State) Refusal
put_at o H x v st = if is_value v (last_term x H) then Ok (Term.Unset, st) else put_term o H v st
