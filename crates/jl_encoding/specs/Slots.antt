-- Texts in the lookup tables, as an item uses them (Jelly RDF serialization, "Lookup tables" and "Prefix and name
-- lookup").
use Rattle.std.specs.Prelude.{ℕ, zero, suc, ◌+◌, ◌-◌, Bool, false, ◌==◌, ◌&&◌, ◌||◌, not, List, [], ◌∷◌, ◌++◌, find, Option, Some, None, Result, Ok, if◌then◌else◌}
use Rattle.jl_base.specs.Results.{◌>>=◌, some_or}
use Rattle.jl_rows.specs.declared.row.Table.{Table}
use Rattle.jl_rows.specs.Written.{StreamOptions, Ids, Row}
use Rattle.jl_rows.specs.History.{History, is_table, counted, ids_written, slot, entry_id}
use Rattle.jl_rows.specs.Decoder.{size_of}
use Rattle.jl_encoding.specs.Sameness.{is_text}

-- Why an item has no rows: it uses each slot of a table already, and needs another one.
pub data Refusal : Type 0 where
  Full : Refusal

-- a slot that the item uses, and the text in it
pub record Claim : Type 0 where
  pub table : Table
  pub id : ℕ
  pub text : List ℕ

-- What the item wrote so far, behind the rows before it: its entries, the newest first; all IRIs of the file, the newest
-- first; and the slots that it uses.
pub record State : Type 0 where
  pub entries : List Row
  pub seen : List Ids
  pub claims : List Claim

-- so many numbers from one on
abbrev pub numbers_from : ℕ → ℕ → List ℕ
numbers_from low zero = []
numbers_from low (suc n) = low ∷ numbers_from (low + 1) n

-- the slot of a table that holds the text, where one does
abbrev pub holder : StreamOptions → Table → List ℕ → History → Option ℕ
holder o t text H = find (λ n. is_text text (slot t n H)) (numbers_from 1 (size_of o t))

abbrev pub is_claimed : Table → ℕ → List Claim → Bool
is_claimed t n [] = false
is_claimed t n (c ∷ cs) = (is_table c.table t && (c.id == n)) || is_claimed t n cs

-- The slots in turn: from the one after the last entry's to the table's last, and then from 1 on.
abbrev pub in_turn : ℕ → ℕ → List ℕ
in_turn size last = numbers_from (last + 1) (size - last) ++ numbers_from 1 size

-- the next slot in turn that the item doesn't use
abbrev pub next_slot : StreamOptions → Table → List Claim → History → Result ℕ Refusal
next_slot o t cs H = some_or (find (λ n. not (is_claimed t n cs)) (in_turn (size_of o t) (entry_id t H))) Full

-- an id is written 0 exactly where the rule for 0 gives it
abbrev pub unless_given : ℕ → ℕ → ℕ
unless_given given n = if given == n then 0 else n

-- the id of an entry, by what the table's last ids give for 0
abbrev pub entry_written : Table → ℕ → History → ℕ
entry_written t n H = unless_given (counted (0 ∷ ids_written t H)) n

abbrev pub with_claim : Table → ℕ → List ℕ → State → State
with_claim t n text st = record { entries = st.entries; seen = st.seen; claims = record { table = t; id = n; text = text } ∷ st.claims }

abbrev pub with_entry : History → Table → ℕ → List ℕ → State → State
with_entry H t n text st = record { entries = Row.Entry t (entry_written t n (st.entries ++ H)) text ∷ st.entries; seen = st.seen; claims = st.claims }

-- the slot of a text that the table holds, or that of its new entry
abbrev pub used_or_new : StreamOptions → History → Table → List ℕ → State → Option ℕ → Result (ℕ × State) Refusal
used_or_new o H t text st (Some n) = Ok (n, with_claim t n text st)
used_or_new o H t text st None = next_slot o t st.claims (st.entries ++ H) >>= λ n. Ok (n, with_claim t n text (with_entry H t n text st))

unfoldable pub put_text : StreamOptions → History → Table → List ℕ → State → Result (ℕ × State) Refusal
put_text o H t text st = used_or_new o H t text st (holder o t text (st.entries ++ H))
