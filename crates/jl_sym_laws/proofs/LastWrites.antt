-- A slot at a moment is the last write to it before that moment, or else the state's.
use Rattle.std.proofs.Common.{◌≡◌, ℕ, ◌<◌, ◌==◌, ◌≢◌, Bool, true, false, ◌&&◌, List, [], ◌∷◌, length, Option, Some, None, refl, ap, sym, ◌∙◌, cond, nat_lt, inl, inr, set, get_or, get_or-set_same, get_or-set_other, eq-eqb}
use Rattle.std.proofs.lemmas.Bool.{cases_eq, ne_eqb}
use Rattle.std.specs.Option.{option_or}
use Rattle.jl_rows.specs.declared.row.Table.{Table}
use Rattle.jl_rows.specs.History.{is_table}
use Rattle.jl_state.specs.States.{Filling, Tables, table_in, entry_of, slots_of_tables}
use Rattle.jl_sym_laws.specs.RelativeIds.{real}
use Rattle.jl_sym_laws.specs.Summaries.{Written}
use Rattle.jl_sym_laws.specs.Acting.{filled_in, put, played}
use Rattle.jl_sym_laws.specs.Compacting.{last_write, goes_to, SlotIsLastWrite}
use Rattle.jl_sym_laws.proofs.Logs.{put_length}

written_slot : (xs : Filling) (n id : ℕ) (text : List ℕ) → id < length xs → get_or (set xs n (Some text)) id None ≡ option_or (cond ((n == id) && true) (Some text) None) (get_or xs id None)
written_slot xs n id text h = elim (cases_eq n id) [
  | inl e ↦ let at : id ≡ n = sym e in rw (eq-eqb n id e) (rw e (get_or-set_same xs id (Some text) None h))
  | inr ne ↦ let other : id ≢ n = λ e. ne (sym e) in rw (ne_eqb n id ne) (get_or-set_other xs n id (Some text) None other)
]

not_written : (e : Bool) (text : List ℕ) (o : Option (List ℕ)) → o ≡ option_or (cond (e && false) (Some text) None) o
not_written true text o = refl
not_written false text o = refl

put_slot : (x : Tables) (u t : Table) (n id : ℕ) (text : List ℕ) (b : Bool) → id < length (table_in x t)
    → slots_of_tables (cond b (filled_in x u n text) x) t id ≡ option_or (cond (is_table u t && ((n == id) && b)) (Some text) None) (slots_of_tables x t id)
put_slot x Table.Name Table.Name n id text true h = written_slot x.names n id text h
put_slot x Table.Prefix Table.Prefix n id text true h = written_slot x.prefixes n id text h
put_slot x Table.Datatype Table.Datatype n id text true h = written_slot x.datatypes n id text h
put_slot x Table.Name Table.Name n id text false h = not_written (n == id) text _
put_slot x Table.Prefix Table.Prefix n id text false h = not_written (n == id) text _
put_slot x Table.Datatype Table.Datatype n id text false h = not_written (n == id) text _
put_slot x Table.Name Table.Prefix n id text true h = refl
put_slot x Table.Name Table.Datatype n id text true h = refl
put_slot x Table.Prefix Table.Name n id text true h = refl
put_slot x Table.Prefix Table.Datatype n id text true h = refl
put_slot x Table.Datatype Table.Name n id text true h = refl
put_slot x Table.Datatype Table.Prefix n id text true h = refl
put_slot x Table.Name Table.Prefix n id text false h = refl
put_slot x Table.Name Table.Datatype n id text false h = refl
put_slot x Table.Prefix Table.Name n id text false h = refl
put_slot x Table.Prefix Table.Datatype n id text false h = refl
put_slot x Table.Datatype Table.Name n id text false h = refl
put_slot x Table.Datatype Table.Prefix n id text false h = refl

pub or_assoc : (x y z : Option (List ℕ)) → option_or x (option_or y z) ≡ option_or (option_or x y) z
or_assoc None y z = refl
or_assoc (Some v) y z = refl

pub slot_played : (last : Table → ℕ) (k : ℕ) (x : Tables) (ws : List Written) (t : Table) (id : ℕ) → id < length (table_in x t)
    → slots_of_tables (played last k x ws) t id ≡ option_or (last_write (goes_to last k t id) ws) (slots_of_tables x t id)
unfolding played last_write
slot_played last k x [] t id h = refl
slot_played last k x (w ∷ ws) t id h =
    let b = nat_lt w.moment k in
    let n = real w.id (last w.table) in
    let same = put_length b x w.table t n w.text in
    let within : id < length (table_in (put last k x w) t) = rw same h in
    slot_played last k (put last k x w) ws t id within
    ∙ ap (option_or (last_write (goes_to last k t id) ws)) (put_slot x w.table t n id w.text b h)
    ∙ or_assoc (last_write (goes_to last k t id) ws) (cond (goes_to last k t id w) (Some w.text) None) (slots_of_tables x t id)

pub slot_is_last_write : SlotIsLastWrite
slot_is_last_write s ws k t id h = slot_played (entry_of s) k s.tables ws t id h
