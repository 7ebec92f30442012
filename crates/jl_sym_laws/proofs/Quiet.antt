-- What a summary that does little leaves of a state.
use Rattle.std.proofs.Common.{◌≡◌, ℕ, ◌+◌, List, arith}
use Rattle.jl_base.specs.declared.place.Place.{Place}
use Rattle.jl_rows.specs.declared.row.Table.{Table}
use Rattle.jl_rows.specs.Written.{Ids, Term}
use Rattle.jl_rows.specs.Values.{Position}
use Rattle.jl_state.specs.States.{State, entry_of, slots_in}
use Rattle.jl_state.specs.Steps.{entered}
use Rattle.jl_sym_laws.specs.RelativeIds.{Id, real, real_ids, incoming, refs_after}
use Rattle.jl_sym_laws.specs.Symbols.{sym_value, term_written}
use Rattle.jl_sym_laws.specs.Summaries.{unit}
use Rattle.jl_sym_laws.specs.Acting.{played, state_after}
use Rattle.jl_sym_laws.specs.SmallSteps.{with_term, with_left, left_by, of_term, of_entry}

add_zero : (n : ℕ) → n + 0 ≡ n
add_zero n = omega arith

pub incoming_is : (ids : Ids) → real_ids incoming ids ≡ ids
incoming_is ids = λ i. record { prefix = add_zero ids.prefix i; name = add_zero ids.name i }

-- no entry
pub no_entry : (s : State) → record s { name_entry = s.name_entry + 0; prefix_entry = s.prefix_entry + 0; datatype_entry = s.datatype_entry + 0 } ≡ s
no_entry s = λ i. record s { name_entry = add_zero s.name_entry i; prefix_entry = add_zero s.prefix_entry i; datatype_entry = add_zero s.datatype_entry i }

-- no entry, and no IRI
pub no_ids : (s : State) → record s { name_entry = s.name_entry + 0; prefix_entry = s.prefix_entry + 0; datatype_entry = s.datatype_entry + 0; ids = real_ids incoming s.ids } ≡ s
no_ids s = λ i. record s { name_entry = add_zero s.name_entry i; prefix_entry = add_zero s.prefix_entry i; datatype_entry = add_zero s.datatype_entry i; ids = incoming_is s.ids i }

pub unit_leaves : (s : State) → state_after unit s ≡ s
unfolding played
unit_leaves s = no_ids s

-- a term at a position
pub term_leaves : (place : Place) (x : Position) (t : Term) (s : State)
    → state_after (with_left x (left_by t) (of_term place t)) s ≡ with_term x (sym_value (slots_in s) s.ids (term_written incoming t)) (real_ids (refs_after t incoming) s.ids) s
unfolding played
term_leaves place Position.Subject t s = no_entry (with_term Position.Subject (sym_value (slots_in s) s.ids (term_written incoming t)) (real_ids (refs_after t incoming) s.ids) s)
term_leaves place Position.Predicate t s = no_entry (with_term Position.Predicate (sym_value (slots_in s) s.ids (term_written incoming t)) (real_ids (refs_after t incoming) s.ids) s)
term_leaves place Position.Object t s = no_entry (with_term Position.Object (sym_value (slots_in s) s.ids (term_written incoming t)) (real_ids (refs_after t incoming) s.ids) s)
term_leaves place Position.Graph t s = no_entry (with_term Position.Graph (sym_value (slots_in s) s.ids (term_written incoming t)) (real_ids (refs_after t incoming) s.ids) s)

-- an entry
pub entry_leaves : (place : Place) (t : Table) (id : Id) (text : List ℕ) (s : State) → state_after (of_entry place t id text) s ≡ entered t (real id (entry_of s t)) text s
unfolding played
entry_leaves place Table.Name id text s =
    λ i. record (entered Table.Name (real id s.name_entry) text s) { prefix_entry = add_zero s.prefix_entry i; datatype_entry = add_zero s.datatype_entry i; ids = incoming_is s.ids i }
entry_leaves place Table.Prefix id text s =
    λ i. record (entered Table.Prefix (real id s.prefix_entry) text s) { name_entry = add_zero s.name_entry i; datatype_entry = add_zero s.datatype_entry i; ids = incoming_is s.ids i }
entry_leaves place Table.Datatype id text s =
    λ i. record (entered Table.Datatype (real id s.datatype_entry) text s) { name_entry = add_zero s.name_entry i; prefix_entry = add_zero s.prefix_entry i; ids = incoming_is s.ids i }
