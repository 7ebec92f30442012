-- The summary of each small step acts as the step does.
use Rattle.std.proofs.Common.{◌≡◌, ℕ, ◌<◌, ◌≤◌, Bool, true, false, not, List, [], ◌∷◌, ◌++◌, length, Option, Some, None, is_some, Result, Ok, Err, refl, ap, sym, ◌∙◌, cond, arith, nat_lt}
use Rattle.jl_base.specs.Results.{◌>>=◌, refuse_if, some_or}
use Rattle.jl_base.specs.Terms.{Value}
use Rattle.jl_base.specs.declared.kind.Kind.{Kind}
use Rattle.jl_base.specs.declared.kind.Kind.TheVariants.{NoTerm, NoGraph, GraphOpen, BadEntry}
use Rattle.jl_base.specs.declared.place.Place.{Place}
use Rattle.jl_base.specs.declared.place.Fault.{Fault}
use Rattle.jl_rows.specs.declared.row.Table.{Table}
use Rattle.jl_rows.specs.Written.{Ids, Ending, Term}
use Rattle.jl_rows.specs.Values.{Position, is_tag}
use Rattle.jl_state.specs.States.{State, table_of, entry_of, term_of, slots_in}
use Rattle.jl_state.specs.Steps.{ids_after, text_at, looked, entry_step}
use Rattle.jl_sym_laws.specs.RelativeIds.{Id, real, Refs, real_ids, incoming, refs_after, entry_written}
use Rattle.jl_sym_laws.specs.Symbols.{sym_value, term_written}
use Rattle.jl_sym_laws.specs.Summaries.{Demand, Left, unit}
use Rattle.jl_state.specs.Running.{settled, at_place}
use Rattle.jl_sym_laws.specs.Acting.{played, unmet, state_after, act}
use Rattle.jl_sym_laws.specs.Composing.{AreWithin, Timed}
use Rattle.jl_sym_laws.specs.SmallSteps.{Small, small_step, with_term, tail_demands, term_demands, with_left, left_by, of_term, of_place, of_entry, of_small}
use Rattle.jl_sym_laws.specs.Laws.{SmallStepsSum}
use Rattle.jl_sym_laws.proofs.Quiet.{no_entry, unit_leaves, term_leaves, entry_leaves}
use Rattle.jl_sym_laws.proofs.Terms.{fault_of, entry_written_is, made_of, said_of, set_sums}

-- a term that is set at a position
set_at : (place : Place) (x : Position) (t : Term) (s : State)
    → at_place place (looked (slots_in s) s.ids t >>= λ v. Ok (with_term x v.0 v.1 s)) ≡ settled (unmet s [] (term_demands place incoming t)) (state_after (with_left x (left_by t) (of_term place t)) s)
set_at place x t s =
    made_of {A = Value × Ids} {B = State} place (looked (slots_in s) s.ids t) (unmet s [] (term_demands place incoming t)) (said_of s incoming t) (λ v. with_term x v.0 v.1 s) (set_sums place s t)
    ∙ ap (settled (unmet s [] (term_demands place incoming t))) (sym (term_leaves place x t s))

-- a term that is the last one again
same_term : (x : Position) (s : State) (v : Value) → term_of s x ≡ Some v → with_term x v s.ids s ≡ s
same_term Position.Subject s v e = λ i. record s { subject = sym e i }
same_term Position.Predicate s v e = λ i. record s { predicate = sym e i }
same_term Position.Object s v e = λ i. record s { object = sym e i }
same_term Position.Graph s v e = λ i. record s { graph = sym e i }

repeated : (place : Place) (x : Position) (s : State) (b : Option Value) → term_of s x ≡ b
    → at_place place ((some_or b NoTerm >>= λ v. Ok (v, s.ids)) >>= λ (v : Value × Ids). Ok (with_term x v.0 v.1 s)) ≡ settled (cond (is_some b) None (Some (fault_of place NoTerm))) (state_after unit s)
repeated place x s None e = refl
repeated place x s (Some v) e = ap Ok (same_term x s v e ∙ sym (unit_leaves s))

with_as : (x : Position) (l : Left) (place : Place) (t : Term) (s : State) → act (with_left x l (of_term place t)) s ≡ settled (unmet s [] (term_demands place incoming t)) (state_after (with_left x l (of_term place t)) s)
with_as Position.Subject l place t s = refl
with_as Position.Predicate l place t s = refl
with_as Position.Object l place t s = refl
with_as Position.Graph l place t s = refl

placed_sums : (place : Place) (x : Position) (t : Term) (s : State) → act (of_place place x t) s ≡ at_place place (small_step (Small.Places x t) s)
unfolding unmet played
placed_sums place x Term.Unset s = sym (repeated place x s (term_of s x) refl)
placed_sums place x (Term.Iri i) s = with_as x (left_by (Term.Iri i)) place (Term.Iri i) s ∙ sym (set_at place x (Term.Iri i) s)
placed_sums place x (Term.Bnode label) s = with_as x (left_by (Term.Bnode label)) place (Term.Bnode label) s ∙ sym (set_at place x (Term.Bnode label) s)
placed_sums place x (Term.Literal lex e) s = with_as x (left_by (Term.Literal lex e)) place (Term.Literal lex e) s ∙ sym (set_at place x (Term.Literal lex e) s)
placed_sums place x (Term.Nested a b c) s = with_as x (left_by (Term.Nested a b c)) place (Term.Nested a b c) s ∙ sym (set_at place x (Term.Nested a b c) s)
placed_sums place x Term.Default s = with_as x (left_by Term.Default) place Term.Default s ∙ sym (set_at place x Term.Default s)
placed_sums place x (Term.Refused k) s = with_as x (left_by (Term.Refused k)) place (Term.Refused k) s ∙ sym (set_at place x (Term.Refused k) s)

-- a graph that is open, or not
in_graph : (place : Place) (g : Option Value) (x y : State) → y ≡ x
    → settled (cond (is_some g) None (Some (fault_of place NoGraph))) y ≡ at_place place (some_or g NoGraph >>= λ _. Ok x)
in_graph place None x y e = refl
in_graph place (Some v) x y e = ap Ok e

out_of_graph : (place : Place) (b : Bool) (u : Option Fault) (y : State) (r : Result State Kind) → settled u y ≡ at_place place r
    → settled (cond (not b) u (Some (fault_of place GraphOpen))) y ≡ at_place place (refuse_if b GraphOpen >>= λ _. r)
out_of_graph place true u y r e = refl
out_of_graph place false u y r e = e

-- an IRI that is read for its ids alone
only_ids : (s : State) (text : Result (List ℕ) Kind) (ids : Ids)
    → ((text >>= λ t. Ok (Value.Iri t, ids)) >>= λ (v : Value × Ids). Ok (record s { ids = v.1 })) ≡ (text >>= λ _. Ok (record s { ids = ids }))
only_ids s (Ok t) ids = refl
only_ids s (Err k) ids = refl

-- an entry
entry_go : (place : Place) (b : Bool) (x y : State) → y ≡ x → settled (cond b None (Some (fault_of place BadEntry))) y ≡ at_place place (cond b (Ok x) (Err BadEntry))
entry_go place true x y e = ap Ok e
entry_go place false x y e = refl

entry_as : (place : Place) (t : Table) (id : Id) (text : List ℕ) (s : State)
    → act (of_entry place t id text) s ≡ settled (cond (nat_lt (real id (entry_of s t)) (length (table_of s t))) None (Some (fault_of place BadEntry))) (state_after (of_entry place t id text) s)
unfolding unmet
entry_as place Table.Name id text s = refl
entry_as place Table.Prefix id text s = refl
entry_as place Table.Datatype id text s = refl

entry_sums : (place : Place) (t : Table) (id : ℕ) (text : List ℕ) (s : State) → act (of_small place (Small.Entry t id text)) s ≡ at_place place (small_step (Small.Entry t id text) s)
entry_sums place t id text s =
    entry_as place t (entry_written id) text s
    ∙ entry_go place (nat_lt (real (entry_written id) (entry_of s t)) (length (table_of s t))) _ _ (entry_leaves place t (entry_written id) text s)
    ∙ ap (λ (n : ℕ). at_place place (entry_step t n text s)) (entry_written_is id (entry_of s t))

pub small_steps_sum : SmallStepsSum
unfolding unmet played
small_steps_sum place (Small.Entry t id text) s = entry_sums place t id text s
small_steps_sum place (Small.Places x t) s = placed_sums place x t s
small_steps_sum place (Small.Reads i) s =
    let t = Term.Iri i in
    let leaves : state_after (of_term place t) s ≡ record s { ids = real_ids (refs_after t incoming) s.ids } = no_entry (record s { ids = real_ids (refs_after t incoming) s.ids }) in
    ap (settled (unmet s [] (term_demands place incoming t))) leaves
    ∙ sym (made_of {A = Value × Ids} {B = State} place (looked (slots_in s) s.ids t) (unmet s [] (term_demands place incoming t)) (said_of s incoming t) (λ v. record s { ids = v.1 }) (set_sums place s t))
    ∙ ap (at_place place) (only_ids s (text_at (slots_in s) (ids_after i s.ids)) (ids_after i s.ids))
small_steps_sum place Small.IsInGraph s = in_graph place s.open_graph s (state_after unit s) (unit_leaves s)
small_steps_sum place (Small.Opens g) s =
    let leaves : state_after (of_small place (Small.Opens g)) s ≡ record s { ids = real_ids (refs_after g incoming) s.ids; open_graph = Some (sym_value (slots_in s) s.ids (term_written incoming g)) }
    = no_entry (record s { ids = real_ids (refs_after g incoming) s.ids; open_graph = Some (sym_value (slots_in s) s.ids (term_written incoming g)) }) in
    out_of_graph place (is_some s.open_graph) (unmet s [] (term_demands place incoming g)) _ _
    (ap (settled (unmet s [] (term_demands place incoming g))) leaves
    ∙ sym (made_of {A = Value × Ids} {B = State} place (looked (slots_in s) s.ids g) (unmet s [] (term_demands place incoming g)) (said_of s incoming g) (λ v. record s { ids = v.1; open_graph = Some v.0 }) (set_sums place s g)))
small_steps_sum place Small.Closes s = in_graph place s.open_graph (record s { open_graph = None }) _ (unit_leaves (record s { open_graph = None }))
small_steps_sum place (Small.Refuses kind) s = refl
small_steps_sum place Small.Ends s = ap Ok (unit_leaves s)

-- no moment of a small step lies after its row
at_once : (rows : ℕ) → 0 ≤ rows
at_once rows = omega arith

within_both : (rows : ℕ) (ds es : List Demand) → AreWithin rows ds → AreWithin rows es → AreWithin rows (ds ++ es)
within_both rows [] es h k = k
within_both rows (d ∷ ds) es h k = (h.0, within_both rows ds es h.1 k)

tag_within : (rows : ℕ) (d : Demand) (b : Bool) → d.moment ≤ rows → AreWithin rows (cond b [] (d ∷ []))
tag_within rows d true h = tt
tag_within rows d false h = (h, tt)

tail_within : (rows : ℕ) (place : Place) (e : Ending) → AreWithin rows (tail_demands place e)
tail_within rows place Ending.Simple = tt
tail_within rows place (Ending.Lang tag) = tag_within rows _ (is_tag tag) (at_once rows)
tail_within rows place (Ending.Typed id) = (at_once rows, tt)

pub term_within : (rows : ℕ) (place : Place) (r : Refs) (t : Term) → AreWithin rows (term_demands place r t)
term_within rows place r Term.Unset = (at_once rows, tt)
term_within rows place r (Term.Iri i) = (at_once rows, (at_once rows, tt))
term_within rows place r (Term.Bnode label) = tt
term_within rows place r (Term.Literal lex e) = tail_within rows place e
term_within rows place r (Term.Nested x y z) =
    within_both rows (term_demands place r x) _ (term_within rows place r x)
    (within_both rows (term_demands place (refs_after x r) y) _ (term_within rows place (refs_after x r) y) (term_within rows place (refs_after y (refs_after x r)) z))
term_within rows place r Term.Default = tt
term_within rows place r (Term.Refused k) = (at_once rows, tt)

pub unit_timed : Timed unit
unit_timed = record { writes = tt; demands = tt; subject = tt; predicate = tt; object = tt; graph = tt; open_graph = tt }

set_timed : (place : Place) (x : Position) (t : Term) → Timed (with_left x (left_by t) (of_term place t))
set_timed place Position.Subject t = record { writes = tt; demands = term_within 0 place incoming t; subject = at_once 0; predicate = tt; object = tt; graph = tt; open_graph = tt }
set_timed place Position.Predicate t = record { writes = tt; demands = term_within 0 place incoming t; subject = tt; predicate = at_once 0; object = tt; graph = tt; open_graph = tt }
set_timed place Position.Object t = record { writes = tt; demands = term_within 0 place incoming t; subject = tt; predicate = tt; object = at_once 0; graph = tt; open_graph = tt }
set_timed place Position.Graph t = record { writes = tt; demands = term_within 0 place incoming t; subject = tt; predicate = tt; object = tt; graph = at_once 0; open_graph = tt }

place_timed : (place : Place) (x : Position) (t : Term) → Timed (of_place place x t)
place_timed place x Term.Unset = record { writes = tt; demands = (at_once 0, tt); subject = tt; predicate = tt; object = tt; graph = tt; open_graph = tt }
place_timed place x (Term.Iri i) = set_timed place x (Term.Iri i)
place_timed place x (Term.Bnode label) = set_timed place x (Term.Bnode label)
place_timed place x (Term.Literal lex e) = set_timed place x (Term.Literal lex e)
place_timed place x (Term.Nested a b c) = set_timed place x (Term.Nested a b c)
place_timed place x Term.Default = set_timed place x Term.Default
place_timed place x (Term.Refused k) = set_timed place x (Term.Refused k)

entry_timed : (place : Place) (t : Table) (id : Id) (text : List ℕ) → 0 < 1 → Timed (of_entry place t id text)
entry_timed place Table.Name id text p = record { writes = (p, tt); demands = (at_once 1, tt); subject = tt; predicate = tt; object = tt; graph = tt; open_graph = tt }
entry_timed place Table.Prefix id text p = record { writes = (p, tt); demands = (at_once 1, tt); subject = tt; predicate = tt; object = tt; graph = tt; open_graph = tt }
entry_timed place Table.Datatype id text p = record { writes = (p, tt); demands = (at_once 1, tt); subject = tt; predicate = tt; object = tt; graph = tt; open_graph = tt }

pub small_timed : (place : Place) (x : Small) → Timed (of_small place x)
small_timed place (Small.Entry t id text) = let below : 0 < 1 = omega arith in entry_timed place t (entry_written id) text below
small_timed place (Small.Places x t) = place_timed place x t
small_timed place (Small.Reads i) = record { writes = tt; demands = term_within 0 place incoming (Term.Iri i); subject = tt; predicate = tt; object = tt; graph = tt; open_graph = tt }
small_timed place Small.IsInGraph = record { writes = tt; demands = (at_once 0, tt); subject = tt; predicate = tt; object = tt; graph = tt; open_graph = tt }
small_timed place (Small.Opens g) = record { writes = tt; demands = (at_once 0, term_within 0 place incoming g); subject = tt; predicate = tt; object = tt; graph = tt; open_graph = at_once 0 }
small_timed place Small.Closes = record { writes = tt; demands = (at_once 0, tt); subject = tt; predicate = tt; object = tt; graph = tt; open_graph = tt }
small_timed place (Small.Refuses kind) = record { writes = tt; demands = (at_once 0, tt); subject = tt; predicate = tt; object = tt; graph = tt; open_graph = tt }
small_timed place Small.Ends = record { writes = tt; demands = tt; subject = tt; predicate = tt; object = tt; graph = tt; open_graph = tt }
