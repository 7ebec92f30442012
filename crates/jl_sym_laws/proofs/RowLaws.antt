-- A row is its small steps, one after another; so the summary of a row acts as the decoder's step does.
use Rattle.std.proofs.Common.{◌≡◌, ◌==◌, ◌&&◌, ℕ, Bool, true, false, not, List, [], ◌∷◌, Option, Some, None, is_some, Result, Ok, Err, refl, ap, ◌∙◌, cond}
use Rattle.jl_base.specs.Results.{◌>>=◌, refuse_if, some_or}
use Rattle.jl_base.specs.Terms.{Value, Item}
use Rattle.jl_base.specs.declared.kind.Kind.{Kind}
use Rattle.jl_base.specs.declared.kind.Kind.TheVariants.{OptionsDiffer, WrongRow, NoTerm, NoGraph, GraphOpen, EarlyNamespace}
use Rattle.jl_base.specs.declared.place.Place.{Place}
use Rattle.jl_base.specs.declared.place.Fault.{Fault}
use Rattle.jl_rows.specs.Written.{Ids, Term, StreamOptions, Row}
use Rattle.jl_rows.specs.Files.{Placed}
use Rattle.jl_rows.specs.Values.{Position}
use Rattle.jl_rows.specs.Decoder.{is_same, is_graphs, is_wrong_row, read_under, stated}
use Rattle.jl_state.specs.States.{State, entry_of, slots_in}
use Rattle.jl_state.specs.Steps.{Stepped, Looked, ids_after, text_at, looked, placed, id_after, entry_step, row_step, step}
use Rattle.jl_sym_laws.specs.Summaries.{unit}
use Rattle.jl_sym_laws.specs.Acting.{unmet, act}
use Rattle.jl_sym_laws.specs.Composing.{Timed}
use Rattle.jl_sym_laws.specs.SmallSteps.{Small, smalls_of, smalls, with_term, small_step, of_small, of_smalls}
use Rattle.jl_state.specs.Running.{at_place, state_of}
use Rattle.jl_sym_laws.specs.Runs.{of_row}
use Rattle.jl_sym_laws.specs.Laws.{RowsSum}
use Rattle.jl_sym_laws.proofs.Quiet.{unit_leaves}
use Rattle.jl_sym_laws.proofs.Composition.{composes}
use Rattle.jl_sym_laws.proofs.Times.{stays_timed}
use Rattle.jl_sym_laws.proofs.SmallLaws.{small_steps_sum, small_timed, unit_timed}

-- small steps, one after another
unfoldable pub all_steps : List Small → State → Result State Kind
all_steps [] s = Ok s
all_steps (x ∷ xs) s = small_step x s >>= λ t. all_steps xs t

-- a term at a position, and what comes after it
then_placed : (l : Looked) (x : Position) (s : State) (f : State → Result State Kind) (g : Value × Ids → Stepped)
    → ((v : Value × Ids) → f (with_term x v.0 v.1 s) ≡ state_of (g v)) → ((l >>= λ v. Ok (with_term x v.0 v.1 s)) >>= f) ≡ state_of (l >>= g)
then_placed (Ok v) x s f g h = h v
then_placed (Err kind) x s f g h = refl

refused_or : (b : Bool) (kind : Kind) (xs : List Small) (s : State) (r : Stepped) → all_steps xs s ≡ state_of r
    → all_steps (cond b (Small.Refuses kind ∷ []) xs) s ≡ state_of (refuse_if b kind >>= λ _. r)
unfolding all_steps
refused_or true kind xs s r h = refl
refused_or false kind xs s r h = h

options_row : (b : Bool) (s : State) → all_steps (cond b (Small.Ends ∷ []) (Small.Refuses OptionsDiffer ∷ [])) s ≡ state_of (refuse_if (not b) OptionsDiffer >>= λ _. Ok (s, []))
unfolding all_steps
options_row true s = refl
options_row false s = refl

entry_row : (r : Result State Kind) → (r >>= λ t. Ok t) ≡ state_of (r >>= λ n. Ok (n, []))
entry_row (Ok n) = refl
entry_row (Err kind) = refl

graph_end_row : (g : Option Value) (s : State) → ((some_or g NoGraph >>= λ _. Ok (record s { open_graph = None })) >>= λ t. Ok t) ≡ state_of (some_or g NoGraph >>= λ _. Ok (record s { open_graph = None }, []))
graph_end_row None s = refl
graph_end_row (Some v) s = refl

graph_start_row : (b : Bool) (l : Looked) (s : State)
    → ((refuse_if b GraphOpen >>= λ _. l >>= λ v. Ok (record s { ids = v.1; open_graph = Some v.0 })) >>= λ t. Ok t) ≡ state_of (refuse_if b GraphOpen >>= λ _. l >>= λ v. Ok (record s { ids = v.1; open_graph = Some v.0 }, []))
graph_start_row true l s = refl
graph_start_row false (Ok v) s = refl
graph_start_row false (Err kind) s = refl

namespace_row : (text : Result (List ℕ) Kind) (name : List ℕ) (t : State) → ((text >>= λ _. Ok t) >>= λ u. Ok u) ≡ state_of (text >>= λ iri. Ok (t, Item.Namespace name iri ∷ []))
namespace_row (Ok iri) name t = refl
namespace_row (Err kind) name t = refl

abbrev pub three : Term → Term → Term → List Small
three x y z = Small.Places Position.Subject x ∷ Small.Places Position.Predicate y ∷ Small.Places Position.Object z ∷ Small.Ends ∷ []

abbrev pub triple_rest : Option Value → Term → Term → Term → State → Stepped
triple_rest g x y z s = do
  a ← placed (slots_in s) s.ids s.subject x
  b ← placed (slots_in s) a.1 s.predicate y
  c ← placed (slots_in s) b.1 s.object z
  Ok (record s { ids = c.1; subject = Some a.0; predicate = Some b.0; object = Some c.0 }, stated g a.0 b.0 c.0 ∷ [])

three_terms : (g : Option Value) (x y z : Term) (s : State) → all_steps (three x y z) s ≡ state_of (triple_rest g x y z s)
unfolding all_steps
three_terms g x y z s =
    then_placed (placed (slots_in s) s.ids s.subject x) Position.Subject s _ _ (λ a.
    then_placed (placed (slots_in s) a.1 s.predicate y) Position.Predicate (with_term Position.Subject a.0 a.1 s) _ _ (λ b.
    then_placed (placed (slots_in s) b.1 s.object z) Position.Object (with_term Position.Predicate b.0 b.1 (with_term Position.Subject a.0 a.1 s)) _ _ (λ c. refl)))

-- a triple of a file of graphs, in whose graph it stands
triple_inside : (g : Option Value) (x y z : Term) (s : State)
    → ((some_or g NoGraph >>= λ _. Ok s) >>= λ t. all_steps (three x y z) t) ≡ state_of ((some_or g NoGraph >>= λ v. Ok (Some v)) >>= λ v. triple_rest v x y z s)
triple_inside None x y z s = refl
triple_inside (Some v) x y z s = three_terms (Some v) x y z s

triple_row : (b : Bool) (x y z : Term) (s : State)
    → all_steps (cond b (Small.IsInGraph ∷ three x y z) (three x y z)) s ≡ state_of (cond b (some_or s.open_graph NoGraph >>= λ v. Ok (Some v)) (Ok None) >>= λ g. triple_rest g x y z s)
unfolding all_steps
triple_row true x y z s = triple_inside s.open_graph x y z s
triple_row false x y z s = three_terms None x y z s

row_is : (o : StreamOptions) (r : Row) (s : State) → all_steps (smalls_of o r) s ≡ state_of (row_step o r s)
unfolding all_steps
row_is o (Row.Options p) s = options_row (is_same o p) s
row_is o (Row.Entry t id text) s = entry_row (entry_step t (id_after id (entry_of s t)) text s)
row_is o Row.GraphEnd s = graph_end_row s.open_graph s
row_is o (Row.GraphStart g) s = graph_start_row (is_some s.open_graph) (looked (slots_in s) s.ids g) s
row_is o (Row.Namespace name None) s = refused_or (o.strict && (o.version == 1)) EarlyNamespace (Small.Refuses NoTerm ∷ []) s (Err NoTerm) refl
row_is o (Row.Namespace name (Some i)) s =
    let ids = ids_after i s.ids in
    refused_or (o.strict && (o.version == 1)) EarlyNamespace (Small.Reads i ∷ Small.Ends ∷ []) s (text_at (slots_in s) ids >>= λ iri. Ok (record s { ids = ids }, Item.Namespace name iri ∷ []))
    (namespace_row (text_at (slots_in s) ids) name (record s { ids = ids }))
row_is o (Row.Triple x y z) s = triple_row (is_graphs o) x y z s
row_is o (Row.Quad x y z w) s =
    then_placed (placed (slots_in s) s.ids s.subject x) Position.Subject s _ _ (λ a.
    then_placed (placed (slots_in s) a.1 s.predicate y) Position.Predicate (with_term Position.Subject a.0 a.1 s) _ _ (λ b.
    then_placed (placed (slots_in s) b.1 s.object z) Position.Object (with_term Position.Predicate b.0 b.1 (with_term Position.Subject a.0 a.1 s)) _ _ (λ c.
    then_placed (placed (slots_in s) c.1 s.graph w) Position.Graph (with_term Position.Object c.0 c.1 (with_term Position.Predicate b.0 b.1 (with_term Position.Subject a.0 a.1 s))) _ _ (λ d. refl))))

pub step_is : (o : StreamOptions) (r : Row) (s : State) → all_steps (smalls o r) s ≡ state_of (step o r s)
step_is o r s = refused_or (is_wrong_row o r) WrongRow (smalls_of o (read_under o r)) s (row_step o (read_under o r) s) (row_is o (read_under o r) s)

-- the summaries of small steps, one after another
then_all : (place : Place) (r : Result State Kind) (f : State → Result State Fault) (g : State → Result State Kind)
    → ((t : State) → f t ≡ at_place place (g t)) → (at_place place r >>= f) ≡ at_place place (r >>= g)
then_all place (Ok t) f g h = h t
then_all place (Err kind) f g h = refl

pub unit_acts : (s : State) → act unit s ≡ Ok s
unfolding unmet
unit_acts s = ap Ok (unit_leaves s)

all_sum : (place : Place) (xs : List Small) (s : State) → act (of_smalls place xs) s ≡ at_place place (all_steps xs s)
unfolding all_steps of_smalls
all_sum place [] s = unit_acts s
all_sum place (x ∷ xs) s =
    composes (of_small place x) (of_smalls place xs) s (small_timed place x)
    ∙ ap (λ (r : Result State Fault). r >>= λ t. act (of_smalls place xs) t) (small_steps_sum place x s)
    ∙ then_all place (small_step x s) (λ t. act (of_smalls place xs) t) (λ t. all_steps xs t) (λ t. all_sum place xs t)

all_timed : (place : Place) (xs : List Small) → Timed (of_smalls place xs)
unfolding of_smalls
all_timed place [] = unit_timed
all_timed place (x ∷ xs) = stays_timed (of_small place x) (of_smalls place xs) (small_timed place x) (all_timed place xs)

pub row_timed : (o : StreamOptions) (r : Placed) → Timed (of_row o r)
row_timed o r = all_timed r.place (smalls o r.row)

pub rows_sum : RowsSum
rows_sum o r s = all_sum r.place (smalls o r.row) s ∙ ap (at_place r.place) (step_is o r.row s)
