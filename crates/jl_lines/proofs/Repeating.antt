-- What a row leaves of the last terms.
use Rattle.std.proofs.Common.{◌≡◌, ◌==◌, ◌&&◌, ℕ, Bool, true, false, not, is_some, List, [], ◌∷◌, Option, Some, None, Result, Ok, Err, nat_lt, length, refl, ap, sym, ◌∙◌, cond, subst}
use Rattle.jl_base.specs.Results.{◌>>=◌, refuse_if, some_or}
use Rattle.jl_base.specs.Terms.{Value, Item}
use Rattle.jl_base.specs.declared.kind.Kind.{Kind}
use Rattle.jl_base.specs.declared.kind.Kind.TheVariants.{OptionsDiffer, BadEntry, NoTerm, NoGraph, GraphOpen, EarlyNamespace}
use Rattle.jl_rows.specs.declared.row.Table.{Table}
use Rattle.jl_rows.specs.Written.{Ids, Term, StreamOptions, Row}
use Rattle.jl_rows.specs.Values.{Slots}
use Rattle.jl_rows.specs.Decoder.{is_same, stated}
use Rattle.jl_rows.proofs.Binding.{bound}
use Rattle.jl_state.specs.States.{State, entry_of, table_of, slots_in}
use Rattle.jl_state.specs.Steps.{placed, graph_for, looked, text_at, ids_after, Stepped, entry_step, entered, id_after, row_step, triple_step, quad_step}
use Rattle.jl_lines.specs.Kept.{RepeatsSubject, RepeatsPredicate, RepeatsObject}

-- the last terms are the same
pub record Left (t t' : State) : Type 0 where
  pub subject : t'.subject ≡ t.subject
  pub predicate : t'.predicate ≡ t.predicate
  pub object : t'.object ≡ t.object

abbrev value_in : Result (Value × Ids) Kind → Option Value
value_in (Ok v) = Some v.0
value_in (Err k) = None

-- a term that repeats the last one is the last one
unset : (slots : Slots) (last : Ids) (before : Option Value) (v : Value × Ids) → placed slots last before Term.Unset ≡ Ok v → Some v.0 ≡ before
unset slots last (Some x) v p = ap value_in (sym p)
unset slots last None v p = cc

same_term : (slots : Slots) (last : Ids) (before : Option Value) (t : Term) (v : Value × Ids) → t ≡ Term.Unset → placed slots last before t ≡ Ok v → Some v.0 ≡ before
same_term slots last before t v e p = unset slots last before v (sym (ap (placed slots last before) e) ∙ p)

-- the state behind a step, or this one
abbrev after : State → Stepped → State
after t (Ok p) = p.0
after t (Err k) = t

left : (t t' n : State) (items items' : List Item) → Left t n → ◌≡◌ {A = Stepped} (Ok (n, items)) (Ok (t', items')) → Left t t'
left t t' n items items' l e = record {
  subject = ap (λ (r : Stepped). (after t r).subject) (sym e) ∙ l.subject;
  predicate = ap (λ (r : Stepped). (after t r).predicate) (sym e) ∙ l.predicate;
  object = ap (λ (r : Stepped). (after t r).object) (sym e) ∙ l.object;
}

same : (t : State) → Left t t
same t = record { subject = refl; predicate = refl; object = refl }

entered_left : (u : Table) (id : ℕ) (text : List ℕ) (t : State) → Left t (entered u id text t)
entered_left Table.Name id text t = record { subject = refl; predicate = refl; object = refl }
entered_left Table.Prefix id text t = record { subject = refl; predicate = refl; object = refl }
entered_left Table.Datatype id text t = record { subject = refl; predicate = refl; object = refl }

entry_left : (b : Bool) (u : Table) (id : ℕ) (text : List ℕ) (t n : State) → ◌≡◌ {A = Result State Kind} (cond b (Ok (entered u id text t)) (Err BadEntry)) (Ok n) → Left t n
entry_left true u id text t n e = let made : entered u id text t ≡ n = cc in subst (λ (x : State). Left t x) made (entered_left u id text t)
entry_left false u id text t n e = cc

-- the rows that aren't statements
options_left : (o p : StreamOptions) (t t' : State) (items : List Item) → row_step o (Row.Options p) t ≡ Ok (t', items) → Left t t'
options_left o p t t' items e =
    let b = bound {B = State × List Item} (refuse_if (not (is_same o p)) OptionsDiffer) (λ _. Ok (t, [])) (t', items) e in
    left t t' t [] items (same t) b.then

entry_row_left : (o : StreamOptions) (u : Table) (id : ℕ) (text : List ℕ) (t t' : State) (items : List Item) → row_step o (Row.Entry u id text) t ≡ Ok (t', items) → Left t t'
entry_row_left o u id text t t' items e =
    let b = bound {B = State × List Item} (entry_step u (id_after id (entry_of t u)) text t) (λ n. Ok (n, [])) (t', items) e in
    left t t' b.value [] items (entry_left (nat_lt (id_after id (entry_of t u)) (length (table_of t u))) u (id_after id (entry_of t u)) text t b.value b.was) b.then

end_left : (o : StreamOptions) (t t' : State) (items : List Item) → row_step o Row.GraphEnd t ≡ Ok (t', items) → Left t t'
end_left o t t' items e =
    let b = bound {B = State × List Item} (some_or t.open_graph NoGraph) (λ _. Ok (record t { open_graph = None }, [])) (t', items) e in
    left t t' (record t { open_graph = None }) [] items (record { subject = refl; predicate = refl; object = refl }) b.then

start_left : (o : StreamOptions) (g : Term) (t t' : State) (items : List Item) → row_step o (Row.GraphStart g) t ≡ Ok (t', items) → Left t t'
start_left o g t t' items e =
    let b = bound {B = State × List Item} (refuse_if (is_some t.open_graph) GraphOpen) (λ _. looked (slots_in t) t.ids g >>= λ v. Ok (record t { ids = v.1; open_graph = Some v.0 }, [])) (t', items) e in
    let c = bound {B = State × List Item} (looked (slots_in t) t.ids g) (λ v. Ok (record t { ids = v.1; open_graph = Some v.0 }, [])) (t', items) b.then in
    left t t' (record t { ids = c.value.1; open_graph = Some c.value.0 }) [] items (record { subject = refl; predicate = refl; object = refl }) c.then

namespace_left : (o : StreamOptions) (name : List ℕ) (i : Option Ids) (t t' : State) (items : List Item) → row_step o (Row.Namespace name i) t ≡ Ok (t', items) → Left t t'
namespace_left o name i t t' items e =
    let a = bound {B = State × List Item} (refuse_if (o.strict && (o.version == 1)) EarlyNamespace)
    (λ _. some_or i NoTerm >>= λ ids. text_at (slots_in t) (ids_after ids t.ids) >>= λ iri. Ok (record t { ids = ids_after ids t.ids }, Item.Namespace name iri ∷ [])) (t', items) e in
    let b = bound {B = State × List Item} (some_or i NoTerm) (λ ids. text_at (slots_in t) (ids_after ids t.ids) >>= λ iri. Ok (record t { ids = ids_after ids t.ids }, Item.Namespace name iri ∷ [])) (t', items) a.then in
    let c = bound {B = State × List Item} (text_at (slots_in t) (ids_after b.value t.ids)) (λ iri. Ok (record t { ids = ids_after b.value t.ids }, Item.Namespace name iri ∷ [])) (t', items) b.then in
    left t t' (record t { ids = ids_after b.value t.ids }) (Item.Namespace name c.value ∷ []) items (record { subject = refl; predicate = refl; object = refl }) c.then

-- a statement's terms, and its item
record Placed (t t' : State) (items : List Item) (s p ob : Term) : Type 0 where
  pub subject : s ≡ Term.Unset → t'.subject ≡ t.subject
  pub predicate : p ≡ Term.Unset → t'.predicate ≡ t.predicate
  pub object : ob ≡ Term.Unset → t'.object ≡ t.object
  pub stated : items ≡ [] → ⊥

abbrev items_in : Stepped → List Item
items_in (Ok p) = p.1
items_in (Err k) = []

some_item : (item : Item) (items : List Item) → items ≡ item ∷ [] → items ≡ [] → ⊥
some_item item items e none = cc

abbrev triple_done : State → Option Value → Value × Ids → Value × Ids → Value × Ids → Stepped
triple_done t g a b c = Ok (record t { ids = c.1; subject = Some a.0; predicate = Some b.0; object = Some c.0 }, stated g a.0 b.0 c.0 ∷ [])

triple_placed : (o : StreamOptions) (s p ob : Term) (t t' : State) (items : List Item) → triple_step o s p ob t ≡ Ok (t', items) → Placed t t' items s p ob
triple_placed o s p ob t t' items e =
    let g = bound {B = State × List Item} (graph_for o t)
    (λ g. placed (slots_in t) t.ids t.subject s >>= λ a. placed (slots_in t) a.1 t.predicate p >>= λ b. placed (slots_in t) b.1 t.object ob >>= λ c. triple_done t g a b c) (t', items) e in
    let a = bound {B = State × List Item} (placed (slots_in t) t.ids t.subject s)
    (λ a. placed (slots_in t) a.1 t.predicate p >>= λ b. placed (slots_in t) b.1 t.object ob >>= λ c. triple_done t g.value a b c) (t', items) g.then in
    let b = bound {B = State × List Item} (placed (slots_in t) a.value.1 t.predicate p) (λ b. placed (slots_in t) b.1 t.object ob >>= λ c. triple_done t g.value a.value b c) (t', items) a.then in
    let c = bound {B = State × List Item} (placed (slots_in t) b.value.1 t.object ob) (λ c. triple_done t g.value a.value b.value c) (t', items) b.then in
    record {
      subject = λ unset. ap (λ (r : Stepped). (after t r).subject) (sym c.then) ∙ same_term (slots_in t) t.ids t.subject s a.value unset a.was;
      predicate = λ unset. ap (λ (r : Stepped). (after t r).predicate) (sym c.then) ∙ same_term (slots_in t) a.value.1 t.predicate p b.value unset b.was;
      object = λ unset. ap (λ (r : Stepped). (after t r).object) (sym c.then) ∙ same_term (slots_in t) b.value.1 t.object ob c.value unset c.was;
      stated = some_item (stated g.value a.value.0 b.value.0 c.value.0) items (ap items_in (sym c.then));
    }

abbrev quad_done : State → Value × Ids → Value × Ids → Value × Ids → Value × Ids → Stepped
quad_done t a b c d = Ok (record t { ids = d.1; subject = Some a.0; predicate = Some b.0; object = Some c.0; graph = Some d.0 }, Item.Quad a.0 b.0 c.0 d.0 ∷ [])

quad_placed : (s p ob g : Term) (t t' : State) (items : List Item) → quad_step s p ob g t ≡ Ok (t', items) → Placed t t' items s p ob
quad_placed s p ob g t t' items e =
    let a = bound {B = State × List Item} (placed (slots_in t) t.ids t.subject s)
    (λ a. placed (slots_in t) a.1 t.predicate p >>= λ b. placed (slots_in t) b.1 t.object ob >>= λ c. placed (slots_in t) c.1 t.graph g >>= λ d. quad_done t a b c d) (t', items) e in
    let b = bound {B = State × List Item} (placed (slots_in t) a.value.1 t.predicate p)
    (λ b. placed (slots_in t) b.1 t.object ob >>= λ c. placed (slots_in t) c.1 t.graph g >>= λ d. quad_done t a.value b c d) (t', items) a.then in
    let c = bound {B = State × List Item} (placed (slots_in t) b.value.1 t.object ob) (λ c. placed (slots_in t) c.1 t.graph g >>= λ d. quad_done t a.value b.value c d) (t', items) b.then in
    let d = bound {B = State × List Item} (placed (slots_in t) c.value.1 t.graph g) (λ d. quad_done t a.value b.value c.value d) (t', items) c.then in
    record {
      subject = λ unset. ap (λ (r : Stepped). (after t r).subject) (sym d.then) ∙ same_term (slots_in t) t.ids t.subject s a.value unset a.was;
      predicate = λ unset. ap (λ (r : Stepped). (after t r).predicate) (sym d.then) ∙ same_term (slots_in t) a.value.1 t.predicate p b.value unset b.was;
      object = λ unset. ap (λ (r : Stepped). (after t r).object) (sym d.then) ∙ same_term (slots_in t) b.value.1 t.object ob c.value unset c.was;
      stated = some_item (Item.Quad a.value.0 b.value.0 c.value.0 d.value.0) items (ap items_in (sym d.then));
    }

pub row_subject : (o : StreamOptions) (r : Row) (t t' : State) (items : List Item) → RepeatsSubject r → row_step o r t ≡ Ok (t', items) → t'.subject ≡ t.subject
row_subject o (Row.Options p) t t' items k e = (options_left o p t t' items e).subject
row_subject o (Row.Entry u id text) t t' items k e = (entry_row_left o u id text t t' items e).subject
row_subject o Row.GraphEnd t t' items k e = (end_left o t t' items e).subject
row_subject o (Row.GraphStart g) t t' items k e = (start_left o g t t' items e).subject
row_subject o (Row.Namespace name i) t t' items k e = (namespace_left o name i t t' items e).subject
row_subject o (Row.Triple s p ob) t t' items k e = (triple_placed o s p ob t t' items e).subject k
row_subject o (Row.Quad s p ob g) t t' items k e = (quad_placed s p ob g t t' items e).subject k

pub row_predicate : (o : StreamOptions) (r : Row) (t t' : State) (items : List Item) → RepeatsPredicate r → row_step o r t ≡ Ok (t', items) → t'.predicate ≡ t.predicate
row_predicate o (Row.Options p) t t' items k e = (options_left o p t t' items e).predicate
row_predicate o (Row.Entry u id text) t t' items k e = (entry_row_left o u id text t t' items e).predicate
row_predicate o Row.GraphEnd t t' items k e = (end_left o t t' items e).predicate
row_predicate o (Row.GraphStart g) t t' items k e = (start_left o g t t' items e).predicate
row_predicate o (Row.Namespace name i) t t' items k e = (namespace_left o name i t t' items e).predicate
row_predicate o (Row.Triple s p ob) t t' items k e = (triple_placed o s p ob t t' items e).predicate k
row_predicate o (Row.Quad s p ob g) t t' items k e = (quad_placed s p ob g t t' items e).predicate k

pub row_object : (o : StreamOptions) (r : Row) (t t' : State) (items : List Item) → RepeatsObject r → row_step o r t ≡ Ok (t', items) → t'.object ≡ t.object
row_object o (Row.Options p) t t' items k e = (options_left o p t t' items e).object
row_object o (Row.Entry u id text) t t' items k e = (entry_row_left o u id text t t' items e).object
row_object o Row.GraphEnd t t' items k e = (end_left o t t' items e).object
row_object o (Row.GraphStart g) t t' items k e = (start_left o g t t' items e).object
row_object o (Row.Namespace name i) t t' items k e = (namespace_left o name i t t' items e).object
row_object o (Row.Triple s p ob) t t' items k e = (triple_placed o s p ob t t' items e).object k
row_object o (Row.Quad s p ob g) t t' items k e = (quad_placed s p ob g t t' items e).object k

pub row_nothing : (o : StreamOptions) (r : Row) (t t' : State) → row_step o r t ≡ Ok (t', []) → Left t t'
row_nothing o (Row.Options p) t t' e = options_left o p t t' [] e
row_nothing o (Row.Entry u id text) t t' e = entry_row_left o u id text t t' [] e
row_nothing o Row.GraphEnd t t' e = end_left o t t' [] e
row_nothing o (Row.GraphStart g) t t' e = start_left o g t t' [] e
row_nothing o (Row.Namespace name i) t t' e = namespace_left o name i t t' [] e
row_nothing o (Row.Triple s p ob) t t' e = absurd ((triple_placed o s p ob t t' [] e).stated refl)
row_nothing o (Row.Quad s p ob g) t t' e = absurd ((quad_placed s p ob g t t' [] e).stated refl)
