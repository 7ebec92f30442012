-- A step from a state that stands for a history follows the definitions.
use Rattle.std.proofs.Common.{◌≡◌, ℕ, ◌+◌, ◌<◌, ◌==◌, Bool, true, false, List, ◌∷◌, length, Option, Some, None, Result, Ok, refl, ap, sym, ◌∙◌, cond, get_or, set, get_or-set_same, get_or-set_other, ◌≢◌, inl, inr, eq-eqb}
use Rattle.std.proofs.lemmas.List.{length-set}
use Rattle.std.proofs.lemmas.Bool.{cases_eq, ne_eqb}
use Rattle.std.specs.Option.{option_or}
use Rattle.jl_base.specs.Results.{some_or, answered}
use Rattle.jl_base.specs.Terms.{Value}
use Rattle.jl_base.specs.declared.kind.Kind.{Kind}
use Rattle.jl_base.specs.declared.kind.Kind.TheVariants.{NoTerm}
use Rattle.jl_rows.specs.declared.row.Table.{Table}
use Rattle.jl_rows.specs.Written.{Ids, Term, StreamOptions, Row}
use Rattle.jl_rows.specs.History.{History, slot, entry_id, ids_written, seen_after, seen_in}
use Rattle.jl_rows.specs.Values.{Position, value, slots_of, last_term, open_graph, is_unset}
use Rattle.jl_rows.specs.Decoder.{size_of, term_at}
use Rattle.jl_state.specs.States.{State, Filling, table_of, entry_of, term_of, slots_in}
use Rattle.jl_state.specs.Steps.{ids_after, id_after, entered}
use Rattle.jl_state.specs.Stands.{last_ids, Stands}
use Rattle.jl_state.proofs.Looks.{counted-cons, last_ids-cons}

-- the slots of a state that stands for a history are the history's
pub same_slots : {o : StreamOptions} {s : State} {H : History} → Stands o s H → slots_in s ≡ slots_of H
same_slots h = λ i t id. h.slots t id i

-- a term that was answered is the last one from then on
answered_term : (u : Bool) (b : Option Value) (v : Result Value Kind) (a : Value) → cond u (some_or b NoTerm) v ≡ Ok a → Some a ≡ cond u b (answered v)
answered_term true (Some x) v a e = ap answered (sym e)
answered_term true None v a e = cc
answered_term false b v a e = ap answered (sym e)

-- what holds at each position
pub each : (P : Position → Type 0) → P Position.Subject → P Position.Predicate → P Position.Object → P Position.Graph → (x : Position) → P x
each P a b c d Position.Subject = a
each P a b c d Position.Predicate = b
each P a b c d Position.Object = c
each P a b c d Position.Graph = d

-- what holds of each table
pub each_table : (P : Table → Type 0) → P Table.Name → P Table.Prefix → P Table.Datatype → (t : Table) → P t
each_table P a b c Table.Name = a
each_table P a b c Table.Prefix = b
each_table P a b c Table.Datatype = c

-- A row that sets no term and reads no IRI.
module _ (o : StreamOptions) (s : State) (H : History) (h : Stands o s H) where
  pub quiet_options : (p : StreamOptions) → Stands o s (Row.Options p ∷ H)
  unfolding slot seen_in last_term open_graph
  quiet_options p = record {
    sizes = h.sizes;
    slots = h.slots;
    entries = h.entries;
    ids = h.ids;
    terms = each (λ x. term_of s x ≡ last_term x (Row.Options p ∷ H)) (h.terms Position.Subject) (h.terms Position.Predicate) (h.terms Position.Object) (h.terms Position.Graph);
    graph = h.graph;
  }

  pub after_graph_end : Stands o (record s { open_graph = None }) (Row.GraphEnd ∷ H)
  unfolding slot seen_in last_term open_graph
  after_graph_end = record {
    sizes = h.sizes;
    slots = h.slots;
    entries = h.entries;
    ids = h.ids;
    terms = each (λ x. term_of s x ≡ last_term x (Row.GraphEnd ∷ H)) (h.terms Position.Subject) (h.terms Position.Predicate) (h.terms Position.Object) (h.terms Position.Graph);
    graph = refl;
  }

  pub after_graph_start : (g : Term) (v : Value) → value (slots_of H) (seen_in H) g ≡ Ok v → Stands o (record s { ids = last_ids (seen_after g (seen_in H)); open_graph = Some v }) (Row.GraphStart g ∷ H)
  unfolding slot seen_in last_term open_graph
  after_graph_start g v e = record {
    sizes = h.sizes;
    slots = h.slots;
    entries = h.entries;
    ids = refl;
    terms = each (λ x. term_of s x ≡ last_term x (Row.GraphStart g ∷ H)) (h.terms Position.Subject) (h.terms Position.Predicate) (h.terms Position.Object) (h.terms Position.Graph);
    graph = ap answered (sym e);
  }

  pub after_namespace : (name : List ℕ) (i : Ids) → Stands o (record s { ids = ids_after i s.ids }) (Row.Namespace name (Some i) ∷ H)
  unfolding slot seen_in last_term open_graph
  after_namespace name i = record {
    sizes = h.sizes;
    slots = h.slots;
    entries = h.entries;
    ids = ap (ids_after i) h.ids ∙ sym (last_ids-cons i (seen_in H));
    terms = each (λ x. term_of s x ≡ last_term x (Row.Namespace name (Some i) ∷ H)) (h.terms Position.Subject) (h.terms Position.Predicate) (h.terms Position.Object) (h.terms Position.Graph);
    graph = h.graph;
  }

  pub after_triple : (x y z : Term) (a b c : Value) → term_at Position.Subject (Row.Triple x y z) H ≡ Ok a → term_at Position.Predicate (Row.Triple x y z) H ≡ Ok b → term_at Position.Object (Row.Triple x y z) H ≡ Ok c
      → Stands o (record s { ids = last_ids (seen_after z (seen_after y (seen_after x (seen_in H)))); subject = Some a; predicate = Some b; object = Some c }) (Row.Triple x y z ∷ H)
  unfolding slot seen_in last_term open_graph
  after_triple x y z a b c p q r = record {
    sizes = h.sizes;
    slots = h.slots;
    entries = h.entries;
    ids = refl;
    terms = each (λ k. term_of (record s { ids = last_ids (seen_after z (seen_after y (seen_after x (seen_in H)))); subject = Some a; predicate = Some b; object = Some c }) k ≡ last_term k (Row.Triple x y z ∷ H))
        (answered_term (is_unset x) (last_term Position.Subject H) _ a p) (answered_term (is_unset y) (last_term Position.Predicate H) _ b q) (answered_term (is_unset z) (last_term Position.Object H) _ c r) (h.terms Position.Graph);
    graph = h.graph;
  }

  pub after_quad : (x y z w : Term) (a b c d : Value) → term_at Position.Subject (Row.Quad x y z w) H ≡ Ok a → term_at Position.Predicate (Row.Quad x y z w) H ≡ Ok b → term_at Position.Object (Row.Quad x y z w) H ≡ Ok c → term_at Position.Graph (Row.Quad x y z w) H ≡ Ok d
      → Stands o (record s { ids = last_ids (seen_after w (seen_after z (seen_after y (seen_after x (seen_in H))))); subject = Some a; predicate = Some b; object = Some c; graph = Some d }) (Row.Quad x y z w ∷ H)
  unfolding slot seen_in last_term open_graph
  after_quad x y z w a b c d p q r t = record {
    sizes = h.sizes;
    slots = h.slots;
    entries = h.entries;
    ids = refl;
    terms = each (λ k. term_of (record s { ids = last_ids (seen_after w (seen_after z (seen_after y (seen_after x (seen_in H))))); subject = Some a; predicate = Some b; object = Some c; graph = Some d }) k ≡ last_term k (Row.Quad x y z w ∷ H))
        (answered_term (is_unset x) (last_term Position.Subject H) _ a p) (answered_term (is_unset y) (last_term Position.Predicate H) _ b q) (answered_term (is_unset z) (last_term Position.Object H) _ c r) (answered_term (is_unset w) (last_term Position.Graph H) _ d t);
    graph = h.graph;
  }

-- a slot once its table has one more entry
slot_entered : (xs : Filling) (m n id : ℕ) (text : List ℕ) (before : Option (List ℕ)) → m ≡ n → n < length xs → get_or xs id None ≡ before
    → get_or (set xs n (Some text)) id None ≡ option_or (cond (m == id) (Some text) None) before
slot_entered xs m n id text before same fits was = elim (cases_eq m id) [
  | inl e ↦ let at : id ≡ n = cc in rw (eq-eqb m id e) (rw at (get_or-set_same xs n (Some text) None fits))
  | inr ne ↦ let other : id ≢ n = λ k. ne (same ∙ sym k) in rw (ne_eqb m id ne) (get_or-set_other xs n id (Some text) None other ∙ was)
]

module _ (o : StreamOptions) (s : State) (H : History) (h : Stands o s H) where
  -- the id that an entry gets
  pub entry_id_is : (t : Table) (id : ℕ) (text : List ℕ) → entry_id t (Row.Entry t id text ∷ H) ≡ id_after id (entry_of s t)
  entry_id_is Table.Name id text = counted-cons id (ids_written Table.Name H) ∙ ap (id_after id) (sym (h.entries Table.Name))
  entry_id_is Table.Prefix id text = counted-cons id (ids_written Table.Prefix H) ∙ ap (id_after id) (sym (h.entries Table.Prefix))
  entry_id_is Table.Datatype id text = counted-cons id (ids_written Table.Datatype H) ∙ ap (id_after id) (sym (h.entries Table.Datatype))

  pub after_entry : (t : Table) (id : ℕ) (text : List ℕ) → id_after id (entry_of s t) < length (table_of s t) → Stands o (entered t (id_after id (entry_of s t)) text s) (Row.Entry t id text ∷ H)
  unfolding slot seen_in last_term open_graph
  after_entry Table.Name id text fits = record {
    sizes = each_table (λ t. length (table_of (entered Table.Name (id_after id s.name_entry) text s) t) ≡ size_of o t + 1)
        (length-set s.tables.names (id_after id s.name_entry) (Some text) ∙ h.sizes Table.Name) (h.sizes Table.Prefix) (h.sizes Table.Datatype);
    slots = each_table (λ t. (n : ℕ) → slots_in (entered Table.Name (id_after id s.name_entry) text s) t n ≡ slot t n (Row.Entry Table.Name id text ∷ H))
        (λ n. slot_entered s.tables.names _ _ n text _ (entry_id_is Table.Name id text) fits (h.slots Table.Name n)) (h.slots Table.Prefix) (h.slots Table.Datatype);
    entries = each_table (λ t. entry_of (entered Table.Name (id_after id s.name_entry) text s) t ≡ entry_id t (Row.Entry Table.Name id text ∷ H))
        (sym (entry_id_is Table.Name id text)) (h.entries Table.Prefix) (h.entries Table.Datatype);
    ids = h.ids;
    terms = each (λ x. term_of s x ≡ last_term x (Row.Entry Table.Name id text ∷ H)) (h.terms Position.Subject) (h.terms Position.Predicate) (h.terms Position.Object) (h.terms Position.Graph);
    graph = h.graph;
  }
  after_entry Table.Prefix id text fits = record {
    sizes = each_table (λ t. length (table_of (entered Table.Prefix (id_after id s.prefix_entry) text s) t) ≡ size_of o t + 1)
        (h.sizes Table.Name) (length-set s.tables.prefixes (id_after id s.prefix_entry) (Some text) ∙ h.sizes Table.Prefix) (h.sizes Table.Datatype);
    slots = each_table (λ t. (n : ℕ) → slots_in (entered Table.Prefix (id_after id s.prefix_entry) text s) t n ≡ slot t n (Row.Entry Table.Prefix id text ∷ H))
        (h.slots Table.Name) (λ n. slot_entered s.tables.prefixes _ _ n text _ (entry_id_is Table.Prefix id text) fits (h.slots Table.Prefix n)) (h.slots Table.Datatype);
    entries = each_table (λ t. entry_of (entered Table.Prefix (id_after id s.prefix_entry) text s) t ≡ entry_id t (Row.Entry Table.Prefix id text ∷ H))
        (h.entries Table.Name) (sym (entry_id_is Table.Prefix id text)) (h.entries Table.Datatype);
    ids = h.ids;
    terms = each (λ x. term_of s x ≡ last_term x (Row.Entry Table.Prefix id text ∷ H)) (h.terms Position.Subject) (h.terms Position.Predicate) (h.terms Position.Object) (h.terms Position.Graph);
    graph = h.graph;
  }
  after_entry Table.Datatype id text fits = record {
    sizes = each_table (λ t. length (table_of (entered Table.Datatype (id_after id s.datatype_entry) text s) t) ≡ size_of o t + 1)
        (h.sizes Table.Name) (h.sizes Table.Prefix) (length-set s.tables.datatypes (id_after id s.datatype_entry) (Some text) ∙ h.sizes Table.Datatype);
    slots = each_table (λ t. (n : ℕ) → slots_in (entered Table.Datatype (id_after id s.datatype_entry) text s) t n ≡ slot t n (Row.Entry Table.Datatype id text ∷ H))
        (h.slots Table.Name) (h.slots Table.Prefix) (λ n. slot_entered s.tables.datatypes _ _ n text _ (entry_id_is Table.Datatype id text) fits (h.slots Table.Datatype n));
    entries = each_table (λ t. entry_of (entered Table.Datatype (id_after id s.datatype_entry) text s) t ≡ entry_id t (Row.Entry Table.Datatype id text ∷ H))
        (h.entries Table.Name) (h.entries Table.Prefix) (sym (entry_id_is Table.Datatype id text));
    ids = h.ids;
    terms = each (λ x. term_of s x ≡ last_term x (Row.Entry Table.Datatype id text ∷ H)) (h.terms Position.Subject) (h.terms Position.Predicate) (h.terms Position.Object) (h.terms Position.Graph);
    graph = h.graph;
  }
