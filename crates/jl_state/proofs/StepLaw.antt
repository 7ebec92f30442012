-- One step, for every row.
use Rattle.std.proofs.Common.{◌≡◌, ℕ, zero, suc, ◌+◌, Bool, true, false, not, List, [], ◌∷◌, length, Option, Some, None, is_some, Result, Ok, Err, refl, ap, subst, sym, ◌∙◌, cond, arith, inl, inr, nat_lt, lt-ltb, le-ltb, get_or, replicate}
use Rattle.std.proofs.lemmas.Bool.{cases_lt}
use Rattle.std.proofs.lemmas.List.{length-replicate}
use Rattle.jl_base.specs.Results.{◌>>=◌, refuse_if, some_or}
use Rattle.jl_base.specs.Terms.{Value, Item}
use Rattle.jl_base.specs.declared.kind.Kind.{Kind}
use Rattle.jl_base.specs.declared.kind.Kind.TheVariants.{OptionsDiffer, WrongRow, NoTerm, NoGraph, GraphOpen, EarlyNamespace}
use Rattle.jl_rows.specs.declared.row.Table.{Table}
use Rattle.jl_rows.specs.Written.{Ids, Term, StreamOptions, Row}
use Rattle.jl_rows.specs.History.{History, slot, entry_id, seen_after, seen_in}
use Rattle.jl_rows.specs.Values.{Slots, Position, value, iri_text, slots_of, last_term, open_graph}
use Rattle.jl_rows.specs.Decoder.{size_of, is_same, is_graphs, is_wrong_row, read_under, term_at, graph_around, stated, said_after, meaning}
use Rattle.jl_state.specs.States.{State, table_of, entry_of, term_of, slots_in, opening}
use Rattle.jl_state.specs.Steps.{Stepped, Looked, ids_after, text_at, looked, placed, id_after, graph_for, row_step, step}
use Rattle.jl_state.specs.Stands.{last_ids, Stands, Answers, StepsFollow, OpeningStands}
use Rattle.jl_state.proofs.Guards.{read_kept}
use Rattle.std.proofs.Common.{◌&&◌, ◌==◌}
use Rattle.jl_state.proofs.Looks.{last_ids-cons, looked_is, placed_is, set_or, behind}
use Rattle.jl_state.proofs.Following.{each, each_table, same_slots, quiet_options, after_graph_end, after_graph_start, after_namespace, after_triple, after_quad, entry_id_is, after_entry}

-- a guard on both sides
guarded : (o : StreamOptions) (r : Row) (H : History) (b : Bool) (k : Kind) (x : Stepped) (y : Result (List Item) Kind)
    → Answers o r H x y → Answers o r H (refuse_if b k >>= λ _. x) (refuse_if b k >>= λ _. y)
guarded o r H true k x y h = refl
guarded o r H false k x y h = h

-- A value looked up on both sides: the same fault, or the value, with which both go on.
abbrev pub Goes : {A : Type 0} → StreamOptions → Row → History → Result A Kind → (A → Stepped) → (A → Result (List Item) Kind) → Type 0
Goes o r H v f g = (a : _) → v ≡ Ok a → Answers o r H (f a) (g a)

goes_on : {A : Type 0} (o : StreamOptions) (r : Row) (H : History) (v : Result A Kind) (f : A → Stepped) (g : A → Result (List Item) Kind)
    → ((a : A) → v ≡ Ok a → Answers o r H (f a) (g a)) → Answers o r H (v >>= f) (v >>= g)
goes_on o r H (Ok a) f g h = h a refl
goes_on o r H (Err k) f g h = refl

-- the same, where the step has the value with the last ids behind it
looks_on : (o : StreamOptions) (r : Row) (H : History) (l : Looked) (v : Result Value Kind) (ids : Ids) (f : Value × Ids → Stepped) (g : Value → Result (List Item) Kind)
    → l ≡ behind v ids → ((a : Value) → v ≡ Ok a → Answers o r H (f (a, ids)) (g a)) → Answers o r H (l >>= f) (v >>= g)
looks_on o r H l (Ok a) ids f g e h = subst (λ (x : Looked). Answers o r H (x >>= f) (g a)) (sym e) (h a refl)
looks_on o r H l (Err k) ids f g e h = subst (λ (x : Looked). Answers o r H (x >>= f) (Err k)) (sym e) refl

module _ (o : StreamOptions) (s : State) (H : History) (h : Stands o s H) where
  -- a term that must be set
  look : (t : Term) → looked (slots_in s) s.ids t ≡ behind (value (slots_of H) (seen_in H) t) (last_ids (seen_after t (seen_in H)))
  look t = ap (λ (sl : Slots). looked sl s.ids t) (same_slots h) ∙ ap (λ (i : Ids). looked (slots_of H) i t) h.ids ∙ looked_is (slots_of H) (seen_in H) t

  -- a term at a position, behind these IRIs
  place : (before last : Option Value) (seen : List Ids) (ids : Ids) (t : Term) → before ≡ last → ids ≡ last_ids seen
      → placed (slots_in s) ids before t ≡ behind (set_or last (slots_of H) seen t) (last_ids (seen_after t seen))
  place before last seen ids t e i =
      ap (λ (sl : Slots). placed sl ids before t) (same_slots h) ∙ ap (λ (x : Ids). placed (slots_of H) x before t) i
      ∙ ap (λ (x : Option Value). placed (slots_of H) (last_ids seen) x t) e ∙ placed_is (slots_of H) seen last t

  graph_is : graph_for o s ≡ graph_around o H
  graph_is = ap (λ (g : Option Value). cond (is_graphs o) (some_or g NoGraph >>= λ x. Ok (Some x)) (Ok None)) h.graph

  options_step : (p : StreamOptions) → Answers o (Row.Options p) H (row_step o (Row.Options p) s) (said_after o (Row.Options p) H)
  options_step p = guarded o (Row.Options p) H (not (is_same o p)) OptionsDiffer (Ok (s, [])) (Ok []) (refl, quiet_options o s H h p)

  graph_end_is : Answers o Row.GraphEnd H (row_step o Row.GraphEnd s) (said_after o Row.GraphEnd H)
  graph_end_is = subst (λ (g : Option Value). Answers o Row.GraphEnd H (some_or g NoGraph >>= λ _. Ok (record s { open_graph = None }, [])) (said_after o Row.GraphEnd H)) (sym h.graph)
      (goes_on o Row.GraphEnd H (some_or (open_graph H) NoGraph) _ _ (λ a e. (refl, after_graph_end o s H h)))

  graph_start_is : (g : Term) → Answers o (Row.GraphStart g) H (row_step o (Row.GraphStart g) s) (said_after o (Row.GraphStart g) H)
  graph_start_is g =
      let rest : Answers o (Row.GraphStart g) H (looked (slots_in s) s.ids g >>= λ v. Ok (record s { ids = v.1; open_graph = Some v.0 }, [])) (value (slots_of H) (seen_in H) g >>= λ _. Ok [])
      = looks_on o (Row.GraphStart g) H _ (value (slots_of H) (seen_in H) g) _ _ _ (look g) (λ a e. (refl, after_graph_start o s H h g a e)) in
      subst (λ (b : Option Value). Answers o (Row.GraphStart g) H (refuse_if (is_some b) GraphOpen >>= λ _. looked (slots_in s) s.ids g >>= λ v. Ok (record s { ids = v.1; open_graph = Some v.0 }, [])) (said_after o (Row.GraphStart g) H)) (sym h.graph)
      (guarded o (Row.GraphStart g) H (is_some (open_graph H)) GraphOpen _ _ rest)

  namespace_is : (name : List ℕ) (i : Option Ids) → Answers o (Row.Namespace name i) H (row_step o (Row.Namespace name i) s) (said_after o (Row.Namespace name i) H)
  namespace_is name None = guarded o (Row.Namespace name None) H (o.strict && (o.version == 1)) EarlyNamespace (Err NoTerm) (Err NoTerm) refl
  namespace_is name (Some i) =
      let same : text_at (slots_in s) (ids_after i s.ids) ≡ iri_text (slots_of H) (i ∷ seen_in H)
      = ap (λ (sl : Slots). text_at sl (ids_after i s.ids)) (same_slots h) ∙ ap (λ (x : Ids). text_at (slots_of H) x) (ap (ids_after i) h.ids ∙ sym (last_ids-cons i (seen_in H))) in
      let said : Result (List Item) Kind = iri_text (slots_of H) (i ∷ seen_in H) >>= λ iri. Ok (Item.Namespace name iri ∷ []) in
      let after : Result (List ℕ) Kind → Stepped = λ x. (x >>= λ iri. Ok (record s { ids = ids_after i s.ids }, Item.Namespace name iri ∷ [])) in
      guarded o (Row.Namespace name (Some i)) H (o.strict && (o.version == 1)) EarlyNamespace (after (text_at (slots_in s) (ids_after i s.ids))) said
      (subst (λ (x : Result (List ℕ) Kind). Answers o (Row.Namespace name (Some i)) H (after x) said) (sym same)
      (goes_on o (Row.Namespace name (Some i)) H (iri_text (slots_of H) (i ∷ seen_in H)) _ _ (λ t e. (refl, after_namespace o s H h name i))))

  entry_is : (t : Table) (id : ℕ) (text : List ℕ) → Answers o (Row.Entry t id text) H (row_step o (Row.Entry t id text) s) (said_after o (Row.Entry t id text) H)
  entry_is t id text = elim (cases_lt (id_after id (entry_of s t)) (length (table_of s t))) [
    | inl fits ↦
        let fits' : nat_lt (size_of o t) (entry_id t (Row.Entry t id text ∷ H)) ≡ false = le-ltb _ _ (omega (arith, fits, entry_id_is o s H h t id text, h.sizes t)) in
        let there : nat_lt (id_after id (entry_of s t)) (length (table_of s t)) ≡ true = lt-ltb _ _ fits in
        rw (there, fits') (refl, after_entry o s H h t id text fits)
    | inr over ↦
        let over' : nat_lt (size_of o t) (entry_id t (Row.Entry t id text ∷ H)) ≡ true = lt-ltb _ _ (omega (arith, over, entry_id_is o s H h t id text, h.sizes t)) in
        let there : nat_lt (id_after id (entry_of s t)) (length (table_of s t)) ≡ false = le-ltb _ _ over in
        rw (there, over') refl
  ]

  triple_is : (x y z : Term) → Answers o (Row.Triple x y z) H (row_step o (Row.Triple x y z) s) (said_after o (Row.Triple x y z) H)
  triple_is x y z =
      let r = Row.Triple x y z in
      let one = seen_after x (seen_in H) in
      let two = seen_after y one in
      let three = seen_after z two in
      let rest : (g : Option Value) → Answers o r H
      (placed (slots_in s) s.ids s.subject x >>= λ a. placed (slots_in s) a.1 s.predicate y >>= λ b. placed (slots_in s) b.1 s.object z >>= λ c.
      Ok (record s { ids = c.1; subject = Some a.0; predicate = Some b.0; object = Some c.0 }, stated g a.0 b.0 c.0 ∷ []))
      (term_at Position.Subject r H >>= λ a. term_at Position.Predicate r H >>= λ b. term_at Position.Object r H >>= λ c. Ok (stated g a b c ∷ []))
      = λ g.
      looks_on o r H _ (term_at Position.Subject r H) (last_ids one) _ _ (place s.subject (last_term Position.Subject H) (seen_in H) s.ids x (h.terms Position.Subject) h.ids) (λ a p.
      looks_on o r H _ (term_at Position.Predicate r H) (last_ids two) _ _ (place s.predicate (last_term Position.Predicate H) one (last_ids one) y (h.terms Position.Predicate) refl) (λ b q.
      looks_on o r H _ (term_at Position.Object r H) (last_ids three) _ _ (place s.object (last_term Position.Object H) two (last_ids two) z (h.terms Position.Object) refl) (λ c t.
      (refl, after_triple o s H h x y z a b c p q t)))) in
      subst (λ (v : Result (Option Value) Kind). Answers o r H
      (v >>= λ g. placed (slots_in s) s.ids s.subject x >>= λ a. placed (slots_in s) a.1 s.predicate y >>= λ b. placed (slots_in s) b.1 s.object z >>= λ c.
      Ok (record s { ids = c.1; subject = Some a.0; predicate = Some b.0; object = Some c.0 }, stated g a.0 b.0 c.0 ∷ []))
      (said_after o r H)) (sym graph_is)
      (goes_on o r H (graph_around o H) _ _ (λ g e. rest g))

  quad_is : (x y z w : Term) → Answers o (Row.Quad x y z w) H (row_step o (Row.Quad x y z w) s) (said_after o (Row.Quad x y z w) H)
  quad_is x y z w =
      let r = Row.Quad x y z w in
      let one = seen_after x (seen_in H) in
      let two = seen_after y one in
      let three = seen_after z two in
      let four = seen_after w three in
      looks_on o r H _ (term_at Position.Subject r H) (last_ids one) _ _ (place s.subject (last_term Position.Subject H) (seen_in H) s.ids x (h.terms Position.Subject) h.ids) (λ a p.
      looks_on o r H _ (term_at Position.Predicate r H) (last_ids two) _ _ (place s.predicate (last_term Position.Predicate H) one (last_ids one) y (h.terms Position.Predicate) refl) (λ b q.
      looks_on o r H _ (term_at Position.Object r H) (last_ids three) _ _ (place s.object (last_term Position.Object H) two (last_ids two) z (h.terms Position.Object) refl) (λ c t.
      looks_on o r H _ (term_at Position.Graph r H) (last_ids four) _ _ (place s.graph (last_term Position.Graph H) three (last_ids three) w (h.terms Position.Graph) refl) (λ d u.
      (refl, after_quad o s H h x y z w a b c d p q t u)))))

  row_is : (r : Row) → Answers o r H (row_step o r s) (said_after o r H)
  row_is (Row.Options p) = options_step p
  row_is (Row.Entry t id text) = entry_is t id text
  row_is Row.GraphEnd = graph_end_is
  row_is (Row.GraphStart g) = graph_start_is g
  row_is (Row.Namespace name i) = namespace_is name i
  row_is (Row.Triple x y z) = triple_is x y z
  row_is (Row.Quad x y z w) = quad_is x y z w

  -- the same with a row that was read as another, which it is where it has no fault
  answers_as : (r r' : Row) (x : Stepped) (y : Result (List Item) Kind) → ((a : List Item) → y ≡ Ok a → r' ≡ r) → Answers o r' H x y → Answers o r H x y
  answers_as r r' (Ok next) y same h = (h.0, subst (λ (q : Row). Stands o next.0 (q ∷ H)) (same next.1 h.0) h.1)
  answers_as r r' (Err k) y same h = h

  pub step_is : (r : Row) → Answers o r H (step o r s) (meaning o r H)
  step_is r = guarded o r H (is_wrong_row o r) WrongRow (row_step o (read_under o r) s) (said_after o (read_under o r) H) (answers_as r (read_under o r) (row_step o (read_under o r) s) (said_after o (read_under o r) H) (read_kept o r H) (row_is (read_under o r)))

pub steps_follow : StepsFollow
steps_follow o s H r h = step_is o s H h r

-- a slot of a table that holds nothing
empty_slot : (n id : ℕ) → get_or (replicate {A = Option (List ℕ)} n None) id None ≡ None
empty_slot zero id = refl
empty_slot (suc n) zero = refl
empty_slot (suc n) (suc id) = empty_slot n id

pub opening_stands : OpeningStands
unfolding slot seen_in last_term open_graph
opening_stands o = record {
  sizes = each_table (λ t. length (table_of (opening o) t) ≡ size_of o t + 1) (length-replicate _ None) (length-replicate _ None) (length-replicate _ None);
  slots = each_table (λ t. (id : ℕ) → slots_in (opening o) t id ≡ slot t id []) (empty_slot (o.names + 1)) (empty_slot (o.prefixes + 1)) (empty_slot (o.datatypes + 1));
  entries = each_table (λ t. entry_of (opening o) t ≡ entry_id t []) refl refl refl;
  ids = refl;
  terms = each (λ x. term_of (opening o) x ≡ last_term x []) refl refl refl refl;
  graph = refl;
}
