-- What a summary is that a small step was composed with.
use Rattle.std.proofs.Common.{◌≡◌, ℕ, ◌+◌, List, [], ◌∷◌, ◌++◌, Option, Some, None, refl, ap, sym, ◌∙◌, append-nil}
use Rattle.jl_base.specs.declared.kind.Kind.{Kind}
use Rattle.jl_base.specs.declared.kind.Kind.TheVariants.{NoTerm, NoGraph, GraphOpen, BadEntry}
use Rattle.jl_base.specs.declared.place.Place.{Place}
use Rattle.jl_rows.specs.declared.row.Table.{Table}
use Rattle.jl_rows.specs.Written.{Ids, Term}
use Rattle.jl_rows.specs.Values.{Position}
use Rattle.jl_sym_laws.specs.RelativeIds.{Id, Refs, following, refs_following, incoming, refs_after, entry_written}
use Rattle.jl_sym_laws.specs.Symbols.{term_following, term_written}
use Rattle.jl_sym_laws.specs.Summaries.{Written, Need, Demand, Kept, Left, Summary, entry_in, left_in}
use Rattle.jl_sym_laws.specs.Composing.{demanded, later_demands, has_left, lacks_left, composed}
use Rattle.jl_sym_laws.specs.SmallSteps.{Small, demand, term_demands, with_entry, with_left, left_by, of_term, of_place, of_small}
use Rattle.jl_sym.specs.Asking.{moved, perhaps, place_demands}
use Rattle.jl_sym.specs.Lays.{set_left, laid}
use Rattle.jl_sym.proofs.Following.{add_zero, following_zero, refs_zero, after_following, term_moved, term_later}

-- a summary with these demands too
abbrev pub asking : Summary → List Demand → Summary
asking m ds = record m { demands = m.demands ++ moved m.rows ds }

module _ (m : Summary) (place : Place) where
  ids_set : (t : Term) → refs_following m.ids (refs_after t incoming) ≡ refs_after t m.ids
  ids_set t = sym (after_following m.ids incoming t) ∙ ap (refs_after t) (refs_zero m.ids)

  demands_set : (t : Term) → later_demands m (term_demands place incoming t) ≡ moved m.rows (term_demands place m.ids t)
  demands_set t = term_later m place incoming t ∙ ap (λ (q : Refs). moved m.rows (term_demands place q t)) (refs_zero m.ids)

  term_set : (t : Term) → term_following m.ids (term_written incoming t) ≡ term_written m.ids t
  term_set t = term_moved m.ids incoming t ∙ ap (λ (q : Refs). term_written q t) (refs_zero m.ids)

  left_set : (t : Term) → Left.Set (record { moment = m.rows + 0; term = term_following m.ids (term_written incoming t) }) ≡ set_left m.rows m.ids t
  left_set t = λ i. Left.Set (record { moment = add_zero m.rows i; term = term_set t i })

  -- the same rows, writes and entries
  quiet : (ds es : List Demand) (r q : Refs) → ds ≡ es → r ≡ q
      → record m { rows = m.rows + 0; writes = m.writes ++ []; name_entry = following m.name_entry (Id.After 0); prefix_entry = following m.prefix_entry (Id.After 0); datatype_entry = following m.datatype_entry (Id.After 0); ids = r; demands = m.demands ++ ds }
      ≡ record m { ids = q; demands = m.demands ++ es }
  quiet ds es r q e h = λ i. record m {
    rows = add_zero m.rows i;
    writes = append-nil m.writes i;
    name_entry = following_zero m.name_entry i;
    prefix_entry = following_zero m.prefix_entry i;
    datatype_entry = following_zero m.datatype_entry i;
    ids = h i;
    demands = m.demands ++ e i;
  }

  composed_set : (x : Position) (t : Term)
      → composed m (with_left x (left_by t) (of_term place t)) ≡ with_left x (set_left m.rows m.ids t) (record (asking m (term_demands place m.ids t)) { ids = refs_after t m.ids })
  composed_set Position.Subject t = λ i. record (quiet _ _ _ _ (demands_set t) (ids_set t) i) { subject = left_set t i }
  composed_set Position.Predicate t = λ i. record (quiet _ _ _ _ (demands_set t) (ids_set t) i) { predicate = left_set t i }
  composed_set Position.Object t = λ i. record (quiet _ _ _ _ (demands_set t) (ids_set t) i) { object = left_set t i }
  composed_set Position.Graph t = λ i. record (quiet _ _ _ _ (demands_set t) (ids_set t) i) { graph = left_set t i }

  perhaps_later : (kind : Kind) (d : Need) (need : Option Need) → demanded m.rows (demand place kind d) need [] ≡ moved m.rows (perhaps place kind need)
  perhaps_later kind d None = refl
  perhaps_later kind d (Some need) = ap (λ (n : ℕ). record { moment = n; fault = _; need = need } ∷ []) (add_zero m.rows)

  composed_unset : (x : Position)
      → composed m (of_place place x Term.Unset) ≡ with_left x (left_in m (Kept.LastAt x)) (asking m (perhaps place NoTerm (has_left (Kept.LastAt x) (left_in m (Kept.LastAt x)))))
  unfolding later_demands
  composed_unset Position.Subject = quiet _ _ _ _ (perhaps_later NoTerm (Need.Has (Kept.LastAt Position.Subject)) (has_left (Kept.LastAt Position.Subject) m.subject)) (refs_zero m.ids)
  composed_unset Position.Predicate = quiet _ _ _ _ (perhaps_later NoTerm (Need.Has (Kept.LastAt Position.Predicate)) (has_left (Kept.LastAt Position.Predicate) m.predicate)) (refs_zero m.ids)
  composed_unset Position.Object = quiet _ _ _ _ (perhaps_later NoTerm (Need.Has (Kept.LastAt Position.Object)) (has_left (Kept.LastAt Position.Object) m.object)) (refs_zero m.ids)
  composed_unset Position.Graph = quiet _ _ _ _ (perhaps_later NoTerm (Need.Has (Kept.LastAt Position.Graph)) (has_left (Kept.LastAt Position.Graph) m.graph)) (refs_zero m.ids)

  pub composed_place : (x : Position) (t : Term)
      → composed m (of_small place (Small.Places x t))
      ≡ with_left x (laid m.rows m.ids t (left_in m (Kept.LastAt x))) (record (asking m (place_demands place (Kept.LastAt x) (left_in m (Kept.LastAt x)) m.ids t)) { ids = refs_after t m.ids })
  composed_place x Term.Unset = composed_unset x
  composed_place x (Term.Iri i) = composed_set x (Term.Iri i)
  composed_place x (Term.Bnode label) = composed_set x (Term.Bnode label)
  composed_place x (Term.Literal lex e) = composed_set x (Term.Literal lex e)
  composed_place x (Term.Nested a b c) = composed_set x (Term.Nested a b c)
  composed_place x Term.Default = composed_set x Term.Default
  composed_place x (Term.Refused kind) = composed_set x (Term.Refused kind)

  pub composed_in_graph : composed m (of_small place Small.IsInGraph) ≡ asking m (perhaps place NoGraph (has_left Kept.OpenGraph m.open_graph))
  unfolding later_demands
  composed_in_graph = quiet _ _ _ _ (perhaps_later NoGraph (Need.Has Kept.OpenGraph) (has_left Kept.OpenGraph m.open_graph)) (refs_zero m.ids)

  pub composed_closes : composed m (of_small place Small.Closes) ≡ record (asking m (perhaps place NoGraph (has_left Kept.OpenGraph m.open_graph))) { open_graph = Left.Cleared }
  unfolding later_demands
  composed_closes = λ i. record (quiet _ _ _ _ (perhaps_later NoGraph (Need.Has Kept.OpenGraph) (has_left Kept.OpenGraph m.open_graph)) (refs_zero m.ids) i) { open_graph = Left.Cleared }

  opens_later : (need : Option Need) (ds es : List Demand) → ds ≡ moved m.rows es → demanded m.rows (demand place GraphOpen (Need.Lacks Kept.OpenGraph)) need ds ≡ moved m.rows (perhaps place GraphOpen need ++ es)
  opens_later None ds es e = e
  opens_later (Some need) ds es e = λ i. record { moment = add_zero m.rows i; fault = record { place = place; kind = GraphOpen }; need = need } ∷ e i

  pub composed_opens : (g : Term)
      → composed m (of_small place (Small.Opens g))
      ≡ record (asking m (perhaps place GraphOpen (lacks_left Kept.OpenGraph m.open_graph) ++ term_demands place m.ids g)) { ids = refs_after g m.ids; open_graph = set_left m.rows m.ids g }
  unfolding later_demands
  composed_opens g = λ i. record (quiet _ _ _ _ (opens_later (lacks_left Kept.OpenGraph m.open_graph) _ _ (demands_set g)) (ids_set g) i) { open_graph = left_set g i }

  pub composed_reads : (i : Ids) → composed m (of_small place (Small.Reads i)) ≡ record (asking m (term_demands place m.ids (Term.Iri i))) { ids = refs_after (Term.Iri i) m.ids }
  composed_reads i = quiet _ _ _ _ (demands_set (Term.Iri i)) (ids_set (Term.Iri i))

  pub composed_ends : composed m (of_small place Small.Ends) ≡ record m { rows = m.rows + 1 }
  unfolding later_demands
  composed_ends = λ i. record m {
    rows = m.rows + 1;
    writes = append-nil m.writes i;
    name_entry = following_zero m.name_entry i;
    prefix_entry = following_zero m.prefix_entry i;
    datatype_entry = following_zero m.datatype_entry i;
    ids = refs_zero m.ids i;
    demands = append-nil m.demands i;
  }

  -- an entry's write
  abbrev pub write_of : Table → Id → List ℕ → Written
  write_of t id text = record { moment = m.rows; table = t; id = id; text = text }

  pub composed_entry : (t : Table) (id : ℕ) (text : List ℕ)
      → composed m (of_small place (Small.Entry t id text))
      ≡ with_entry t (following (entry_in m t) (entry_written id)) (record (asking m (demand place BadEntry (Need.Fits t (following (entry_in m t) (entry_written id))) ∷ [])) {
        rows = m.rows + 1;
        writes = m.writes ++ write_of t (following (entry_in m t) (entry_written id)) text ∷ [];
      })
  unfolding later_demands
  composed_entry Table.Name id text = λ i. record m {
    rows = m.rows + 1;
    writes = m.writes ++ record { moment = add_zero m.rows i; table = Table.Name; id = following m.name_entry (entry_written id); text = text } ∷ [];
    name_entry = following m.name_entry (entry_written id);
    prefix_entry = following_zero m.prefix_entry i;
    datatype_entry = following_zero m.datatype_entry i;
    ids = refs_zero m.ids i;
    demands = m.demands ++ record { moment = add_zero m.rows i; fault = record { place = place; kind = BadEntry }; need = Need.Fits Table.Name (following m.name_entry (entry_written id)) } ∷ [];
  }
  composed_entry Table.Prefix id text = λ i. record m {
    rows = m.rows + 1;
    writes = m.writes ++ record { moment = add_zero m.rows i; table = Table.Prefix; id = following m.prefix_entry (entry_written id); text = text } ∷ [];
    name_entry = following_zero m.name_entry i;
    prefix_entry = following m.prefix_entry (entry_written id);
    datatype_entry = following_zero m.datatype_entry i;
    ids = refs_zero m.ids i;
    demands = m.demands ++ record { moment = add_zero m.rows i; fault = record { place = place; kind = BadEntry }; need = Need.Fits Table.Prefix (following m.prefix_entry (entry_written id)) } ∷ [];
  }
  composed_entry Table.Datatype id text = λ i. record m {
    rows = m.rows + 1;
    writes = m.writes ++ record { moment = add_zero m.rows i; table = Table.Datatype; id = following m.datatype_entry (entry_written id); text = text } ∷ [];
    name_entry = following_zero m.name_entry i;
    prefix_entry = following_zero m.prefix_entry i;
    datatype_entry = following m.datatype_entry (entry_written id);
    ids = refs_zero m.ids i;
    demands = m.demands ++ record { moment = add_zero m.rows i; fault = record { place = place; kind = BadEntry }; need = Need.Fits Table.Datatype (following m.datatype_entry (entry_written id)) } ∷ [];
  }
