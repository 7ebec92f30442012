-- An entry in a summary.
use Rattle.std.proofs.Common.{◌≡◌, ◌⊎◌, ℕ, ◌+◌, ◌<◌, ◌≤◌, ◌==◌, Bool, true, false, List, [], ◌∷◌, ◌++◌, map, Result, Ok, Err, refl, ap, sym, ◌∙◌, subst, cond, arith, nat_lt, nat_le}
use Rattle.std.proofs.Common.{Vec, Global}
use Rattle.std.proofs.lemmas.Bool.{eqb-false, and_parts, leb-true}
use Rattle.jl_base.specs.Results.{◌>>=◌}
use Rattle.jl_base.specs.declared.kind.Kind.{Kind}
use Rattle.jl_base.specs.declared.kind.Kind.TheVariants.{BadEntry}
use Rattle.jl_base.specs.declared.place.Place.{Place}
use Rattle.jl_rows.specs.declared.row.Table.{Table}
use Rattle.jl_rows.specs.Written.{StreamOptions, Row}
use Rattle.jl_rows.specs.Decoder.{size_of, most_entries}
use Rattle.jl_rows.specs.Heads.{ArePassed}
use Rattle.jl_rows.specs.Seen.{options_seen}
use Rattle.jl_rows.specs.declared.options.Options.{Options}
use Rattle.jl_base.specs.Spans.{text_of}
use Rattle.jl_base.specs.declared.place.Span.{Span}
use Rattle.jl_state.specs.declared.extent.Extent.{Extent}
use Rattle.jl_state.specs.Extents.{text_in, IsFilled, IsSound}
use Rattle.jl_state.specs.States.{State}
use Rattle.jl_state.specs.Steps.{step}
use Rattle.jl_state.specs.declared.stop.Stop.TheVariants as stops
use Rattle.jl_sym_laws.specs.RelativeIds.{Id, following, entry_written}
use Rattle.jl_sym_laws.specs.Summaries.{Written, Need, Demand, Summary, entry_in}
use Rattle.jl_sym_laws.specs.Acting.{unmet}
use Rattle.jl_sym_laws.specs.Composing.{AreBefore}
use Rattle.jl_sym_laws.specs.SmallSteps.{Small, demand, small_step, with_entry}
use Rattle.jl_sym_laws.specs.Cutting.{IsNext, AreMadeWrites, IsMade, is_id_in}
use Rattle.jl_state.specs.Running.{state_of}
use Rattle.jl_sym_laws.proofs.RowLaws.{all_steps}
use Rattle.jl_sym.specs.declared.relative_id.RelativeId.{RelativeId}
use Rattle.jl_sym.specs.declared.relative_id.RelativeId.TheVariants as relatives
use Rattle.jl_sym.specs.declared.growing.Growing.{Growing}
use Rattle.jl_sym.specs.declared.summary.Write.{Write}
use Rattle.jl_sym.specs.declared.demand.Demand as code_demand
use Rattle.jl_sym.specs.declared.marks.Marks.{Marks}
use Rattle.jl_sym.specs.Seen.{id_seen, write_seen, demands_seen, growing_seen, IsSmall}
use Rattle.jl_sym.specs.Held.{AreTexts}
use Rattle.jl_sym.specs.Growth.{IsFit, last_entry, with_last_entry}
use Rattle.jl_sym.specs.Earlier.{earlier_in}
use Rattle.jl_sym.specs.Marking.{is_marked, AreGood, AreMarked, AreAsked, IsSlotOf}
use Rattle.jl_sym.specs.Asking.{moved, AreOfRun, Asks, Grows}
use Rattle.jl_state.specs.declared.stop.Stop.{Stop}
use Rattle.jl_sym.proofs.MarkLemmas.{marked_write}
use Rattle.jl_sym.proofs.Composed.{composed_entry}
use Rattle.jl_sym.proofs.RowSteps.{steps_as, by_same}
use Rattle.jl_sym.proofs.GrowLemmas.{grow_ok, grow_err, timed_more}

above_zero : (n : ℕ) → (n == 0) ≡ false → 0 < n
above_zero n e = let not_zero : n ≡ 0 → ⊥ = eqb-false n 0 e in omega (arith, not_zero)

next_by : (a : Id) (b : Bool) (n : ℕ) → (n == 0) ≡ b → IsNext (following a (cond b (Id.After 1) (Id.Given n)))
next_by (Id.Given m) true n e = omega arith
next_by (Id.After m) true n e = omega arith
next_by a false n e = above_zero n e

pub entry_next : (a : Id) (n : ℕ) → IsNext (following a (entry_written n))
entry_next a n = next_by a (n == 0) n refl

writes_push : (n rows : ℕ) (ws : List Written) (w : Written) → n ≤ rows → w.moment ≡ rows → IsNext w.id → AreMadeWrites n ws → AreBefore rows ws → AreMadeWrites n (ws ++ w ∷ [])
writes_push n rows [] w le e next h b = let first : n ≤ w.moment = omega (arith, le, e) in (first, next, tt)
writes_push n rows (v ∷ ws) w le e next h b = let early = b.0 in let later : v.moment ≤ rows = omega (arith, early) in (h.0, h.1, writes_push v.moment rows ws w later e next h.2 b.1)

before_push : (rows : ℕ) (ws : List Written) (w : Written) → w.moment ≡ rows → AreBefore rows ws → AreBefore (rows + 1) (ws ++ w ∷ [])
before_push rows [] w e b = let here : w.moment < rows + 1 = omega (arith, e) in (here, tt)
before_push rows (v ∷ ws) w e b = let early = b.0 in let here : v.moment < rows + 1 = omega (arith, early) in (here, before_push rows ws w e b.1)

module _ (o : StreamOptions) (m : Summary) (place : Place) (t : Table) (n : ℕ) (text : List ℕ) (made : IsMade m) where
  abbrev pub id : Id
  id = following (entry_in m t) (entry_written n)

  abbrev pub written : List Written
  written = m.writes ++ record { moment = m.rows; table = t; id = id; text = text } ∷ []

  abbrev pub fits : Demand
  fits = demand place BadEntry (Need.Fits t id)

  abbrev pub with_it : List Demand → Summary
  with_it ds = with_entry t id (record m { rows = m.rows + 1; writes = written; demands = ds })

  of_written : AreOfRun (earlier_in m) written
  of_written =
      let start : 0 ≤ m.rows = omega arith in
      record { made = writes_push 0 m.rows m.writes _ start refl (entry_next (entry_in m t) n) made.writes made.timed.writes; before = before_push m.rows m.writes _ refl made.timed.writes; begin = (_, refl) }

  entry_writes : (ds : List Demand) → (with_it ds).writes ≡ written
  entry_writes ds = by t
    where
      by : (u : Table) → (with_entry u id (record m { rows = m.rows + 1; writes = written; demands = ds })).writes ≡ written
      by Table.Name = refl
      by Table.Prefix = refl
      by Table.Datatype = refl

  entry_demands : (ds : List Demand) → (with_it ds).demands ≡ ds
  entry_demands ds = by t
    where
      by : (u : Table) → (with_entry u id (record m { rows = m.rows + 1; writes = written; demands = ds })).demands ≡ ds
      by Table.Name = refl
      by Table.Prefix = refl
      by Table.Datatype = refl

  entry_with : (ds es : List Demand) → record (with_it ds) { demands = es } ≡ with_it es
  entry_with ds es = by t
    where
      by : (u : Table) → record (with_entry u id (record m { rows = m.rows + 1; writes = written; demands = ds })) { demands = es } ≡ with_entry u id (record m { rows = m.rows + 1; writes = written; demands = es })
      by Table.Name = refl
      by Table.Prefix = refl
      by Table.Datatype = refl

  abbrev pub asked : List Demand
  asked = m.demands ++ moved m.rows (fits ∷ [])

  in_written : (s : State) (ds : List Demand) → unmet s written ds ≡ unmet s written asked → unmet s (with_it asked).writes ds ≡ unmet s (with_it asked).writes (with_it asked).demands
  in_written s ds e =
      ap (λ (ws : List Written). unmet s ws ds) (entry_writes asked) ∙ e
      ∙ sym (ap (λ (ws : List Written). unmet s ws (with_it asked).demands) (entry_writes asked) ∙ ap (unmet s written) (entry_demands asked))

  pub entry_grows : (ds : List Demand) → Asks o (earlier_in m) place m.demands (fits ∷ []) ds (Ok tt) → Grows o place (small_step (Small.Entry t n text)) m (with_it ds) (Ok tt)
  entry_grows ds asks =
      subst (λ (x : Summary). Grows o place (small_step (Small.Entry t n text)) m x (Ok tt)) (entry_with asked ds)
      (grow_ok o m place (Small.Entry t n text) made (with_it asked) ds (composed_entry m place t n text) (λ s sized. in_written s ds (asks s written sized of_written)))

  pub entry_stopped : (ds : List Demand) (stop : Stop) → AreGood m.rows ds → Asks o (earlier_in m) place m.demands (fits ∷ []) ds (Err stop) → Grows o place (small_step (Small.Entry t n text)) m (record m { demands = ds }) (Err stop)
  entry_stopped ds (stops.Fault kind) good asks =
      grow_err o m place (Small.Entry t n text) made (with_it asked) (record m { demands = ds }) kind (composed_entry m place t n text) refl good.within
      (λ s sized. in_written s _ (asks s written sized of_written))
  entry_stopped ds stops.NoMemory good asks = tt

  pub entry_made : (ds : List Demand) → AreGood m.rows ds → IsMade (with_it ds)
  entry_made ds good = by t
    where
      more : IsMade (record m { rows = m.rows + 1; writes = written; demands = ds })
      more =
          let longer = timed_more (record m { demands = ds }) (record { writes = made.timed.writes; demands = good.within; subject = made.timed.subject; predicate = made.timed.predicate; object = made.timed.object; graph = made.timed.graph; open_graph = made.timed.open_graph }) in
          record {
            timed = record { writes = of_written.before; demands = longer.demands; subject = longer.subject; predicate = longer.predicate; object = longer.object; graph = longer.graph; open_graph = longer.open_graph };
            writes = of_written.made;
            demands = good.made;
            prefix = made.prefix;
          }

      by : (u : Table) → IsMade (with_entry u id (record m { rows = m.rows + 1; writes = written; demands = ds }))
      by Table.Name = record { timed = record { writes = more.timed.writes; demands = more.timed.demands; subject = more.timed.subject; predicate = more.timed.predicate; object = more.timed.object; graph = more.timed.graph; open_graph = more.timed.open_graph }; writes = more.writes; demands = more.demands; prefix = more.prefix }
      by Table.Prefix = record { timed = record { writes = more.timed.writes; demands = more.timed.demands; subject = more.timed.subject; predicate = more.timed.predicate; object = more.timed.object; graph = more.timed.graph; open_graph = more.timed.open_graph }; writes = more.writes; demands = more.demands; prefix = more.prefix }
      by Table.Datatype = record { timed = record { writes = more.timed.writes; demands = more.timed.demands; subject = more.timed.subject; predicate = more.timed.predicate; object = more.timed.object; graph = more.timed.graph; open_graph = more.timed.open_graph }; writes = more.writes; demands = more.demands; prefix = more.prefix }

pub texts_push : (bytes : List ℕ) (ws : List Write) (w : Write) → AreTexts bytes ws → IsSound bytes w.text → IsFilled w.text → AreTexts bytes (ws ++ w ∷ [])
texts_push bytes [] w all sound filled = (sound, filled, tt)
texts_push bytes (v ∷ ws) w all sound filled = (all.0, all.1, texts_push bytes ws w all.2 sound filled)

-- the code's summary with an entry
pub entry_seen : (bytes : List ℕ) (m : Growing) (t : Table) (id : RelativeId)
    → growing_seen bytes (record (with_last_entry t id m) { rows = (with_last_entry t id m).rows + 1 }) ≡ with_entry t (id_seen id) (record (growing_seen bytes m) { rows = m.rows + 1 })
entry_seen bytes m Table.Name id = refl
entry_seen bytes m Table.Prefix id = refl
entry_seen bytes m Table.Datatype id = refl

pub small_in : (size : ℕ) (id : RelativeId) → is_id_in size (id_seen id) ≡ true → size ≤ most_entries → IsSmall id
small_in size (relatives.Given n) e le = let p = and_parts (nat_lt 0 n) (nat_le n size) e in let within = leb-true n size p.1 in omega (arith, within, le)
small_in size (relatives.After n) e le = let p = and_parts (nat_lt 0 n) (nat_le n size) e in let within = leb-true n size p.1 in omega (arith, within, le)

bind_ok : (r : Result State Kind) → (r >>= λ t. Ok t) ≡ r
bind_ok (Ok t) = refl
bind_ok (Err e) = refl

pub entry_is : (o : StreamOptions) (u : Table) (n : ℕ) (text : List ℕ) (t : State) → small_step (Small.Entry u n text) t ≡ state_of (step o (Row.Entry u n text) t)
unfolding all_steps
entry_is o u n text t = sym (bind_ok (small_step (Small.Entry u n text) t)) ∙ steps_as o (Row.Entry u n text) refl (Row.Entry u n text) (by_same o.strict o (Row.Entry u n text) refl) t

pub map-snoc : {A B : Type 0} (f : A → B) (xs : List A) (x : A) → map f (xs ++ x ∷ []) ≡ map f xs ++ f x ∷ []
map-snoc f [] x = refl
map-snoc f (y ∷ xs) x = ap (λ ys. f y ∷ ys) (map-snoc f xs x)

pub last_seen : (bytes : List ℕ) (m : Growing) (t : Table) → id_seen (last_entry t m) ≡ entry_in (growing_seen bytes m) t
last_seen bytes m Table.Name = refl
last_seen bytes m Table.Prefix = refl
last_seen bytes m Table.Datatype = refl

pub small_sizes : (bytes : List ℕ) (options : Options) (t : Table) → ArePassed bytes options → size_of (options_seen bytes options) t ≤ most_entries
small_sizes bytes options Table.Name passed = passed.names
small_sizes bytes options Table.Prefix passed = passed.prefixes
small_sizes bytes options Table.Datatype passed = passed.datatypes

-- the code's summary after an entry
module _ (bytes : List ℕ) (old : Growing) (demands : Vec code_demand.Demand Global) (writes : Vec Write Global) (t : Table) (n : ℕ) (text : Span) (extent : Extent) (idc : RelativeId) (S : Growing)
    (is : S ≡ with_last_entry t idc (record old { demands = demands; writes = writes })) where
  pub entry_done : (o : StreamOptions) (place : Place) (made : IsMade (growing_seen bytes old)) → id_seen idc ≡ following (entry_in (growing_seen bytes old) t) (entry_written n)
      → text_in bytes extent ≡ text_of bytes text
      → writes.items ≡ old.writes.items ++ record { moment = old.rows; table = t; id = idc; text = extent } ∷ []
      → growing_seen bytes (record S { rows = S.rows + 1 }) ≡ with_it o (growing_seen bytes old) place t n (text_of bytes text) made (demands_seen demands.items)
  entry_done o place made same marked pushed =
      let m : Summary = growing_seen bytes old in
      let ws : map (write_seen bytes) writes.items ≡ m.writes ++ record { moment = m.rows; table = t; id = following (entry_in m t) (entry_written n); text = text_of bytes text } ∷ []
      = ap (map (write_seen bytes)) pushed ∙ map-snoc (write_seen bytes) old.writes.items _ ∙ (λ i. m.writes ++ record { moment = m.rows; table = t; id = same i; text = marked i } ∷ []) in
      ap (λ (x : Growing). growing_seen bytes (record x { rows = x.rows + 1 })) is
      ∙ entry_seen bytes (record old { demands = demands; writes = writes }) t idc
      ∙ (λ i. with_entry t (same i) (record m { rows = m.rows + 1; writes = ws i; demands = demands_seen demands.items }))

  pub entry_fit : (marks marks' : Marks) → IsSmall idc → IsFit bytes old marks → AreMarked (record { rows = old.rows + 1; writes = map (write_seen bytes) writes.items }) (demands_seen demands.items) marks' → AreTexts bytes writes.items → IsMade (growing_seen bytes (record S { rows = S.rows + 1 })) → IsFit bytes (record S { rows = S.rows + 1 }) marks'
  entry_fit marks marks' small fit marked inside = subst (λ (x : Growing). IsMade (growing_seen bytes (record x { rows = x.rows + 1 })) → IsFit bytes (record x { rows = x.rows + 1 }) marks') (sym is) (by t)
    where
      by : (u : Table) → IsMade (growing_seen bytes (record (with_last_entry u idc (record old { demands = demands; writes = writes })) { rows = (with_last_entry u idc (record old { demands = demands; writes = writes })).rows + 1 }))
          → IsFit bytes (record (with_last_entry u idc (record old { demands = demands; writes = writes })) { rows = (with_last_entry u idc (record old { demands = demands; writes = writes })).rows + 1 }) marks'
      by Table.Name made = record { made = made; name_entry = small; prefix_entry = fit.prefix_entry; datatype_entry = fit.datatype_entry; name = fit.name; marked = marked; held = record { writes = inside; subject = fit.held.subject; predicate = fit.held.predicate; object = fit.held.object; graph = fit.held.graph; open_graph = fit.held.open_graph } }
      by Table.Prefix made = record { made = made; name_entry = fit.name_entry; prefix_entry = small; datatype_entry = fit.datatype_entry; name = fit.name; marked = marked; held = record { writes = inside; subject = fit.held.subject; predicate = fit.held.predicate; object = fit.held.object; graph = fit.held.graph; open_graph = fit.held.open_graph } }
      by Table.Datatype made = record { made = made; name_entry = fit.name_entry; prefix_entry = fit.prefix_entry; datatype_entry = small; name = fit.name; marked = marked; held = record { writes = inside; subject = fit.held.subject; predicate = fit.held.predicate; object = fit.held.object; graph = fit.held.graph; open_graph = fit.held.open_graph } }

-- an entry that is refused, or that no memory was found for: nothing is written
module _ (bytes : List ℕ) (old : Growing) (marks : Marks) (fit : IsFit bytes old marks) where
  pub asked_before : AreAsked (earlier_in (growing_seen bytes old)) (demands_seen old.demands.items) marks
  asked_before = record { good = record { made = fit.made.demands; within = fit.made.timed.demands }; marked = fit.marked }

  pub fit_unwritten : (demands : Vec code_demand.Demand Global) (writes : Vec Write Global) → writes.items ≡ old.writes.items → AreAsked (earlier_in (growing_seen bytes old)) (demands_seen demands.items) marks
      → IsFit bytes (record old { demands = demands; writes = writes }) marks
  fit_unwritten demands writes same asked =
      let timed = fit.made.timed in
      record {
        made = subst (λ (ws : List Write). IsMade (record (growing_seen bytes old) { demands = demands_seen demands.items; writes = map (write_seen bytes) ws })) (sym same) (record {
          timed = record { writes = timed.writes; demands = asked.good.within; subject = timed.subject; predicate = timed.predicate; object = timed.object; graph = timed.graph; open_graph = timed.open_graph };
          writes = fit.made.writes;
          demands = asked.good.made;
          prefix = fit.made.prefix;
        });
        name_entry = fit.name_entry;
        prefix_entry = fit.prefix_entry;
        datatype_entry = fit.datatype_entry;
        name = fit.name;
        marked = subst (λ (ws : List Write). AreMarked (record { rows = old.rows; writes = map (write_seen bytes) ws }) (demands_seen demands.items) marks) (sym same) asked.marked;
        held = record { writes = subst (AreTexts bytes) (sym same) fit.held.writes; subject = fit.held.subject; predicate = fit.held.predicate; object = fit.held.object; graph = fit.held.graph; open_graph = fit.held.open_graph };
      }

  -- the marks after an entry
  pub entry_marked : (demands : Vec code_demand.Demand Global) (writes : List Write) (t : Table) (id : RelativeId) (extent : Extent) (new : Marks) → writes ≡ old.writes.items ++ record { moment = old.rows; table = t; id = id; text = extent } ∷ []
      → ((need : Need) → is_marked need new ≡ true → (is_marked need marks ≡ true) ⊎ IsSlotOf t id need) → AreAsked (earlier_in (growing_seen bytes old)) (demands_seen demands.items) marks
      → AreMarked (record { rows = old.rows + 1; writes = map (write_seen bytes) writes }) (demands_seen demands.items) new
  entry_marked demands writes t id extent new pushed only asked =
      let was = earlier_in (growing_seen bytes old) in
      subst (λ (ws : List Written). AreMarked (record { rows = old.rows + 1; writes = ws }) (demands_seen demands.items) new) (sym (ap (map (write_seen bytes)) pushed ∙ map-snoc (write_seen bytes) old.writes.items _))
      (marked_write was (demands_seen demands.items) marks new t id (text_in bytes extent) only asked.marked)
