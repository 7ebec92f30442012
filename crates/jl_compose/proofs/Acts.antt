-- A summary that another one was put after acts as their composition does, on settled states.
use Rattle.std.proofs.Common.{◌≡◌, ℕ, ◌+◌, List, [], ◌∷◌, ◌++◌, map, length, Option, Some, None, is_some, Result, Ok, refl, ap, sym, ◌∙◌, cond, arith, nat_lt}
use Rattle.std.specs.Option.{option_or}
use Rattle.jl_base.specs.Results.{answered}
use Rattle.jl_base.specs.Terms.{Value}
use Rattle.jl_base.specs.declared.kind.Kind.{Kind}
use Rattle.jl_base.specs.declared.place.Fault.{Fault}
use Rattle.jl_rows.specs.declared.row.Table.{Table}
use Rattle.jl_rows.specs.Written.{StreamOptions}
use Rattle.jl_rows.specs.Seen.{term_seen}
use Rattle.jl_state.specs.States.{Tables, State, table_in, table_of, entry_of, slots_of_tables}
use Rattle.jl_state.specs.Running.{settled}
use Rattle.jl_sym_laws.specs.RelativeIds.{real, refs_following}
use Rattle.jl_sym_laws.specs.Symbols.{SymTerm, sym_value, term_written}
use Rattle.jl_sym_laws.specs.Summaries as sums
use Rattle.jl_sym_laws.specs.Acting.{put, played, tables_at, text_in, last_id, meets, unmet, left_after, state_after, act}
use Rattle.jl_sym_laws.specs.Composing.{later_write, later_demands, left_following, composed}
use Rattle.jl_sym_laws.specs.Staying.{IsSettled, Settles}
use Rattle.jl_sym_laws.proofs.Logs.{played_both, put_length, played_length}
use Rattle.jl_sym_laws.proofs.Later.{unmet_both}
use Rattle.jl_sym.specs.declared.summary.Left.{Left}
use Rattle.jl_sym.specs.declared.summary.Left.TheVariants as lefts
use Rattle.jl_sym.specs.declared.summary.Summary.{Summary}
use Rattle.jl_sym.specs.Seen.{refs_seen, left_seen, summary_seen}
use Rattle.jl_sym.proofs.Following.{term_moved}
use Rattle.jl_compose.specs.Narrowing.{narrow, narrow_refs, narrow_write, narrow_need, narrow_demand}
use Rattle.jl_compose.specs.Appending.{left_later, appended}
use Rattle.jl_compose.specs.Turns.{HasTables}
use Rattle.jl_compose.proofs.Near.{AreFew, near_narrow, near_same, fill_near, text_near, fits_near, value_near, narrow_near}

few_put : (last : Table → ℕ) (k : ℕ) (x : Tables) (w : sums.Written) → AreFew x → AreFew (put last k x w)
few_put last k x w few t =
    let same = put_length (nat_lt w.moment k) x w.table t (real w.id (last w.table)) w.text in
    let f = few t in
    let some = f.0 in
    let below = f.1 in
    (omega (arith, same, some), omega (arith, same, below))

few_played : (last : Table → ℕ) (k : ℕ) (x : Tables) (ws : List sums.Written) → AreFew x → AreFew (played last k x ws)
few_played last k x ws few t =
    let same = played_length last k x ws t in
    let f = few t in
    let some = f.0 in
    let below = f.1 in
    (omega (arith, same, some), omega (arith, same, below))

played_same : (last : Table → ℕ) (k : ℕ) (x : Tables) (ws : List sums.Written) → AreFew x → played last k x (map narrow_write ws) ≡ played last k x ws
unfolding played
played_same last k x [] few = refl
played_same last k x (w ∷ ws) few =
    ap (λ (y : Tables). played last k (cond (nat_lt w.moment k) y x) (map narrow_write ws))
    (fill_near x w.table (real (narrow w.id) (last w.table)) (real w.id (last w.table)) w.text (near_narrow w.id (last w.table) (length (table_in x w.table)) (few w.table).1))
    ∙ played_same last k (put last k x w) ws (few_put last k x w few)

module _ (s : State) (few : AreFew s.tables) (us ws : List sums.Written) where
  -- the first run's writes, and then the second one's, narrow and whole
  abbrev pub narrow_log : List sums.Written
  narrow_log = us ++ map narrow_write ws

  abbrev pub whole_log : List sums.Written
  whole_log = us ++ ws

  pub few_at : (k : ℕ) → AreFew (tables_at s whole_log k)
  few_at k = few_played (entry_of s) k s.tables whole_log few

  pub tables_same : (k : ℕ) → tables_at s narrow_log k ≡ tables_at s whole_log k
  tables_same k =
      played_both (entry_of s) k s.tables us (map narrow_write ws)
      ∙ played_same (entry_of s) k (tables_at s us k) ws (few_played (entry_of s) k s.tables us few)
      ∙ sym (played_both (entry_of s) k s.tables us ws)

  meets_kept : (k : ℕ) (need : sums.Need) → meets s narrow_log k need ≡ meets s whole_log k need
  meets_kept k (sums.Need.Fits t id) = refl
  meets_kept k (sums.Need.Filled t id) = ap (λ (x : Tables). is_some (answered (text_in (slots_of_tables x) t (real id (last_id s.ids t))))) (tables_same k)
  meets_kept k (sums.Need.Has x) = refl
  meets_kept k (sums.Need.Lacks x) = refl
  meets_kept k sums.Need.Never = refl

  meets_narrow : (k : ℕ) (need : sums.Need) → meets s whole_log k (narrow_need need) ≡ meets s whole_log k need
  meets_narrow k (sums.Need.Fits t id) = fits_near (length (table_of s t)) (real (narrow id) (entry_of s t)) (real id (entry_of s t)) (near_narrow id (entry_of s t) (length (table_of s t)) (few t).1)
  meets_narrow k (sums.Need.Filled t id) =
      let x = tables_at s whole_log k in
      let last = last_id s.ids t in
      ap (λ (r : Result (List ℕ) Kind). is_some (answered r)) (text_near x t (real (narrow id) last) (real id last) (few_at k t).0 (near_narrow id last (length (table_in x t)) (few_at k t).1))
  meets_narrow k (sums.Need.Has x) = refl
  meets_narrow k (sums.Need.Lacks x) = refl
  meets_narrow k sums.Need.Never = refl

  unmet_kept : (ds : List sums.Demand) → unmet s narrow_log ds ≡ unmet s whole_log ds
  unfolding unmet
  unmet_kept [] = refl
  unmet_kept (d ∷ ds) = λ j. cond (meets_kept d.moment d.need j) (unmet_kept ds j) (Some d.fault)

  unmet_narrow : (ds : List sums.Demand) → unmet s narrow_log (map narrow_demand ds) ≡ unmet s whole_log ds
  unfolding unmet
  unmet_narrow [] = refl
  unmet_narrow (d ∷ ds) = λ j. cond ((meets_kept d.moment (narrow_need d.need) ∙ meets_narrow d.moment d.need) j) (unmet_narrow ds j) (Some d.fault)

  pub unmet_same : (ds es : List sums.Demand) → unmet s narrow_log (ds ++ map narrow_demand es) ≡ unmet s whole_log (ds ++ es)
  unmet_same ds es =
      unmet_both s narrow_log ds (map narrow_demand es)
      ∙ (λ j. option_or (unmet_kept ds j) (unmet_narrow es j))
      ∙ sym (unmet_both s whole_log ds es)

  left_kept : (l : sums.Left) (before : Option Value) → left_after s narrow_log l before ≡ left_after s whole_log l before
  left_kept sums.Left.Incoming before = refl
  left_kept sums.Left.Cleared before = refl
  left_kept (sums.Left.Set h) before = ap (λ (x : Tables). Some (sym_value (slots_of_tables x) s.ids h.term)) (tables_same h.moment)

  pub left_same : (bytes : List ℕ) (a : sums.Summary) (first l : Left) (before : Option Value)
      → left_after s narrow_log (left_later bytes a.rows a.ids first l) before ≡ left_after s whole_log (left_following a (left_seen bytes first) (left_seen bytes l)) before
  left_same bytes a first lefts.Incoming before = left_kept (left_seen bytes first) before
  left_same bytes a first lefts.Cleared before = refl
  left_same bytes a first (lefts.Set moment r t) before =
      let k = a.rows + moment in
      let x = tables_at s whole_log k in
      let q = refs_following a.ids (refs_seen r) in
      ap (λ (x : Tables). Some (sym_value (slots_of_tables x) s.ids (term_written (narrow_refs q) (term_seen bytes t)))) (tables_same k)
      ∙ ap Some (value_near x s.ids (narrow_refs q) q (term_seen bytes t) (few_at k) (narrow_near x s.ids q (few_at k)))
      ∙ ap (λ (y : SymTerm). Some (sym_value (slots_of_tables x) s.ids y)) (sym (term_moved a.ids (refs_seen r) (term_seen bytes t)))

module _ (o : StreamOptions) (bytes : List ℕ) (a b : Summary) (s : State) where
  abbrev x : sums.Summary
  x = summary_seen bytes a

  abbrev y : sums.Summary
  y = summary_seen bytes b

  same_by : (u : Option Fault) → unmet s (composed x y).writes (composed x y).demands ≡ u → AreFew s.tables → Settles o (composed x y) → IsSettled o s → act (appended bytes a b) s ≡ act (composed x y) s
  same_by (Some fault) e few settles now =
      ap (λ (f : Option Fault). settled f (state_after (appended bytes a b) s)) (unmet_same s few x.writes (map (later_write x) y.writes) x.demands (later_demands x y.demands) ∙ e)
      ∙ sym (ap (λ (f : Option Fault). settled f (state_after (composed x y) s)) e)
  same_by None e few settles now =
      let d = composed x y in
      let vs = map (later_write x) y.writes in
      let done : act d s ≡ Ok (state_after d s) = ap (λ (f : Option Fault). settled f (state_after d s)) e in
      let after = settles s (state_after d s) now done in
      let at_end = few_at s few x.writes vs d.rows in
      let states : state_after (appended bytes a b) s ≡ state_after d s = λ j. record {
        tables = tables_same s few x.writes vs d.rows j;
        name_entry = near_same _ _ _ (near_narrow d.name_entry s.name_entry (length (tables_at s d.writes d.rows).names) (at_end Table.Name).1) after.name_entry j;
        prefix_entry = near_same _ _ _ (near_narrow d.prefix_entry s.prefix_entry (length (tables_at s d.writes d.rows).prefixes) (at_end Table.Prefix).1) after.prefix_entry j;
        datatype_entry = near_same _ _ _ (near_narrow d.datatype_entry s.datatype_entry (length (tables_at s d.writes d.rows).datatypes) (at_end Table.Datatype).1) after.datatype_entry j;
        ids = record {
          prefix = near_same _ _ _ (near_narrow d.ids.prefix s.ids.prefix (length (tables_at s d.writes d.rows).prefixes) (at_end Table.Prefix).1) after.prefix j;
          name = near_same _ _ _ (near_narrow d.ids.name s.ids.name (length (tables_at s d.writes d.rows).names) (at_end Table.Name).1) after.name j;
        };
        subject = left_same s few x.writes vs bytes x a.subject b.subject s.subject j;
        predicate = left_same s few x.writes vs bytes x a.predicate b.predicate s.predicate j;
        object = left_same s few x.writes vs bytes x a.object b.object s.object j;
        graph = left_same s few x.writes vs bytes x a.graph b.graph s.graph j;
        open_graph = left_same s few x.writes vs bytes x a.open_graph b.open_graph s.open_graph j;
      } in
      ap (λ (f : Option Fault). settled f (state_after (appended bytes a b) s)) (unmet_same s few x.writes vs x.demands (later_demands x y.demands) ∙ e) ∙ ap Ok states ∙ sym done

  few_settled : HasTables o → IsSettled o s → AreFew s.tables
  few_settled small now t =
      let size = now.sized.sizes t in
      let within = small t in
      (omega (arith, size), omega (arith, size, within))

  pub appended_acts : HasTables o → Settles o (composed x y) → IsSettled o s → act (appended bytes a b) s ≡ act (composed x y) s
  appended_acts small settles now = same_by (unmet s (composed x y).writes (composed x y).demands) refl (few_settled small now) settles now
