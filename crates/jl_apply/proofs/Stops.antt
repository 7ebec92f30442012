-- The stops at which terms are read, while the log is played.
use Rattle.std.proofs.Common.{◌≡◌, ℕ, ◌+◌, ◌<◌, ◌≤◌, ◌^◌, List, [], ◌∷◌, Option, Some, None, Ok, refl, ap, sym, subst, ◌∙◌, arith}
use Rattle.jl_base.specs.Terms.{Value}
use Rattle.jl_base.specs.declared.place.Fault.{Fault}
use Rattle.jl_state.specs.States as states
use Rattle.jl_state.specs.States.{State}
use Rattle.jl_state.specs.Lawful.{maybe_value}
use Rattle.jl_state.specs.Seen.{tables_seen, AreTables}
use Rattle.jl_state.specs.declared.tables.Tables.{Tables}
use Rattle.jl_sym_laws.specs.Summaries as sums
use Rattle.jl_sym_laws.specs.Acting.{tables_at, unmet}
use Rattle.jl_sym_laws.specs.Composing.{AreWithin}
use Rattle.jl_sym_laws.specs.Cutting.{IsMade, AreMadeWrites, AreMadeDemands}
use Rattle.jl_apply.specs.declared.incoming.Incoming.{Incoming}
use Rattle.jl_apply.specs.declared.log.Rest.{Rest}
use Rattle.jl_apply.specs.declared.new_terms.NewTerms.{NewTerms}
use Rattle.jl_sym.specs.declared.demand.Demand.{Demand}
use Rattle.jl_sym.specs.declared.summary.Summary.{Summary}
use Rattle.jl_apply.specs.Incoming.{IsIncoming, last_of}
use Rattle.jl_sym.specs.Held.{AreTexts, HasSummary}
use Rattle.jl_sym.specs.Seen.{demands_seen, summary_seen}
use Rattle.jl_apply.specs.Playing.{writes_seen, KeepsTables, Advances, Passed, IsLate, IsReadBefore}
use Rattle.jl_apply.specs.Applying.{AreRead, HasNewTerms, IsStop, Plays}
use Rattle.jl_apply.proofs.Logs.{tables_are}
use Rattle.jl_apply.proofs.Needs.{played_start, unmet_none}
use Rattle.jl_apply.proofs.Loops.{kept_same, kept_then}

pub record Stopped (bytes : List ℕ) (i : Incoming) (s : State) (m : sums.Summary) (x : states.Tables) (vs : List sums.Written) (es : List sums.Demand) (from : ℕ) (terms : NewTerms) : Type 0 where
  pub reached : ℕ
  pub before : reached ≤ from
  pub rows : reached ≤ m.rows
  pub advances : Advances (last_of i) s.tables m.writes reached x vs
  pub demands : AreMadeDemands reached es
  pub faults : unmet s m.writes m.demands ≡ unmet s m.writes es
  pub within : AreWithin m.rows es
  pub read : AreRead bytes s m from terms

none_read : (s : State) (ws : List sums.Written) (l : sums.Left) (v : Option Value) → IsReadBefore s ws 0 l v
none_read s ws sums.Left.Incoming v = tt
none_read s ws sums.Left.Cleared v = tt
none_read s ws (sums.Left.Set h) v = λ lt. absurd (omega (arith, lt))

module _ (bytes : List ℕ) (i : Incoming) (s : State) (m : sums.Summary) where
  pub stop_first : (es : List sums.Demand) (terms : NewTerms) → IsMade m → AreMadeDemands 0 es → unmet s m.writes m.demands ≡ unmet s m.writes es → AreWithin m.rows es → Stopped bytes i s m s.tables m.writes es 0 terms
  stop_first es terms made demands faults within = record {
    reached = 0;
    before = omega arith;
    rows = omega arith;
    advances = record { ahead = λ n le. refl; now = played_start (last_of i) s.tables m.writes; rises = made.writes };
    demands = demands;
    faults = faults;
    within = within;
    read = record {
      subject = none_read s m.writes m.subject (maybe_value bytes terms.subject);
      predicate = none_read s m.writes m.predicate (maybe_value bytes terms.predicate);
      object = none_read s m.writes m.object (maybe_value bytes terms.object);
      graph = none_read s m.writes m.graph (maybe_value bytes terms.graph);
      open_graph = none_read s m.writes m.open_graph (maybe_value bytes terms.open_graph);
    };
  }

  pub stop_next : (x y : states.Tables) (vs us : List sums.Written) (es ds : List sums.Demand) (from k : ℕ) (terms new : NewTerms) → Stopped bytes i s m x vs es from terms → k ≤ m.rows
      → Passed i s m.writes es k y us ds → AreRead bytes s m (k + 1) new → Stopped bytes i s m y us ds (k + 1) new
  stop_next x y vs us es ds from k terms new p le q read = record {
    reached = k;
    before = omega arith;
    rows = le;
    advances = q.advances;
    demands = q.demands;
    faults = p.faults ∙ q.faults;
    within = q.within m.rows p.within;
    read = read;
  }

none_left : (rows : ℕ) (es : List sums.Demand) → IsLate rows es → AreWithin rows es → es ≡ []
none_left rows [] late within = refl
none_left rows (d ∷ es) late within = let le = within.0 in absurd (omega (arith, late, le))

pub stop_end : (bytes : List ℕ) (i : Incoming) (s : State) (m : sums.Summary) (x y : states.Tables) (vs us : List sums.Written) (es ds : List sums.Demand) (from : ℕ) (terms : NewTerms) → Stopped bytes i s m x vs es from terms
    → Passed i s m.writes es m.rows y us ds → unmet s m.writes m.demands ≡ None
stop_end bytes i s m x y vs us es ds from terms p q =
    p.faults ∙ q.faults ∙ ap (unmet s m.writes) (none_left m.rows ds q.late (q.within m.rows p.within)) ∙ unmet_none s m.writes

-- the same of the code's values
pub record Stops (bytes : List ℕ) (i : Incoming) (old : Tables) (m : Summary) (x : Tables) (rest : Rest) (from : ℕ) (terms : NewTerms) : Type 0 where
  pub stopped : (s : State) → IsIncoming i s → s.tables ≡ tables_seen bytes old
      → Stopped bytes i s (summary_seen bytes m) (tables_seen bytes x) (writes_seen bytes rest.writes.now) (demands_seen rest.demands.now) from terms
  pub rises : AreMadeWrites 0 (writes_seen bytes rest.writes.now)
  pub held : AreTexts bytes rest.writes.now
  pub kept : KeepsTables bytes old x
  pub has : HasNewTerms bytes terms
  pub small : from ≤ 2 ^ 32

pub stops_init : (bytes : List ℕ) (i : Incoming) (old : Tables) (m : Summary) (rest : Rest) (terms : NewTerms) (ds : List Demand) → IsMade (summary_seen bytes m) → HasSummary bytes m → AreTables bytes old → rest.writes.now ≡ m.writes.items → ds ≡ m.demands.items
    → ((s : State) (ws : List sums.Written) → IsIncoming i s → s.tables ≡ tables_seen bytes old → unmet s ws (demands_seen ds) ≡ unmet s ws (demands_seen rest.demands.now))
    → (AreMadeDemands 0 (demands_seen ds) → AreMadeDemands 0 (demands_seen rest.demands.now)) → ((n : ℕ) → AreWithin n (demands_seen ds) → AreWithin n (demands_seen rest.demands.now))
    → HasNewTerms bytes terms → Stops bytes i old m old rest 0 terms
stops_init bytes i old m rest terms ds summary_made summary_held tables same_writes same_demands faults made within has =
    let all = summary_seen bytes m in
    let seen : demands_seen ds ≡ all.demands = ap demands_seen same_demands in
    let written : writes_seen bytes rest.writes.now ≡ all.writes = ap (writes_seen bytes) same_writes in
    record {
      stopped = λ s inc same.
          subst (λ (ws : List sums.Written). Stopped bytes i s all (tables_seen bytes old) ws (demands_seen rest.demands.now) 0 terms) (sym written)
          (subst (λ (x : states.Tables). Stopped bytes i s all x all.writes (demands_seen rest.demands.now) 0 terms) same
          (stop_first bytes i s all (demands_seen rest.demands.now) terms summary_made (made (subst (AreMadeDemands 0) (sym seen) summary_made.demands))
          (ap (unmet s all.writes) (sym seen) ∙ faults s all.writes inc same) (within all.rows (subst (AreWithin all.rows) (sym seen) summary_made.timed.demands))));
      rises = subst (AreMadeWrites 0) (sym written) summary_made.writes;
      held = subst (AreTexts bytes) (sym same_writes) summary_held.writes;
      kept = kept_same bytes old tables;
      has = has;
      small = omega arith;
    }

-- what going on to a moment tells
abbrev pub TellsPassed : List ℕ → Incoming → Tables → Rest → ℕ → Tables → Rest → Type 0
TellsPassed bytes i x rest k y next =
    (s : State) (ws : List sums.Written) (n : ℕ) → IsIncoming i s → Advances (last_of i) s.tables ws n (tables_seen bytes x) (writes_seen bytes rest.writes.now) → AreMadeDemands n (demands_seen rest.demands.now) → n ≤ k
    → Passed i s ws (demands_seen rest.demands.now) k (tables_seen bytes y) (writes_seen bytes next.writes.now) (demands_seen next.demands.now)

module _ (bytes : List ℕ) (i : Incoming) (old : Tables) (m : Summary) (x : Tables) (rest : Rest) (from : ℕ) (terms : NewTerms) (p : Stops bytes i old m x rest from terms) where
  pub stops_next : (k : ℕ) (y : Tables) (next : Rest) (new : NewTerms) → from ≤ k → k ≤ m.rows → k < 2 ^ 32 → TellsPassed bytes i x rest k y next
      → ((s : State) (f : ℕ) → IsIncoming i s → tables_at s (summary_seen bytes m).writes k ≡ tables_seen bytes y → IsStop (summary_seen bytes m) f (Some k) → AreRead bytes s (summary_seen bytes m) f terms → AreRead bytes s (summary_seen bytes m) (k + 1) new)
      → IsStop (summary_seen bytes m) from (Some k) → AreMadeWrites 0 (writes_seen bytes next.writes.now) → AreTexts bytes next.writes.now → KeepsTables bytes x y → HasNewTerms bytes new → Stops bytes i old m y next (k + 1) new
  stops_next k y next new later in_rows small passes read stop rises held keeps has = record {
    stopped = λ s inc same.
        let st = p.stopped s inc same in
        let before = st.before in
        let le : st.reached ≤ k = omega (arith, before, later) in
        let q = passes s (summary_seen bytes m).writes st.reached inc st.advances st.demands le in
        stop_next bytes i s (summary_seen bytes m) (tables_seen bytes x) (tables_seen bytes y) (writes_seen bytes rest.writes.now) (writes_seen bytes next.writes.now) (demands_seen rest.demands.now) (demands_seen next.demands.now) from k terms new
        st in_rows q (read s from inc (tables_are i s (summary_seen bytes m).writes k (tables_seen bytes y) (writes_seen bytes next.writes.now) inc q.advances) stop st.read);
    rises = rises;
    held = held;
    kept = kept_then bytes old x y p.kept keeps;
    has = has;
    small = omega (arith, small);
  }

  pub stops_refused : (k : ℕ) (fault : Fault) → ((n : ℕ) → n ≤ from → n ≤ m.rows → n ≤ k)
      → ((s : State) (ws : List sums.Written) (n : ℕ) → IsIncoming i s → Advances (last_of i) s.tables ws n (tables_seen bytes x) (writes_seen bytes rest.writes.now) → AreMadeDemands n (demands_seen rest.demands.now) → n ≤ k
      → unmet s ws (demands_seen rest.demands.now) ≡ Some fault)
      → (s : State) → IsIncoming i s → s.tables ≡ tables_seen bytes old → unmet s (summary_seen bytes m).writes (summary_seen bytes m).demands ≡ Some fault
  stops_refused k fault below refuses s inc same =
      let st = p.stopped s inc same in
      st.faults ∙ refuses s (summary_seen bytes m).writes st.reached inc st.advances st.demands (below st.reached st.before st.rows)

  pub stops_end : (y : Tables) (next : Rest) → TellsPassed bytes i x rest m.rows y next → IsStop (summary_seen bytes m) from None
      → (s : State) → IsIncoming i s → s.tables ≡ tables_seen bytes old → Plays bytes s (summary_seen bytes m) y (Ok terms)
  stops_end y next passes stop s inc same =
      let st = p.stopped s inc same in
      let q = passes s (summary_seen bytes m).writes st.reached inc st.advances st.demands st.rows in (
        stop_end bytes i s (summary_seen bytes m) (tables_seen bytes x) (tables_seen bytes y) (writes_seen bytes rest.writes.now) (writes_seen bytes next.writes.now) (demands_seen rest.demands.now) (demands_seen next.demands.now) from terms st q,
        tables_are i s (summary_seen bytes m).writes m.rows (tables_seen bytes y) (writes_seen bytes next.writes.now) inc q.advances,
        (from, stop, st.read),
      )
