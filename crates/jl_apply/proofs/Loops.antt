-- What the loops over the log keep.
use Rattle.std.proofs.Common.{◌≡◌, ℕ, ◌<◌, ◌≤◌, Bool, true, false, List, [], ◌∷◌, length, Some, refl, ap, sym, subst, ◌∙◌, arith}
use Rattle.jl_state.specs.States as states
use Rattle.jl_state.specs.States.{State}
use Rattle.jl_state.specs.Extents.{text_in}
use Rattle.jl_state.specs.Seen.{tables_seen, AreTables}
use Rattle.jl_state.specs.declared.tables.Tables.{Tables}
use Rattle.jl_sym_laws.specs.RelativeIds.{real}
use Rattle.jl_sym_laws.specs.Summaries as sums
use Rattle.jl_sym_laws.specs.Acting.{filled_in, played, unmet}
use Rattle.jl_sym_laws.specs.Composing.{AreWithin}
use Rattle.jl_sym_laws.specs.Cutting.{AreMadeWrites, AreMadeDemands}
use Rattle.jl_apply.specs.declared.incoming.Incoming.{Incoming}
use Rattle.jl_sym.specs.declared.summary.Write.{Write}
use Rattle.jl_sym.specs.declared.demand.Demand.{Demand}
use Rattle.jl_apply.specs.Incoming.{IsIncoming, last_of, need_met}
use Rattle.jl_sym.specs.Held.{AreTexts}
use Rattle.jl_sym.specs.Seen.{id_seen, write_seen, need_seen, demand_seen, demands_seen}
use Rattle.jl_apply.specs.Playing.{writes_seen, KeepsTables, Advances, Passing, Passed, IsLate}
use Rattle.jl_apply.proofs.Logs.{played_on, advances_all, advances_to}
use Rattle.jl_apply.proofs.Needs.{met_always, unmet_on}
use Rattle.jl_apply.proofs.Passings.{passing_start, passing_met, passing_refused, passing_end}

pub kept_then : (bytes : List ℕ) (x y z : Tables) → KeepsTables bytes x y → KeepsTables bytes y z → KeepsTables bytes x z
kept_then bytes x y z p q = record { tables = q.tables; names = q.names ∙ p.names; prefixes = q.prefixes ∙ p.prefixes; datatypes = q.datatypes ∙ p.datatypes }

pub kept_same : (bytes : List ℕ) (x : Tables) → AreTables bytes x → KeepsTables bytes x x
kept_same bytes x h = record { tables = h; names = refl; prefixes = refl; datatypes = refl }

-- writes up to a moment
pub record Log (bytes : List ℕ) (i : Incoming) (old : Tables) (ws : List Write) (k : ℕ) (x : Tables) (vs : List Write) : Type 0 where
  pub ahead : (n : ℕ) → k ≤ n → played (last_of i) n (tables_seen bytes old) (writes_seen bytes ws) ≡ played (last_of i) n (tables_seen bytes x) (writes_seen bytes vs)
  pub rises : AreMadeWrites 0 (writes_seen bytes vs)
  pub held : AreTexts bytes vs
  pub kept : KeepsTables bytes old x

module _ (bytes : List ℕ) (i : Incoming) (old : Tables) (ws : List Write) (k : ℕ) where
  pub log_start : AreTables bytes old → AreTexts bytes ws → AreMadeWrites 0 (writes_seen bytes ws) → Log bytes i old ws k old ws
  log_start t h r = record { ahead = λ n le. refl; rises = r; held = h; kept = kept_same bytes old t }

  made_later : (w : sums.Written) (vs : List sums.Written) → AreMadeWrites 0 (w ∷ vs) → AreMadeWrites 0 vs
  made_later w [] h = tt
  made_later w (v ∷ vs) h = let least : 0 ≤ v.moment = omega arith in (least, h.2.1, h.2.2)

  pub log_on : (x y : Tables) (w : Write) (vs rest : List Write) → rest ≡ w ∷ vs → Log bytes i old ws k x rest → w.moment < k
      → tables_seen bytes y ≡ filled_in (tables_seen bytes x) w.table (real (id_seen w.id) (last_of i w.table)) (text_in bytes w.text) → KeepsTables bytes x y → Log bytes i old ws k y vs
  log_on x y w vs rest e p lt filled keeps =
      let q : Log bytes i old ws k x (w ∷ vs) = subst (Log bytes i old ws k x) e p in
      record {
        ahead = λ n le. q.ahead n le ∙ played_on (last_of i) k n (tables_seen bytes x) (tables_seen bytes y) (write_seen bytes w) (writes_seen bytes vs) lt le filled;
        rises = made_later (write_seen bytes w) (writes_seen bytes vs) q.rises;
        held = q.held.2;
        kept = kept_then bytes old x y q.kept keeps;
      }

  pub log_all : (x : Tables) (rest : List Write) → rest ≡ [] → Log bytes i old ws k x rest → Advances (last_of i) (tables_seen bytes old) (writes_seen bytes ws) k (tables_seen bytes x) (writes_seen bytes rest)
  log_all x rest e p = advances_all (last_of i) (tables_seen bytes old) (writes_seen bytes ws) k (tables_seen bytes x) (writes_seen bytes rest) (ap (writes_seen bytes) e) p.ahead p.rises

  pub log_to : (x : Tables) (w : Write) (vs rest : List Write) → rest ≡ w ∷ vs → k ≤ w.moment → Log bytes i old ws k x rest
      → Advances (last_of i) (tables_seen bytes old) (writes_seen bytes ws) k (tables_seen bytes x) (writes_seen bytes rest)
  log_to x w vs rest e late p =
      advances_to (last_of i) (tables_seen bytes old) (writes_seen bytes ws) k (tables_seen bytes x) (writes_seen bytes rest) (write_seen bytes w) (writes_seen bytes vs) (ap (writes_seen bytes) e) late p.ahead p.rises

-- demands up to a moment
pub record Going (bytes : List ℕ) (i : Incoming) (old : Tables) (ws : List Write) (ds : List Demand) (k : ℕ) (x : Tables) (vs : List Write) (es : List Demand) : Type 0 where
  pub passing : (s : State) (all : List sums.Written) (n : ℕ) → IsIncoming i s → Advances (last_of i) s.tables all n (tables_seen bytes old) (writes_seen bytes ws) → AreMadeDemands n (demands_seen ds) → n ≤ k
      → Passing i s all (demands_seen ds) k (tables_seen bytes x) (writes_seen bytes vs) (demands_seen es)
  pub rises : AreMadeWrites 0 (writes_seen bytes vs)
  pub held : AreTexts bytes vs
  pub kept : KeepsTables bytes old x

module _ (bytes : List ℕ) (i : Incoming) (old : Tables) (ws : List Write) (ds : List Demand) (k : ℕ) where
  pub going_start : AreTables bytes old → AreTexts bytes ws → AreMadeWrites 0 (writes_seen bytes ws) → Going bytes i old ws ds k old ws ds
  going_start t h r = record {
    passing = λ s all n _ p d le. passing_start i s all (demands_seen ds) k n (tables_seen bytes old) (writes_seen bytes ws) le p d;
    rises = r;
    held = h;
    kept = kept_same bytes old t;
  }

  abbrev pub Tells : Tables → Demand → Bool → Type 0
  Tells x d b = (s : State) → IsIncoming i s → b ≡ need_met s (tables_seen bytes x) (need_seen d.need)

  pub going_met : (x y : Tables) (vs us : List Write) (d : Demand) (es rest : List Demand) (b : Bool) → rest ≡ d ∷ es → Going bytes i old ws ds k x vs rest → d.moment ≤ k
      → Advances (last_of i) (tables_seen bytes x) (writes_seen bytes vs) d.moment (tables_seen bytes y) (writes_seen bytes us) → KeepsTables bytes x y → AreTexts bytes us
      → Tells y d b → b ≡ true → Going bytes i old ws ds k y us es
  going_met x y vs us d es rest b e p le q keeps held tells true_is =
      let g : Going bytes i old ws ds k x vs (d ∷ es) = subst (Going bytes i old ws ds k x vs) e p in
      record {
        passing = λ s all n inc a m below. passing_met i s all (demands_seen ds) k (tables_seen bytes x) (tables_seen bytes y) (writes_seen bytes vs) (writes_seen bytes us) (demand_seen d) (demands_seen es)
            inc (g.passing s all n inc a m below) le q (sym (tells s inc) ∙ true_is);
        rises = q.rises;
        held = held;
        kept = kept_then bytes old x y g.kept keeps;
      }

  pub going_refused : (x y : Tables) (vs us : List Write) (d : Demand) (es rest : List Demand) (b : Bool) → rest ≡ d ∷ es → Going bytes i old ws ds k x vs rest
      → Advances (last_of i) (tables_seen bytes x) (writes_seen bytes vs) d.moment (tables_seen bytes y) (writes_seen bytes us)
      → Tells y d b → b ≡ false
      → (s : State) (all : List sums.Written) (n : ℕ) → IsIncoming i s → Advances (last_of i) s.tables all n (tables_seen bytes old) (writes_seen bytes ws) → AreMadeDemands n (demands_seen ds) → n ≤ k
      → unmet s all (demands_seen ds) ≡ Some d.fault
  going_refused x y vs us d es rest b e p q tells false_is s all n inc a m below =
      let g : Going bytes i old ws ds k x vs (d ∷ es) = subst (Going bytes i old ws ds k x vs) e p in
      passing_refused i s all (demands_seen ds) k (tables_seen bytes x) (tables_seen bytes y) (writes_seen bytes vs) (writes_seen bytes us) (demand_seen d) (demands_seen es)
      inc (g.passing s all n inc a m below) q (sym (tells s inc) ∙ false_is)

  pub going_end : (x y : Tables) (vs us : List Write) (es : List Demand) → Going bytes i old ws ds k x vs es → IsLate k (demands_seen es)
      → Advances (last_of i) (tables_seen bytes x) (writes_seen bytes vs) k (tables_seen bytes y) (writes_seen bytes us)
      → (s : State) (all : List sums.Written) (n : ℕ) → IsIncoming i s → Advances (last_of i) s.tables all n (tables_seen bytes old) (writes_seen bytes ws) → AreMadeDemands n (demands_seen ds) → n ≤ k
      → Passed i s all (demands_seen ds) k (tables_seen bytes y) (writes_seen bytes us) (demands_seen es)
  going_end x y vs us es p late q s all n inc a m below =
      passing_end i s all (demands_seen ds) k (tables_seen bytes x) (tables_seen bytes y) (writes_seen bytes vs) (writes_seen bytes us) (demands_seen es) (p.passing s all n inc a m below) late q

  pub late_at : (d : Demand) (es rest : List Demand) → rest ≡ d ∷ es → k < d.moment → IsLate k (demands_seen rest)
  late_at d es rest e late = subst (λ (l : List Demand). IsLate k (demands_seen l)) (sym e) late

  pub late_none : (rest : List Demand) → rest ≡ [] → IsLate k (demands_seen rest)
  late_none rest e = subst (λ (l : List Demand). IsLate k (demands_seen l)) (sym e) tt

-- demands that the incoming state meets by itself
pub record Opening (bytes : List ℕ) (i : Incoming) (x : Tables) (ds es : List Demand) : Type 0 where
  pub faults : (s : State) (all : List sums.Written) → IsIncoming i s → s.tables ≡ tables_seen bytes x → unmet s all (demands_seen ds) ≡ unmet s all (demands_seen es)
  pub made : AreMadeDemands 0 (demands_seen ds) → AreMadeDemands 0 (demands_seen es)
  pub within : (n : ℕ) → AreWithin n (demands_seen ds) → AreWithin n (demands_seen es)

pub opening_start : (bytes : List ℕ) (i : Incoming) (x : Tables) (ds : List Demand) → Opening bytes i x ds ds
opening_start bytes i x ds = record { faults = λ s all _ _. refl; made = λ h. h; within = λ n h. h }

demands_later : (d : sums.Demand) (es : List sums.Demand) → AreMadeDemands 0 (d ∷ es) → AreMadeDemands 0 es
demands_later d [] h = tt
demands_later d (e ∷ es) h = let least : 0 ≤ e.moment = omega arith in (least, h.2.1, h.2.2)

pub opening_met : (bytes : List ℕ) (i : Incoming) (x : Tables) (ds es rest : List Demand) (d : Demand) (b : Bool) → rest ≡ d ∷ es → Opening bytes i x ds rest
    → ((s : State) → IsIncoming i s → b ≡ need_met s (tables_seen bytes x) (need_seen d.need)) → b ≡ true → Opening bytes i x ds es
opening_met bytes i x ds es rest d b e p tells true_is =
    let q : Opening bytes i x ds (d ∷ es) = subst (Opening bytes i x ds) e p in
    record {
      faults = λ s all inc same.
          q.faults s all inc same
          ∙ unmet_on s all (demand_seen d) (demands_seen es) (met_always s all d.moment (need_seen d.need) (ap (λ (y : states.Tables). need_met s y (need_seen d.need)) same ∙ sym (tells s inc) ∙ true_is));
      made = λ h. demands_later (demand_seen d) (demands_seen es) (q.made h);
      within = λ n h. (q.within n h).1;
    }

pub empty_is : {A : Type 0} (xs : List A) → length xs ≡ 0 → xs ≡ []
empty_is [] e = refl
empty_is (x ∷ xs) e = absurd (omega (arith, e))
