-- Demands, met or not, while the log is played.
use Rattle.std.proofs.Common.{◌≡◌, ℕ, ◌≤◌, true, false, List, [], ◌∷◌, Some, refl, ◌∙◌, arith}
use Rattle.jl_state.specs.States.{Tables, State}
use Rattle.jl_sym_laws.specs.Summaries.{Written, Demand}
use Rattle.jl_sym_laws.specs.Acting.{unmet}
use Rattle.jl_sym_laws.specs.Cutting.{AreMadeDemands}
use Rattle.jl_apply.specs.Incoming.{IsIncoming, last_of, need_met}
use Rattle.jl_apply.specs.declared.incoming.Incoming.{Incoming}
use Rattle.jl_apply.specs.Playing.{Advances, Passing, Passed, IsLate}
use Rattle.jl_apply.proofs.Logs.{advances_then, tables_are}
use Rattle.jl_apply.proofs.Needs.{need_at, unmet_on, unmet_here}

module _ (i : Incoming) (s : State) (ws : List Written) (ds : List Demand) (limit : ℕ) where
  pub passing_start : (k : ℕ) (x : Tables) (vs : List Written) → k ≤ limit → Advances (last_of i) s.tables ws k x vs → AreMadeDemands k ds → Passing i s ws ds limit x vs ds
  passing_start k x vs le p h = record { reached = k; below = le; advances = p; demands = h; faults = refl; within = λ n w. w }

  pub passing_met : (x y : Tables) (vs us : List Written) (d : Demand) (es : List Demand) → IsIncoming i s → Passing i s ws ds limit x vs (d ∷ es) → d.moment ≤ limit
      → Advances (last_of i) x vs d.moment y us → need_met s y d.need ≡ true → Passing i s ws ds limit y us es
  passing_met x y vs us d es h p le q met =
      let now = advances_then (last_of i) s.tables ws p.reached x vs d.moment y us p.demands.0 p.advances q in
      record {
        reached = d.moment;
        below = le;
        advances = now;
        demands = p.demands.2;
        faults = p.faults ∙ unmet_on s ws d es (need_at s ws d.moment y d.need (tables_are i s ws d.moment y us h now) ∙ met);
        within = λ n w. (p.within n w).1;
      }

  pub passing_refused : (x y : Tables) (vs us : List Written) (d : Demand) (es : List Demand) → IsIncoming i s → Passing i s ws ds limit x vs (d ∷ es)
      → Advances (last_of i) x vs d.moment y us → need_met s y d.need ≡ false → unmet s ws ds ≡ Some d.fault
  passing_refused x y vs us d es h p q met =
      let now = advances_then (last_of i) s.tables ws p.reached x vs d.moment y us p.demands.0 p.advances q in
      p.faults ∙ unmet_here s ws d es (need_at s ws d.moment y d.need (tables_are i s ws d.moment y us h now) ∙ met)

  later_demands : (k : ℕ) (es : List Demand) → AreMadeDemands k es → IsLate limit es → AreMadeDemands limit es
  later_demands k [] h late = tt
  later_demands k (d ∷ es) h late = let le : limit ≤ d.moment = omega (arith, late) in (le, h.1, h.2)

  pub passing_end : (x y : Tables) (vs us : List Written) (es : List Demand) → Passing i s ws ds limit x vs es → IsLate limit es → Advances (last_of i) x vs limit y us → Passed i s ws ds limit y us es
  passing_end x y vs us es p late q = record {
    advances = advances_then (last_of i) s.tables ws p.reached x vs limit y us p.below p.advances q;
    demands = later_demands p.reached es p.demands late;
    late = late;
    faults = p.faults;
    within = p.within;
  }
