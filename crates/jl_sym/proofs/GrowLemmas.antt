-- How a summary grows by small steps.
use Rattle.std.proofs.Common.{◌≡◌, ℕ, ◌+◌, ◌<◌, ◌≤◌, List, [], ◌∷◌, ◌++◌, Option, Some, None, Result, Ok, Err, OnOk, refl, ap, sym, ◌∙◌, subst, append-nil, arith}
use Rattle.std.specs.Option.{option_or}
use Rattle.jl_base.specs.Results.{◌>>=◌}
use Rattle.jl_base.specs.declared.kind.Kind.{Kind}
use Rattle.jl_base.specs.declared.kind.Kind.TheVariants.{NoGraph, GraphOpen}
use Rattle.jl_base.specs.declared.place.Place.{Place}
use Rattle.jl_base.specs.declared.place.Fault.{Fault}
use Rattle.jl_rows.specs.Written.{Ids, StreamOptions, Term}
use Rattle.jl_rows.specs.Values.{Position}
use Rattle.jl_state.specs.States.{State}
use Rattle.jl_state.specs.declared.stop.Stop.{Stop}
use Rattle.jl_state.specs.declared.stop.Stop.TheVariants as stops
use Rattle.jl_sym_laws.specs.RelativeIds.{Refs, refs_after}
use Rattle.jl_sym_laws.specs.Summaries.{Written, Demand, Kept, Left, Summary, left_in}
use Rattle.jl_state.specs.Running.{settled, at_place}
use Rattle.jl_sym_laws.specs.Acting.{unmet, act, state_after}
use Rattle.jl_sym_laws.specs.Composing.{composed, AreBefore, AreWithin, IsLeftWithin, Timed, has_left, lacks_left}
use Rattle.jl_sym_laws.specs.SmallSteps.{Small, small_step, term_demands, with_left, of_small}
use Rattle.jl_sym_laws.specs.Cutting.{IsMade, Sized}
use Rattle.jl_sym_laws.proofs.Composition.{composes}
use Rattle.jl_sym_laws.proofs.Later.{unmet_both, unmet_earlier}
use Rattle.jl_sym_laws.proofs.SmallLaws.{small_steps_sum}
use Rattle.jl_sym.specs.Earlier.{earlier_in}
use Rattle.jl_sym.specs.Asking.{moved, AreOfRun, never_at, Asks, Grows, perhaps, place_demands}
use Rattle.jl_sym.specs.Lays.{laid, set_left}
use Rattle.jl_sym.proofs.Composed.{asking, composed_place, composed_reads, composed_in_graph, composed_opens, composed_closes, composed_ends}

abbrev pub Led : Type 0
Led = Result State Fault

abbrev pub stop_at : Place → Kind → State → Led
stop_at place kind t = Err (record { place = place; kind = kind })

pub bind_assoc : (r : Led) (f g : State → Led) → ((r >>= f) >>= g) ≡ (r >>= λ t. f t >>= g)
bind_assoc (Ok t) f g = refl
bind_assoc (Err e) f g = refl

pub bind_ext : (r : Led) (f g : State → Led) → ((t : State) → f t ≡ g t) → (r >>= f) ≡ (r >>= g)
bind_ext (Ok t) f g h = h t
bind_ext (Err e) f g h = refl

at_then : (place : Place) (x : Result State Kind) (f : State → Result State Kind) → at_place place (x >>= f) ≡ (at_place place x >>= λ v. at_place place (f v))
at_then place (Ok v) f = refl
at_then place (Err kind) f = refl

-- one step after another
module _ (o : StreamOptions) (place : Place) (f g : State → Result State Kind) (old : Summary) where
  both_steps : (s : State) → ((act old s >>= λ t. at_place place (f t)) >>= λ t. at_place place (g t)) ≡ (act old s >>= λ t. at_place place (f t >>= g))
  both_steps s =
      bind_assoc (act old s) (λ t. at_place place (f t)) (λ t. at_place place (g t))
      ∙ bind_ext (act old s) (λ t. at_place place (f t) >>= λ u. at_place place (g u)) (λ t. at_place place (f t >>= g)) (λ t. sym (at_then place (f t) g))

  pub grows_then : (mid new : Summary) (result : Result (Unit {0}) Stop) → Grows o place f old mid (Ok tt) → Grows o place g mid new result → Grows o place (λ t. f t >>= g) old new result
  grows_then mid new (Ok _) first second = λ s sized. second s sized ∙ ap (λ (r : Led). r >>= λ t. at_place place (g t)) (first s sized) ∙ both_steps s
  grows_then mid new (Err (stops.Fault kind)) first second = λ s sized. second s sized ∙ ap (λ (r : Led). r >>= λ t. at_place place (g t)) (first s sized) ∙ both_steps s
  grows_then mid new (Err stops.NoMemory) first second = tt

  ended : (r : Led) (kind : Kind) → ((r >>= stop_at place kind) >>= λ t. at_place place (g t)) ≡ (r >>= stop_at place kind)
  ended (Ok t) kind = refl
  ended (Err e) kind = refl

  -- nothing comes after a certain fault
  pub grows_stopped : (new : Summary) (stop : Stop) → Grows o place f old new (Err stop) → Grows o place (λ t. f t >>= g) old new (Err stop)
  grows_stopped new (stops.Fault kind) first = λ s sized. sym (ended (act new s) kind) ∙ ap (λ (r : Led). r >>= λ t. at_place place (g t)) (first s sized) ∙ both_steps s
  grows_stopped new stops.NoMemory first = tt

-- a small step, once its demands are asked
module _ (o : StreamOptions) (m : Summary) (place : Place) (x : Small) (made : IsMade m) where
  small_acts : (s : State) → act (composed m (of_small place x)) s ≡ (act m s >>= λ t. at_place place (small_step x t))
  small_acts s = composes m (of_small place x) s made.timed ∙ bind_ext (act m s) (λ t. act (of_small place x) t) (λ t. at_place place (small_step x t)) (λ t. small_steps_sum place x t)

  pub grow_ok : (M : Summary) (ds : List Demand) → composed m (of_small place x) ≡ M → ((s : State) → Sized o s → unmet s M.writes ds ≡ unmet s M.writes M.demands)
      → Grows o place (small_step x) m (record M { demands = ds }) (Ok tt)
  grow_ok M ds is asked s sized = ap (λ (u : Option Fault). settled u (state_after M s)) (asked s sized) ∙ sym (ap (λ (n : Summary). act n s) is) ∙ small_acts s

  fails : (u : Option Fault) (kind : Kind) (t v : State) → (settled u t >>= stop_at place kind) ≡ settled (option_or u (Some (record { place = place; kind = kind }))) v
  fails None kind t v = refl
  fails (Some f) kind t v = refl

  pub grow_err : (M new : Summary) (kind : Kind) → composed m (of_small place x) ≡ M → new.writes ≡ m.writes → AreWithin m.rows new.demands
      → ((s : State) → Sized o s → unmet s M.writes (new.demands ++ never_at m.rows place kind ∷ []) ≡ unmet s M.writes M.demands) → Grows o place (small_step x) m new (Err (stops.Fault kind))
  unfolding unmet
  grow_err M new kind is same within asked s sized =
      let early : unmet s M.writes new.demands ≡ unmet s new.writes new.demands
      = ap (λ (n : Summary). unmet s n.writes new.demands) (sym is) ∙ unmet_earlier m s (of_small place x).writes made.timed.writes new.demands within
      ∙ ap (λ (ws : List Written). unmet s ws new.demands) (sym same) in
      fails (unmet s new.writes new.demands) kind (state_after new s) (state_after M s)
      ∙ ap (λ (u : Option Fault). settled (option_or u (Some (record { place = place; kind = kind }))) (state_after M s)) (sym early)
      ∙ ap (λ (u : Option Fault). settled u (state_after M s)) (sym (unmet_both s M.writes new.demands (never_at m.rows place kind ∷ [])) ∙ asked s sized)
      ∙ sym (ap (λ (n : Summary). act n s) is) ∙ small_acts s

-- writes of a run, with a row more
pub before_more : (rows : ℕ) (ws : List Written) → AreBefore rows ws → AreBefore (rows + 1) ws
before_more rows [] h = tt
before_more rows (w ∷ ws) h = let here = h.0 in let less : w.moment < rows + 1 = omega (arith, here) in (less, before_more rows ws h.1)

pub of_run : (m : Summary) → IsMade m → AreOfRun (earlier_in m) m.writes
of_run m made = record { made = made.writes; before = before_more m.rows m.writes made.timed.writes; begin = ([], sym (append-nil m.writes)) }

left_writes : (x : Position) (l : Left) (m : Summary) → (with_left x l m).writes ≡ m.writes
left_writes Position.Subject l m = refl
left_writes Position.Predicate l m = refl
left_writes Position.Object l m = refl
left_writes Position.Graph l m = refl

left_demands : (x : Position) (l : Left) (m : Summary) → (with_left x l m).demands ≡ m.demands
left_demands Position.Subject l m = refl
left_demands Position.Predicate l m = refl
left_demands Position.Object l m = refl
left_demands Position.Graph l m = refl

left_with : (x : Position) (l : Left) (m : Summary) (ds : List Demand) → record (with_left x l m) { demands = ds } ≡ with_left x l (record m { demands = ds })
left_with Position.Subject l m ds = refl
left_with Position.Predicate l m ds = refl
left_with Position.Object l m ds = refl
left_with Position.Graph l m ds = refl

-- a small step that asks for something and writes nothing
module _ (o : StreamOptions) (m : Summary) (place : Place) (x : Small) (made : IsMade m) (said : List Demand) (M : Summary) (is : composed m (of_small place x) ≡ M)
    (writes : M.writes ≡ m.writes) (demands : M.demands ≡ m.demands ++ moved m.rows said) where
  in_whole : (s : State) (ds : List Demand) → unmet s m.writes ds ≡ unmet s m.writes (m.demands ++ moved m.rows said) → unmet s M.writes ds ≡ unmet s M.writes M.demands
  in_whole s ds e = ap (λ (ws : List Written). unmet s ws ds) writes ∙ e ∙ sym (ap (λ (ws : List Written). unmet s ws M.demands) writes ∙ ap (unmet s m.writes) demands)

  pub step_grows : (ds : List Demand) → Asks o (earlier_in m) place m.demands said ds (Ok tt) → Grows o place (small_step x) m (record M { demands = ds }) (Ok tt)
  step_grows ds asks = grow_ok o m place x made M ds is (λ s sized. in_whole s ds (asks s m.writes sized (of_run m made)))

  pub step_stopped : (new : Summary) (stop : Stop) → new.writes ≡ m.writes → AreWithin m.rows new.demands → Asks o (earlier_in m) place m.demands said new.demands (Err stop) → Grows o place (small_step x) m new (Err stop)
  step_stopped new (stops.Fault kind) same within asks =
      grow_err o m place x made M new kind is same within (λ s sized. in_whole s (new.demands ++ never_at m.rows place kind ∷ []) (asks s m.writes sized (of_run m made)))
  step_stopped new stops.NoMemory same within asks = tt

-- a term at a position
module _ (o : StreamOptions) (m : Summary) (place : Place) (x : Position) (t : Term) (made : IsMade m) where
  abbrev pub before : Left
  before = left_in m (Kept.LastAt x)

  abbrev pub said : List Demand
  said = place_demands place (Kept.LastAt x) before m.ids t

  abbrev pub whole : Summary
  whole = with_left x (laid m.rows m.ids t before) (record m { demands = m.demands ++ moved m.rows said; ids = refs_after t m.ids })

  abbrev pub put : Left → List Demand → Refs → Summary
  put left ds ids = with_left x left (record m { demands = ds; ids = ids })

  pub placed_grows : (left : Left) (ds : List Demand) (ids : Refs) (result : Result (Unit {0}) Stop) → Asks o (earlier_in m) place m.demands said ds result
      → OnOk result (ids ≡ refs_after t m.ids) → OnOk result (left ≡ laid m.rows m.ids t before) → AreWithin m.rows ds → Grows o place (small_step (Small.Places x t)) m (put left ds ids) result
  placed_grows left ds ids (Ok _) asks same_ids same_left within =
      subst (λ (r : Refs). Grows o place (small_step (Small.Places x t)) m (put left ds r) (Ok tt)) (sym same_ids)
      (subst (λ (l : Left). Grows o place (small_step (Small.Places x t)) m (put l ds (refs_after t m.ids)) (Ok tt)) (sym same_left)
      (subst (λ (n : Summary). Grows o place (small_step (Small.Places x t)) m n (Ok tt)) (left_with x _ _ ds)
      (step_grows o m place (Small.Places x t) made said whole (composed_place m place x t) (left_writes x _ _) (left_demands x _ _) ds asks)))
  placed_grows left ds ids (Err stop) asks same_ids same_left within =
      let same : (put left ds ids).demands ≡ ds = left_demands x _ _ in
      step_stopped o m place (Small.Places x t) made said whole (composed_place m place x t) (left_writes x _ _) (left_demands x _ _) (put left ds ids) stop (left_writes x _ _)
      (subst (AreWithin m.rows) (sym same) within) (subst (λ (es : List Demand). Asks o (earlier_in m) place m.demands said es (Err stop)) (sym same) asks)

-- the open graph
module _ (o : StreamOptions) (m : Summary) (place : Place) (made : IsMade m) where
  abbrev pub there : List Demand
  there = perhaps place NoGraph (has_left Kept.OpenGraph m.open_graph)

  pub in_graph_grows : (ds : List Demand) (result : Result (Unit {0}) Stop) → Asks o (earlier_in m) place m.demands there ds result → AreWithin m.rows ds → Grows o place (small_step Small.IsInGraph) m (record m { demands = ds }) result
  in_graph_grows ds (Ok _) asks within = step_grows o m place Small.IsInGraph made there (asking m there) (composed_in_graph m place) refl refl ds asks
  in_graph_grows ds (Err stop) asks within = step_stopped o m place Small.IsInGraph made there (asking m there) (composed_in_graph m place) refl refl (record m { demands = ds }) stop refl within asks

  pub closes_grows : (ds : List Demand) → Asks o (earlier_in m) place m.demands there ds (Ok tt) → Grows o place (small_step Small.Closes) m (record m { demands = ds; open_graph = Left.Cleared }) (Ok tt)
  closes_grows ds asks = step_grows o m place Small.Closes made there (record (asking m there) { open_graph = Left.Cleared }) (composed_closes m place) refl refl ds asks

  pub closes_stopped : (ds : List Demand) (stop : Stop) → Asks o (earlier_in m) place m.demands there ds (Err stop) → AreWithin m.rows ds → Grows o place (small_step Small.Closes) m (record m { demands = ds }) (Err stop)
  closes_stopped ds stop asks within = step_stopped o m place Small.Closes made there (record (asking m there) { open_graph = Left.Cleared }) (composed_closes m place) refl refl (record m { demands = ds }) stop refl within asks

  module _ (g : Term) where
    abbrev pub opening : List Demand
    opening = perhaps place GraphOpen (lacks_left Kept.OpenGraph m.open_graph) ++ term_demands place m.ids g

    abbrev pub opened : Summary
    opened = record (asking m opening) { ids = refs_after g m.ids; open_graph = set_left m.rows m.ids g }

    pub opens_grows : (left : Left) (ds : List Demand) (ids : Refs) (result : Result (Unit {0}) Stop) → Asks o (earlier_in m) place m.demands opening ds result
        → OnOk result (ids ≡ refs_after g m.ids) → OnOk result (left ≡ set_left m.rows m.ids g) → AreWithin m.rows ds → Grows o place (small_step (Small.Opens g)) m (record m { demands = ds; ids = ids; open_graph = left }) result
    opens_grows left ds ids (Ok _) asks same_ids same_left within =
        subst (λ (r : Refs). Grows o place (small_step (Small.Opens g)) m (record m { demands = ds; ids = r; open_graph = left }) (Ok tt)) (sym same_ids)
        (subst (λ (l : Left). Grows o place (small_step (Small.Opens g)) m (record m { demands = ds; ids = refs_after g m.ids; open_graph = l }) (Ok tt)) (sym same_left)
        (step_grows o m place (Small.Opens g) made opening opened (composed_opens m place g) refl refl ds asks))
    opens_grows left ds ids (Err stop) asks same_ids same_left within =
        step_stopped o m place (Small.Opens g) made opening opened (composed_opens m place g) refl refl (record m { demands = ds; ids = ids; open_graph = left }) stop refl within asks

-- the end of a row
pub ends_grows : (o : StreamOptions) (m : Summary) (place : Place) → IsMade m → Grows o place (small_step Small.Ends) m (record m { rows = m.rows + 1 }) (Ok tt)
ends_grows o m place made = grow_ok o m place Small.Ends made (record m { rows = m.rows + 1 }) m.demands (composed_ends m place) (λ s sized. refl)

within_more : (rows : ℕ) (ds : List Demand) → AreWithin rows ds → AreWithin (rows + 1) ds
within_more rows [] h = tt
within_more rows (d ∷ ds) h = let here = h.0 in let less : d.moment ≤ rows + 1 = omega (arith, here) in (less, within_more rows ds h.1)

left_more : (rows : ℕ) (l : Left) → IsLeftWithin rows l → IsLeftWithin (rows + 1) l
left_more rows Left.Incoming h = tt
left_more rows Left.Cleared h = tt
left_more rows (Left.Set x) h = omega (arith, h)

pub timed_more : (m : Summary) → Timed m → Timed (record m { rows = m.rows + 1 })
timed_more m h = record {
  writes = before_more m.rows m.writes h.writes;
  demands = within_more m.rows m.demands h.demands;
  subject = left_more m.rows m.subject h.subject;
  predicate = left_more m.rows m.predicate h.predicate;
  object = left_more m.rows m.object h.object;
  graph = left_more m.rows m.graph h.graph;
  open_graph = left_more m.rows m.open_graph h.open_graph;
}

pub ends_made : (m : Summary) → IsMade m → IsMade (record m { rows = m.rows + 1 })
ends_made m h = record { timed = timed_more m h.timed; writes = h.writes; demands = h.demands; prefix = h.prefix }

-- the same steps by other words
pub grows_ext : (o : StreamOptions) (place : Place) (f g : State → Result State Kind) (old new : Summary) (result : Result (Unit {0}) Stop) → ((t : State) → f t ≡ g t) → Grows o place f old new result → Grows o place g old new result
grows_ext o place f g old new (Ok _) same grew = λ s sized. grew s sized ∙ bind_ext (act old s) (λ t. at_place place (f t)) (λ t. at_place place (g t)) (λ t. ap (at_place place) (same t))
grows_ext o place f g old new (Err (stops.Fault kind)) same grew = λ s sized. grew s sized ∙ bind_ext (act old s) (λ t. at_place place (f t)) (λ t. at_place place (g t)) (λ t. ap (at_place place) (same t))
grows_ext o place f g old new (Err stops.NoMemory) same grew = tt

-- an IRI that is read
module _ (o : StreamOptions) (m : Summary) (place : Place) (i : Ids) (made : IsMade m) where
  abbrev pub asked : List Demand
  asked = term_demands place m.ids (Term.Iri i)

  abbrev pub read : Summary
  read = record (asking m asked) { ids = refs_after (Term.Iri i) m.ids }

  pub reads_grows : (ds : List Demand) (ids : Refs) → Asks o (earlier_in m) place m.demands asked ds (Ok tt) → ids ≡ refs_after (Term.Iri i) m.ids → Grows o place (small_step (Small.Reads i)) m (record m { demands = ds; ids = ids }) (Ok tt)
  reads_grows ds ids asks same =
      subst (λ (r : Refs). Grows o place (small_step (Small.Reads i)) m (record m { demands = ds; ids = r }) (Ok tt)) (sym same)
      (step_grows o m place (Small.Reads i) made asked read (composed_reads m place i) refl refl ds asks)

  pub reads_stopped : (ds : List Demand) (stop : Stop) → Asks o (earlier_in m) place m.demands asked ds (Err stop) → AreWithin m.rows ds → Grows o place (small_step (Small.Reads i)) m (record m { demands = ds }) (Err stop)
  reads_stopped ds stop asks within = step_stopped o m place (Small.Reads i) made asked read (composed_reads m place i) refl refl (record m { demands = ds }) stop refl within asks
