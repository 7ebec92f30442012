-- The moments of two runs, one after the other.
use Rattle.std.proofs.Common.{ℕ, ◌+◌, ◌<◌, ◌≤◌, List, [], ◌∷◌, ◌++◌, map, Option, Some, None, arith}
use Rattle.jl_sym_laws.specs.Summaries.{Written, Need, Demand, Left, Summary}
use Rattle.jl_sym_laws.specs.Composing.{later_write, earlier_need, demanded, later_demands, left_following, AreBefore, AreWithin, IsLeftWithin}
use Rattle.jl_sym_laws.specs.Laws.{StaysTimed}

module _ (a : Summary) (n : ℕ) where
  writes_before : (ws vs : List Written) → AreBefore a.rows ws → AreBefore n vs → AreBefore (a.rows + n) (ws ++ map (later_write a) vs)
  writes_before [] [] h k = tt
  writes_before [] (v ∷ vs) h k = let early = k.0 in let below : a.rows + v.moment < a.rows + n = omega (arith, early) in (below, writes_before [] vs tt k.1)
  writes_before (w ∷ ws) vs h k = let early = h.0 in let below : w.moment < a.rows + n = omega (arith, early) in (below, writes_before ws vs h.1 k)

  demanded_within : (d : Demand) (need : Option Need) (ds : List Demand) → d.moment ≤ n → AreWithin (a.rows + n) ds → AreWithin (a.rows + n) (demanded a.rows d need ds)
  demanded_within d None ds h k = k
  demanded_within d (Some need) ds h k = let within : a.rows + d.moment ≤ a.rows + n = omega (arith, h) in (within, k)

  later_within : (ds : List Demand) → AreWithin n ds → AreWithin (a.rows + n) (later_demands a ds)
  unfolding later_demands
  later_within [] h = tt
  later_within (d ∷ ds) h = demanded_within d (earlier_need a d.need) (later_demands a ds) h.0 (later_within ds h.1)

  demands_within : (ds es : List Demand) → AreWithin a.rows ds → AreWithin (a.rows + n) es → AreWithin (a.rows + n) (ds ++ es)
  demands_within [] es h k = k
  demands_within (d ∷ ds) es h k = let early = h.0 in let within : d.moment ≤ a.rows + n = omega (arith, early) in (within, demands_within ds es h.1 k)

  first_within : (l : Left) → IsLeftWithin a.rows l → IsLeftWithin (a.rows + n) l
  first_within Left.Incoming h = tt
  first_within Left.Cleared h = tt
  first_within (Left.Set x) h = omega (arith, h)

  left_within : (first l : Left) → IsLeftWithin a.rows first → IsLeftWithin n l → IsLeftWithin (a.rows + n) (left_following a first l)
  left_within first Left.Incoming h k = first_within first h
  left_within first Left.Cleared h k = tt
  left_within first (Left.Set x) h k = omega (arith, k)

pub stays_timed : StaysTimed
stays_timed a b h k = record {
  writes = writes_before a b.rows a.writes b.writes h.writes k.writes;
  demands = demands_within a b.rows a.demands (later_demands a b.demands) h.demands (later_within a b.rows b.demands k.demands);
  subject = left_within a b.rows a.subject b.subject h.subject k.subject;
  predicate = left_within a b.rows a.predicate b.predicate h.predicate k.predicate;
  object = left_within a b.rows a.object b.object h.object k.object;
  graph = left_within a b.rows a.graph b.graph h.graph k.graph;
  open_graph = left_within a b.rows a.open_graph b.open_graph h.open_graph k.open_graph;
}
