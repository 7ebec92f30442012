-- Two runs, one after the other.
use Rattle.std.specs.Prelude.{ℕ, ◌+◌, ◌<◌, ◌≤◌, List, [], ◌∷◌, ◌++◌, map, Option, Some, None}
use Rattle.jl_sym_laws.specs.RelativeIds.{following, refs_following}
use Rattle.jl_sym_laws.specs.Symbols.{term_following}
use Rattle.jl_sym_laws.specs.Summaries.{Written, Kept, Need, Demand, Left, Summary, entry_in, last_in, left_in}

-- a write of the second run
abbrev pub later_write : Summary → Written → Written
later_write a w = record w { moment = a.rows + w.moment; id = following (entry_in a w.table) w.id }

-- Of a thing that is kept, the first run may decide a need: it is met, or never, or left to the incoming state.
abbrev pub has_left : Kept → Left → Option Need
has_left x Left.Incoming = Some (Need.Has x)
has_left x Left.Cleared = Some Need.Never
has_left x (Left.Set h) = None

abbrev pub lacks_left : Kept → Left → Option Need
lacks_left x Left.Incoming = Some (Need.Lacks x)
lacks_left x Left.Cleared = None
lacks_left x (Left.Set h) = Some Need.Never

-- what the second run needs of the state before the first; None where it is met already
abbrev pub earlier_need : Summary → Need → Option Need
earlier_need a (Need.Fits t id) = Some (Need.Fits t (following (entry_in a t) id))
earlier_need a (Need.Filled t id) = Some (Need.Filled t (following (last_in a.ids t) id))
earlier_need a (Need.Has x) = has_left x (left_in a x)
earlier_need a (Need.Lacks x) = lacks_left x (left_in a x)
earlier_need a Need.Never = Some Need.Never

-- a demand of the second run, before further ones
abbrev pub demanded : ℕ → Demand → Option Need → List Demand → List Demand
demanded rows d None ds = ds
demanded rows d (Some need) ds = record d { moment = rows + d.moment; need = need } ∷ ds

unfoldable pub later_demands : Summary → List Demand → List Demand
later_demands a [] = []
later_demands a (d ∷ ds) = demanded a.rows d (earlier_need a d.need) (later_demands a ds)

-- what both runs leave of a thing that is kept
abbrev pub left_following : Summary → Left → Left → Left
left_following a first Left.Incoming = first
left_following a first Left.Cleared = Left.Cleared
left_following a first (Left.Set h) = Left.Set (record { moment = a.rows + h.moment; term = term_following a.ids h.term })

abbrev pub composed : Summary → Summary → Summary
composed a b = record {
  rows = a.rows + b.rows;
  writes = a.writes ++ map (later_write a) b.writes;
  name_entry = following a.name_entry b.name_entry;
  prefix_entry = following a.prefix_entry b.prefix_entry;
  datatype_entry = following a.datatype_entry b.datatype_entry;
  ids = refs_following a.ids b.ids;
  demands = a.demands ++ later_demands a b.demands;
  subject = left_following a a.subject b.subject;
  predicate = left_following a a.predicate b.predicate;
  object = left_following a a.object b.object;
  graph = left_following a a.graph b.graph;
  open_graph = left_following a a.open_graph b.open_graph;
}

-- No moment lies after the run: writes are before its end, and what is read is read at the end at the latest.
abbrev pub AreBefore : ℕ → List Written → Type 0
AreBefore rows [] = Unit {0}
AreBefore rows (w ∷ ws) = (w.moment < rows) × AreBefore rows ws

abbrev pub AreWithin : ℕ → List Demand → Type 0
AreWithin rows [] = Unit {0}
AreWithin rows (d ∷ ds) = (d.moment ≤ rows) × AreWithin rows ds

abbrev pub IsLeftWithin : ℕ → Left → Type 0
IsLeftWithin rows Left.Incoming = Unit {0}
IsLeftWithin rows Left.Cleared = Unit {0}
IsLeftWithin rows (Left.Set h) = h.moment ≤ rows

pub record Timed (m : Summary) : Type 0 where
  pub writes : AreBefore m.rows m.writes
  pub demands : AreWithin m.rows m.demands
  pub subject : IsLeftWithin m.rows m.subject
  pub predicate : IsLeftWithin m.rows m.predicate
  pub object : IsLeftWithin m.rows m.object
  pub graph : IsLeftWithin m.rows m.graph
  pub open_graph : IsLeftWithin m.rows m.open_graph
