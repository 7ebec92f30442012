-- What summaries keep of themselves: it holds again of two in one.
use Rattle.std.proofs.Common.{ℕ, List, [], ◌∷◌, ◌++◌, map, arith}
use Rattle.jl_rows.specs.declared.row.Table.{Table}
use Rattle.jl_sym_laws.specs.RelativeIds.{Id}
use Rattle.jl_sym_laws.specs.Summaries as sums
use Rattle.jl_sym_laws.specs.Composing.{later_write, later_demands, left_following, composed, AreBefore, AreWithin, IsLeftWithin}
use Rattle.jl_sym_laws.specs.Cutting.{IsNext, IsMadeReference, IsMadeNeed, AreMadeWrites, AreMadeDemands, IsMade}
use Rattle.jl_sym_laws.proofs.Made.{made_stays}
use Rattle.jl_sym.specs.declared.summary.Left.{Left}
use Rattle.jl_sym.specs.declared.summary.Left.TheVariants as lefts
use Rattle.jl_sym.specs.declared.summary.Summary.{Summary}
use Rattle.jl_sym.specs.Seen.{left_seen, summary_seen}
use Rattle.jl_compose.specs.Narrowing.{narrow, narrow_write, narrow_need, narrow_demand}
use Rattle.jl_compose.specs.Appending.{left_later, appended}

next_narrow : (i : Id) → IsNext i → IsNext (narrow i)
next_narrow (Id.Given n) h = omega (arith, h)
next_narrow (Id.After k) h = omega (arith, h)

reference_narrow : (t : Table) (i : Id) → IsMadeReference t i → IsMadeReference t (narrow i)
reference_narrow Table.Name i h = next_narrow i h
reference_narrow Table.Prefix (Id.Given n) h = omega (arith, h)
reference_narrow Table.Prefix (Id.After k) h = omega (arith, h)
reference_narrow Table.Datatype (Id.Given n) h = tt
reference_narrow Table.Datatype (Id.After k) h = h

need_narrow : (n : sums.Need) → IsMadeNeed n → IsMadeNeed (narrow_need n)
need_narrow (sums.Need.Fits t id) h = next_narrow id h
need_narrow (sums.Need.Filled t id) h = reference_narrow t id h
need_narrow (sums.Need.Has x) h = tt
need_narrow (sums.Need.Lacks (sums.Kept.LastAt x)) h = h
need_narrow (sums.Need.Lacks sums.Kept.OpenGraph) h = tt
need_narrow sums.Need.Never h = tt

-- the second part of a list with narrow ids
before_narrow : (n : ℕ) (us ws : List sums.Written) → AreBefore n (us ++ ws) → AreBefore n (us ++ map narrow_write ws)
before_narrow n [] [] h = tt
before_narrow n [] (w ∷ ws) h = (h.0, before_narrow n [] ws h.1)
before_narrow n (u ∷ us) ws h = (h.0, before_narrow n us ws h.1)

within_narrow : (n : ℕ) (cs ds : List sums.Demand) → AreWithin n (cs ++ ds) → AreWithin n (cs ++ map narrow_demand ds)
within_narrow n [] [] h = tt
within_narrow n [] (d ∷ ds) h = (h.0, within_narrow n [] ds h.1)
within_narrow n (c ∷ cs) ds h = (h.0, within_narrow n cs ds h.1)

writes_narrow : (n : ℕ) (us ws : List sums.Written) → AreMadeWrites n (us ++ ws) → AreMadeWrites n (us ++ map narrow_write ws)
writes_narrow n [] [] h = tt
writes_narrow n [] (w ∷ ws) h = (h.0, next_narrow w.id h.1, writes_narrow w.moment [] ws h.2)
writes_narrow n (u ∷ us) ws h = (h.0, h.1, writes_narrow u.moment us ws h.2)

demands_narrow : (n : ℕ) (cs ds : List sums.Demand) → AreMadeDemands n (cs ++ ds) → AreMadeDemands n (cs ++ map narrow_demand ds)
demands_narrow n [] [] h = tt
demands_narrow n [] (d ∷ ds) h = (h.0, need_narrow d.need h.1, demands_narrow d.moment [] ds h.2)
demands_narrow n (c ∷ cs) ds h = (h.0, h.1, demands_narrow c.moment cs ds h.2)

left_within : (n : ℕ) (bytes : List ℕ) (a : sums.Summary) (first l : Left) → IsLeftWithin n (left_following a (left_seen bytes first) (left_seen bytes l)) → IsLeftWithin n (left_later bytes a.rows a.ids first l)
left_within n bytes a first lefts.Incoming h = h
left_within n bytes a first lefts.Cleared h = tt
left_within n bytes a first (lefts.Set moment r t) h = h

pub appended_made : (bytes : List ℕ) (a b : Summary) → IsMade (summary_seen bytes a) → IsMade (summary_seen bytes b) → IsMade (appended bytes a b)
appended_made bytes a b h k =
    let x = summary_seen bytes a in
    let y = summary_seen bytes b in
    let d = composed x y in
    let whole : IsMade d = made_stays x y h k in
    record {
      timed = record {
        writes = before_narrow d.rows x.writes (map (later_write x) y.writes) whole.timed.writes;
        demands = within_narrow d.rows x.demands (later_demands x y.demands) whole.timed.demands;
        subject = left_within d.rows bytes x a.subject b.subject whole.timed.subject;
        predicate = left_within d.rows bytes x a.predicate b.predicate whole.timed.predicate;
        object = left_within d.rows bytes x a.object b.object whole.timed.object;
        graph = left_within d.rows bytes x a.graph b.graph whole.timed.graph;
        open_graph = left_within d.rows bytes x a.open_graph b.open_graph whole.timed.open_graph;
      };
      writes = writes_narrow 0 x.writes (map (later_write x) y.writes) whole.writes;
      demands = demands_narrow 0 x.demands (later_demands x y.demands) whole.demands;
      prefix = reference_narrow Table.Prefix d.ids.prefix whole.prefix;
    }
