-- The data of two summaries in one: the second one's follows the first one's, in numbers that the code has.
use Rattle.std.specs.Prelude.{ℕ, ◌+◌, List, ◌++◌, map}
use Rattle.jl_rows.specs.Seen.{term_seen}
use Rattle.jl_sym_laws.specs.RelativeIds.{Refs, following, refs_following}
use Rattle.jl_sym_laws.specs.Symbols.{term_written}
use Rattle.jl_sym_laws.specs.Summaries as sums
use Rattle.jl_sym_laws.specs.Composing.{later_write, later_demands}
use Rattle.jl_sym.specs.declared.summary.Left.{Left}
use Rattle.jl_sym.specs.declared.summary.Left.TheVariants as lefts
use Rattle.jl_sym.specs.declared.summary.Summary.{Summary}
use Rattle.jl_sym.specs.Seen.{refs_seen, left_seen, summary_seen}
use Rattle.jl_compose.specs.Narrowing.{narrow, narrow_refs, narrow_write, narrow_demand}

abbrev pub later_writes : sums.Summary → List sums.Written → List sums.Written
later_writes a ws = map narrow_write (map (later_write a) ws)

abbrev pub narrow_later : sums.Summary → List sums.Demand → List sums.Demand
narrow_later a ds = map narrow_demand (later_demands a ds)

-- What both runs leave of a thing that is kept. A term of the second run stays as it is written: only the last ids
-- before it and its moment follow the first run.
abbrev pub left_later : List ℕ → ℕ → Refs → Left → Left → sums.Left
left_later bytes rows ids first lefts.Incoming = left_seen bytes first
left_later bytes rows ids first lefts.Cleared = sums.Cleared
left_later bytes rows ids first (lefts.Set moment before term) =
    sums.Set (record { moment = rows + moment; term = term_written (narrow_refs (refs_following ids (refs_seen before))) (term_seen bytes term) })

abbrev pub appended : List ℕ → Summary → Summary → sums.Summary
appended bytes a b =
    let x = summary_seen bytes a in
    let y = summary_seen bytes b in
    record {
      rows = x.rows + y.rows;
      writes = x.writes ++ later_writes x y.writes;
      name_entry = narrow (following x.name_entry y.name_entry);
      prefix_entry = narrow (following x.prefix_entry y.prefix_entry);
      datatype_entry = narrow (following x.datatype_entry y.datatype_entry);
      ids = narrow_refs (refs_following x.ids y.ids);
      demands = x.demands ++ narrow_later x y.demands;
      subject = left_later bytes x.rows x.ids a.subject b.subject;
      predicate = left_later bytes x.rows x.ids a.predicate b.predicate;
      object = left_later bytes x.rows x.ids a.object b.object;
      graph = left_later bytes x.rows x.ids a.graph b.graph;
      open_graph = left_later bytes x.rows x.ids a.open_graph b.open_graph;
    }
