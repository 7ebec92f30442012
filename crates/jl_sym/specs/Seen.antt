-- What the code's summaries stand for: texts in place of where they lie, and terms in place of how a row wrote them.
use Rattle.std.specs.Prelude.{ℕ, ◌-◌, ◌^◌, ◌≤◌, List, map, nat_lt, if◌then◌else◌}
use Rattle.jl_rows.specs.declared.row.Table.{Table}
use Rattle.jl_rows.specs.Decoder.{most_entries}
use Rattle.jl_rows.specs.Seen.{term_seen}
use Rattle.jl_state.specs.Extents.{text_in}
use Rattle.jl_state.specs.Positions.{position_of}
use Rattle.jl_sym_laws.specs.RelativeIds as ids
use Rattle.jl_sym_laws.specs.Symbols.{term_written}
use Rattle.jl_sym_laws.specs.Summaries as sums
use Rattle.jl_sym_laws.specs.Cutting.{IsMadeReference}
use Rattle.jl_sym.specs.declared.relative_id.RelativeId.{RelativeId}
use Rattle.jl_sym.specs.declared.relative_id.RelativeId.TheVariants as relatives
use Rattle.jl_sym.specs.declared.relative_id.Refs.{Refs}
use Rattle.jl_sym.specs.declared.id_word.IdWord.{IdWord}
use Rattle.jl_sym.specs.declared.id_word.RefWords.{RefWords}
use Rattle.jl_sym.specs.declared.demand.Kept.{Kept}
use Rattle.jl_sym.specs.declared.demand.Kept.TheVariants as kepts
use Rattle.jl_sym.specs.declared.demand.Need.{Need}
use Rattle.jl_sym.specs.declared.demand.Need.TheVariants as needs
use Rattle.jl_sym.specs.declared.demand.Demand.{Demand}
use Rattle.jl_sym.specs.declared.summary.Write.{Write}
use Rattle.jl_sym.specs.declared.summary.Left.{Left}
use Rattle.jl_sym.specs.declared.summary.Left.TheVariants as lefts
use Rattle.jl_sym.specs.declared.summary.Summary.{Summary}
use Rattle.jl_sym.specs.declared.growing.Last.{Last}
use Rattle.jl_sym.specs.declared.growing.Last.TheVariants as lasts
use Rattle.jl_sym.specs.declared.growing.Growing.{Growing}

abbrev pub id_seen : RelativeId → ids.Id
id_seen (relatives.Given n) = ids.Given n
id_seen (relatives.After k) = ids.After k

abbrev pub refs_seen : Refs → ids.Refs
refs_seen r = record { prefix = id_seen r.prefix; name = id_seen r.name }

-- a number that a table may have
abbrev pub IsSmall : RelativeId → Type 0
IsSmall (relatives.Given n) = n ≤ most_entries
IsSmall (relatives.After k) = k ≤ most_entries

-- an id in one word: from 2^32 on, so many after the incoming last one
abbrev pub word_seen : IdWord → ids.Id
word_seen w = if nat_lt w.word (2 ^ 32) then ids.Given w.word else ids.After (w.word - 2 ^ 32)

abbrev pub words_seen : RefWords → ids.Refs
words_seen r = record { prefix = word_seen r.prefix; name = word_seen r.name }

abbrev pub IsSmallId : ids.Id → Type 0
IsSmallId (ids.Given n) = n ≤ most_entries
IsSmallId (ids.After k) = k ≤ most_entries

-- what the last ids keep of themselves
pub record HasLast (r : RefWords) : Type 0 where
  pub name : IsSmallId (word_seen r.name)
  pub prefix : IsMadeReference Table.Prefix (word_seen r.prefix)

abbrev pub kept_seen : Kept → sums.Kept
kept_seen (kepts.LastAt x) = sums.LastAt (position_of x)
kept_seen kepts.OpenGraph = sums.OpenGraph

abbrev pub need_seen : Need → sums.Need
need_seen (needs.Fits t id) = sums.Fits t (id_seen id)
need_seen (needs.Filled t id) = sums.Filled t (id_seen id)
need_seen (needs.Has x) = sums.Has (kept_seen x)
need_seen (needs.Lacks x) = sums.Lacks (kept_seen x)
need_seen needs.Never = sums.Never

abbrev pub demand_seen : Demand → sums.Demand
demand_seen d = record { moment = d.moment; fault = d.fault; need = need_seen d.need }

abbrev pub demands_seen : List Demand → List sums.Demand
demands_seen ds = map demand_seen ds

abbrev pub write_seen : List ℕ → Write → sums.Written
write_seen bytes w = record { moment = w.moment; table = w.table; id = id_seen w.id; text = text_in bytes w.text }

-- a term as it is written, with the last ids before it and the moment at which its texts are read
abbrev pub left_seen : List ℕ → Left → sums.Left
left_seen bytes lefts.Incoming = sums.Incoming
left_seen bytes lefts.Cleared = sums.Cleared
left_seen bytes (lefts.Set moment before term) = sums.Set (record { moment = moment; term = term_written (refs_seen before) (term_seen bytes term) })

abbrev pub summary_seen : List ℕ → Summary → sums.Summary
summary_seen bytes m = record {
  rows = m.rows;
  writes = map (write_seen bytes) m.writes.items;
  name_entry = id_seen m.name_entry;
  prefix_entry = id_seen m.prefix_entry;
  datatype_entry = id_seen m.datatype_entry;
  ids = refs_seen m.ids;
  demands = demands_seen m.demands.items;
  subject = left_seen bytes m.subject;
  predicate = left_seen bytes m.predicate;
  object = left_seen bytes m.object;
  graph = left_seen bytes m.graph;
  open_graph = left_seen bytes m.open_graph;
}

-- A summary that is being made: what it leaves so far stays where the rows lie.
abbrev pub last_seen : List ℕ → Last → sums.Left
last_seen bytes lasts.Incoming = sums.Incoming
last_seen bytes lasts.Cleared = sums.Cleared
last_seen bytes (lasts.Set moment before term) = sums.Set (record { moment = moment; term = term_written (words_seen before) (term_seen bytes term.now) })

abbrev pub growing_seen : List ℕ → Growing → sums.Summary
growing_seen bytes m = record {
  rows = m.rows;
  writes = map (write_seen bytes) m.writes.items;
  name_entry = id_seen m.name_entry;
  prefix_entry = id_seen m.prefix_entry;
  datatype_entry = id_seen m.datatype_entry;
  ids = words_seen m.ids;
  demands = demands_seen m.demands.items;
  subject = last_seen bytes m.subject;
  predicate = last_seen bytes m.predicate;
  object = last_seen bytes m.object;
  graph = last_seen bytes m.graph;
  open_graph = last_seen bytes m.open_graph;
}
