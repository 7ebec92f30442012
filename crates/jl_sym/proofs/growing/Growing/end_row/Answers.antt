use Rattle.jl_sym.specs.Checked.{options_of}
use Rattle.jl_sym.specs.Earlier.{earlier_in}
use Rattle.jl_sym.specs.Seen.{growing_seen, demands_seen}
use Rattle.jl_sym.proofs.GrowLemmas.{ends_grows, ends_made}
use Rattle.jl_sym.proofs.MarkLemmas.{marked_later}
use Rattle.jl_sym.proofs.growing.Growing.end_row.Goals as goal

pub returns-clause-grows : goal.returns-clause-grows
returns-clause-grows c =
    let here = c.args.here.now in
    ends_grows (options_of here) (growing_seen here.bytes.now c.args.self.now) here.place.now c.requires.fit.made

pub returns-clause-fit : goal.returns-clause-fit
returns-clause-fit c = record {
  made = ends_made (growing_seen c.args.here.now.bytes.now c.args.self.now) c.requires.fit.made;
  name_entry = c.requires.fit.name_entry;
  prefix_entry = c.requires.fit.prefix_entry;
  datatype_entry = c.requires.fit.datatype_entry;
  name = c.requires.fit.name;
  marked = marked_later (earlier_in (growing_seen c.args.here.now.bytes.now c.args.self.now)) (demands_seen c.args.self.now.demands.items) c.args.marks.now c.requires.fit.marked;
  held = record { writes = c.requires.fit.held.writes; subject = c.requires.fit.held.subject; predicate = c.requires.fit.held.predicate; object = c.requires.fit.held.object; graph = c.requires.fit.held.graph; open_graph = c.requires.fit.held.open_graph };
}
