use Rattle.std.proofs.Common.{◌∙◌, sym}
use Rattle.jl_base.specs.declared.kind.Kind.TheVariants.{NoEntry}
use Rattle.jl_sym_laws.specs.Summaries.{Need}
use Rattle.jl_sym.specs.Checked.{earlier_of, options_of}
use Rattle.jl_sym.specs.Seen.{id_seen, demands_seen}
use Rattle.jl_sym.proofs.AskLemmas.{asks_never, asks_marked}
use Rattle.jl_sym.proofs.asker.Asker.filled.Goals as goal

pub returns-then-not-is_reference-clause-asks : goal.returns-then-not-is_reference-clause-asks
returns-then-not-is_reference-clause-asks c =
    asks_never (options_of c.args.self.now.here.now) (earlier_of c.args.self.now) c.args.self.now.here.now.place.now (demands_seen c.args.demands.now.items) NoEntry (Need.Filled c.args.table (id_seen c.args.id))
    c.requires.made (sym c.if-not-is_reference.ensures)

pub returns-then-has_slot-clause-asks : goal.returns-then-has_slot-clause-asks
returns-then-has_slot-clause-asks c =
    asks_marked (options_of c.args.self.now.here.now) (earlier_of c.args.self.now) c.args.self.now.here.now.place.now (demands_seen c.args.demands.now.items) c.args.marks.now NoEntry (Need.Filled c.args.table (id_seen c.args.id))
    (sym c.if-not-is_reference.ensures) c.requires.good.marked (sym c.has_slot.ensures ∙ c.if-has_slot.true)
