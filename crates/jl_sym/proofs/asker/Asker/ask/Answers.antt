use Rattle.std.proofs.Common.{◌∙◌, sym}
use Rattle.jl_sym.specs.Checked.{earlier_of, options_of}
use Rattle.jl_sym.specs.Seen.{need_seen, demands_seen}
use Rattle.jl_sym.proofs.AskLemmas.{asks_marked}
use Rattle.jl_sym.proofs.asker.Asker.ask.Goals as goal

pub returns-then-has-clause-asks : goal.returns-then-has-clause-asks
returns-then-has-clause-asks c =
    asks_marked (options_of c.args.self.now.here.now) (earlier_of c.args.self.now) c.args.self.now.here.now.place.now (demands_seen c.args.demands.now.items) c.args.marks.now c.args.kind (need_seen c.args.need) c.requires.open
    c.requires.good.marked (sym c.has.ensures ∙ c.if-has.true)
