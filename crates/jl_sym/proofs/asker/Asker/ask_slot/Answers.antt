use Rattle.std.proofs.Common.{List, refl, sym, subst}
use Rattle.jl_sym_laws.specs.Summaries.{Demand, Need}
use Rattle.jl_sym.specs.Marking.{AreAsked}
use Rattle.jl_sym.specs.Checked.{earlier_of}
use Rattle.jl_sym.specs.Seen.{id_seen, demands_seen}
use Rattle.jl_sym.proofs.AskLemmas.{good_push}
use Rattle.jl_sym.proofs.MarkLemmas.{marked_push}
use Rattle.jl_sym.proofs.asker.Asker.ask_slot.Goals as goal

pub returns-then-len-capacity-clause-good : goal.returns-then-len-capacity-clause-good
returns-then-len-capacity-clause-good c =
    let was = earlier_of c.args.self.now in
    subst (λ (ds : List Demand). AreAsked was ds c.ask_slot_later.new.marks) (sym c.in_ok-ask_slot_later.ensures.demands)
    (record {
      good = good_push was.rows (demands_seen c.args.demands.now.items) _ c.requires.good.good refl c.requires.made;
      marked = marked_push was (demands_seen c.args.demands.now.items) c.args.marks.now c.ask_slot_later.new.marks (Need.Filled c.args.table (id_seen c.args.id)) _ refl refl c.in_ok-ask_slot_later.ensures.marked c.requires.good.marked;
    })

pub returns-clause-good : goal.returns-clause-good
returns-clause-good c =
    let was = earlier_of c.args.self.now in
    subst (λ (ds : List Demand). AreAsked was ds c.mark_slot.new.self) (sym c.in_ok-push.ensures.demands)
    (record {
      good = good_push was.rows (demands_seen c.args.demands.now.items) _ c.requires.good.good refl c.requires.made;
      marked = marked_push was (demands_seen c.args.demands.now.items) c.args.marks.now c.mark_slot.new.self (Need.Filled c.args.table (id_seen c.args.id)) _ refl refl c.mark_slot.ensures c.requires.good.marked;
    })
