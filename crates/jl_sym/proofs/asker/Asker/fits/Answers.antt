use Rattle.std.proofs.Common.{◌∙◌, List, [], ◌∷◌, Ok, refl, sym, ap, subst}
use Rattle.jl_base.specs.declared.kind.Kind.TheVariants.{BadEntry}
use Rattle.jl_rows.specs.Decoder.{size_of}
use Rattle.jl_sym_laws.specs.Cutting.{is_id_in}
use Rattle.jl_sym_laws.specs.SmallSteps.{demand}
use Rattle.jl_sym_laws.specs.Summaries.{Need, Demand}
use Rattle.jl_sym.specs.declared.relative_id.RelativeId.{RelativeId}
use Rattle.jl_sym.specs.Asking.{Asks}
use Rattle.jl_sym.specs.Checked.{earlier_of, options_of}
use Rattle.jl_sym.specs.Marking.{AreAsked}
use Rattle.jl_sym.specs.Seen.{id_seen, demands_seen}
use Rattle.jl_sym.proofs.AskLemmas.{asks_never, asks_met}
use Rattle.jl_sym.proofs.MarkLemmas.{asked_push}
use Rattle.jl_sym.proofs.asker.Asker.fits.Goals as goal

pub returns-then-not-is_entry-clause-asks : goal.returns-then-not-is_entry-clause-asks
returns-then-not-is_entry-clause-asks c =
    let here = c.args.self.now.here.now in
    asks_never (options_of here) (earlier_of c.args.self.now) here.place.now (demands_seen c.args.demands.now.items) BadEntry (Need.Fits c.args.table (id_seen c.args.id)) c.requires.made (sym c.if-not-is_entry.ensures)

pub returns-then-not-is_entry-clause-good : goal.returns-then-not-is_entry-clause-good
returns-then-not-is_entry-clause-good c = λ marks asked. asked

pub returns-in-Given-clause-asks : goal.returns-in-Given-clause-asks
returns-in-Given-clause-asks c =
    let here = c.args.self.now.here.now in
    let o = options_of here in
    let table = c.args.table in
    let ds = demands_seen c.args.demands.now.items in
    let known = sym (ap (λ (i : RelativeId). is_id_in (size_of o table) (id_seen i)) c.in-Given.is) ∙ sym c.if-not-is_entry.ensures in
    subst (λ (i : RelativeId). Asks o (earlier_of c.args.self.now) here.place.now ds (demand here.place.now BadEntry (Need.Fits table (id_seen i)) ∷ []) ds (Ok tt)) (sym c.in-Given.is)
    (asks_met o (earlier_of c.args.self.now) here.place.now ds BadEntry table c.in-Given.field-0 known)

pub returns-in-Given-clause-good : goal.returns-in-Given-clause-good
returns-in-Given-clause-good c = λ marks asked. asked

pub returns-in_err-push-clause-good : goal.returns-in_err-push-clause-good
returns-in_err-push-clause-good c = λ marks asked. subst (λ (ds : List Demand). AreAsked (earlier_of c.args.self.now) ds marks) (ap demands_seen (sym c.in_err-push.ensures.kept)) asked

pub returns-clause-good : goal.returns-clause-good
returns-clause-good c = λ marks asked.
    let was = earlier_of c.args.self.now in
    subst (λ (ds : List Demand). AreAsked was ds marks) (sym c.in_ok-push.ensures.demands) (asked_push was (demands_seen c.args.demands.now.items) marks _ refl c.requires.made asked)
