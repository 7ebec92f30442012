use Rattle.std.proofs.Common.{[], ◌∷◌, Ok, Err, subst}
use Rattle.std.proofs.lemmas.Result.{err_from_is_err_and}
use Rattle.jl_base.specs.declared.kind.Kind.TheVariants.{NoEntry}
use Rattle.jl_rows.specs.declared.row.Table.{Table}
use Rattle.jl_sym.specs.Checked.{earlier_of, options_of}
use Rattle.jl_sym_laws.specs.RelativeIds.{Id, Refs}
use Rattle.jl_sym_laws.specs.Summaries.{Need}
use Rattle.jl_sym_laws.specs.SmallSteps.{demand, text_demands}
use Rattle.jl_sym.specs.Asking.{Asks}
use Rattle.jl_sym.specs.Seen.{demands_seen, word_seen}
use Rattle.jl_sym.proofs.AskLemmas.{asks_then, asks_stopped}
use Rattle.jl_sym.proofs.asker.Asker.iri.Goals as goal

pub returns-in_err-filled-clause-asks : goal.returns-in_err-filled-clause-asks
returns-in_err-filled-clause-asks c =
    let p = err_from_is_err_and c.from_residual.result c.from_residual.ensures.1 in
    let o = options_of c.args.self.now.here.now in
    let was = earlier_of c.args.self.now in
    let place = c.args.self.now.here.now.place.now in
    let old = demands_seen c.args.demands.now.items in
    let stop = c.in_err-filled.field-0.0 in
    let first = subst (λ (i : Id). Asks o was place old (demand place NoEntry (Need.Filled Table.Prefix i) ∷ []) (demands_seen c.filled.new.demands.items) (Err stop)) c.id.ensures c.in_err-filled.ensures.asks in
    rw (p.1, p.2)
    (subst (λ (r : Refs). Asks o was place old (text_demands place r) (demands_seen c.filled.new.demands.items) (Err stop)) c.after-ids.ensures
    (asks_stopped o was place old (demand place NoEntry (Need.Filled Table.Prefix (word_seen c.after-ids.result.prefix)) ∷ [])
    (demand place NoEntry (Need.Filled Table.Name (word_seen c.after-ids.result.name)) ∷ []) (demands_seen c.filled.new.demands.items) stop first))

pub returns-in_err-filled-2-clause-asks : goal.returns-in_err-filled-2-clause-asks
returns-in_err-filled-2-clause-asks c =
    let p = err_from_is_err_and c.from_residual-in_err-filled-2.result c.from_residual-in_err-filled-2.ensures.1 in
    let o = options_of c.args.self.now.here.now in
    let was = earlier_of c.args.self.now in
    let place = c.args.self.now.here.now.place.now in
    let old = demands_seen c.args.demands.now.items in
    let mid = demands_seen c.filled.new.demands.items in
    let stop = c.in_err-filled-2.field-0.0 in
    let first = subst (λ (i : Id). Asks o was place old (demand place NoEntry (Need.Filled Table.Prefix i) ∷ []) mid (Ok tt)) c.id.ensures c.in_ok-filled.ensures.asks in
    let second = subst (λ (i : Id). Asks o was place mid (demand place NoEntry (Need.Filled Table.Name i) ∷ []) (demands_seen c.filled-2.new.demands.items) (Err stop)) c.id-2.ensures c.in_err-filled-2.ensures.asks in
    rw (p.1, p.2)
    (subst (λ (r : Refs). Asks o was place old (text_demands place r) (demands_seen c.filled-2.new.demands.items) (Err stop)) c.after-ids.ensures
    (asks_then o was place old (demand place NoEntry (Need.Filled Table.Prefix (word_seen c.after-ids.result.prefix)) ∷ []) mid
    (demand place NoEntry (Need.Filled Table.Name (word_seen c.after-ids.result.name)) ∷ []) (demands_seen c.filled-2.new.demands.items) (Err stop) first second))

pub returns-clause-asks : goal.returns-clause-asks
returns-clause-asks c =
    let o = options_of c.args.self.now.here.now in
    let was = earlier_of c.args.self.now in
    let place = c.args.self.now.here.now.place.now in
    let old = demands_seen c.args.demands.now.items in
    let mid = demands_seen c.filled.new.demands.items in
    let first = subst (λ (i : Id). Asks o was place old (demand place NoEntry (Need.Filled Table.Prefix i) ∷ []) mid (Ok tt)) c.id.ensures c.in_ok-filled.ensures.asks in
    let second = subst (λ (i : Id). Asks o was place mid (demand place NoEntry (Need.Filled Table.Name i) ∷ []) (demands_seen c.filled-2.new.demands.items) (Ok tt)) c.id-2.ensures c.in_ok-filled-2.ensures.asks in
    subst (λ (r : Refs). Asks o was place old (text_demands place r) (demands_seen c.filled-2.new.demands.items) (Ok tt)) c.after-ids.ensures
    (asks_then o was place old (demand place NoEntry (Need.Filled Table.Prefix (word_seen c.after-ids.result.prefix)) ∷ []) mid
    (demand place NoEntry (Need.Filled Table.Name (word_seen c.after-ids.result.name)) ∷ []) (demands_seen c.filled-2.new.demands.items) (Ok tt) first second)
