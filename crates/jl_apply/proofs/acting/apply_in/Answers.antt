use Rattle.std.proofs.Common.{◌≡◌, Ok, refl, ap, sym, ◌∙◌}
use Rattle.std.proofs.lemmas.Result.{err_from_is_err_and}
use Rattle.jl_rows.specs.declared.row.Table.{Table}
use Rattle.jl_rows.specs.Written.{Ids}
use Rattle.jl_state.specs.declared.state.State.{State}
use Rattle.jl_state.specs.Lawful.{state_seen}
use Rattle.jl_sym_laws.specs.RelativeIds.{real}
use Rattle.jl_sym_laws.specs.Acting.{act}
use Rattle.jl_sym_laws.specs.Staying.{IsSettled}
use Rattle.jl_rows.specs.Seen.{options_seen}
use Rattle.jl_sym.specs.Seen.{id_seen, summary_seen}
use Rattle.jl_apply.proofs.Acts.{IsPut, acts, plays_err, lawful_after}
use Rattle.jl_apply.proofs.acting.apply_in.Goals as goal

pub returns-in_err-terms-clause-exact : goal.returns-in_err-terms-clause-exact
returns-in_err-terms-clause-exact c =
    let p = err_from_is_err_and c.from_residual.result c.from_residual.ensures.1 in
    rw (p.1, p.2) (plays_err c.args.bytes.now c.args.summary.now c.args.state.now c.play_all.new.tables c.in_err-terms.field-0.0 (c.in_err-terms.ensures.plays (state_seen c.args.bytes.now c.args.state.now) c.of-incoming.ensures.is refl))

abbrev left : goal.After-put-5 → State
left c = record {
  options = c.args.state.now.options;
  tables = c.play_all.new.tables;
  name_entry = c.real-state.result;
  prefix_entry = c.real-state-2.result;
  datatype_entry = c.real-state-3.result;
  last = record { prefix = c.real.result; name = c.real-2.result };
  subject = c.put.new.kept;
  predicate = c.put-2.new.kept;
  object = c.put-3.new.kept;
  graph = c.put-4.new.kept;
  open_graph = c.put-5.new.kept;
}

is_put : (c : goal.After-put-5) → IsPut c.args.summary.now c.args.state.now c.play_all.new.tables c.in_ok-terms.terms (left c)
is_put c = record {
  tables = refl;
  name_entry = c.real-state.ensures ∙ ap (real (id_seen c.args.summary.now.name_entry)) (sym (c.of-incoming.ensures.is.entries Table.Name));
  prefix_entry = c.real-state-2.ensures ∙ ap (real (id_seen c.args.summary.now.prefix_entry)) (sym (c.of-incoming.ensures.is.entries Table.Prefix));
  datatype_entry = c.real-state-3.ensures ∙ ap (real (id_seen c.args.summary.now.datatype_entry)) (sym (c.of-incoming.ensures.is.entries Table.Datatype));
  prefix = c.real.ensures ∙ ap (λ (i : Ids). real (id_seen c.args.summary.now.ids.prefix) i.prefix) (sym c.of-incoming.ensures.is.ids);
  name = c.real-2.ensures ∙ ap (λ (i : Ids). real (id_seen c.args.summary.now.ids.name) i.name) (sym c.of-incoming.ensures.is.ids);
  subject = c.put.ensures;
  predicate = c.put-2.ensures;
  object = c.put-3.ensures;
  graph = c.put-4.ensures;
  open_graph = c.put-5.ensures;
}

exact : (c : goal.After-put-5) → act (summary_seen c.args.bytes.now c.args.summary.now) (state_seen c.args.bytes.now c.args.state.now) ≡ Ok (state_seen c.args.bytes.now (left c))
exact c =
    acts c.args.bytes.now c.args.summary.now c.args.state.now (left c) c.play_all.new.tables c.in_ok-terms.terms
    (c.in_ok-terms.ensures.plays (state_seen c.args.bytes.now c.args.state.now) c.of-incoming.ensures.is refl) (is_put c)

pub returns-clause-exact : goal.returns-clause-exact
returns-clause-exact c = exact c

settles : (c : goal.After-put-5) → IsSettled (options_seen c.args.bytes.now c.args.state.now.options) (state_seen c.args.bytes.now (left c))
settles c = c.requires.lawful.settles (state_seen c.args.bytes.now c.args.state.now) (state_seen c.args.bytes.now (left c)) c.requires.settled (exact c)

pub returns-clause-settled : goal.returns-clause-settled
returns-clause-settled c = settles c

pub returns-clause-state : goal.returns-clause-state
returns-clause-state c =
    lawful_after (options_seen c.args.bytes.now c.args.state.now.options) c.args.bytes.now c.args.summary.now c.args.state.now (left c) c.play_all.new.tables c.in_ok-terms.terms c.requires.state refl (is_put c)
    c.play_all.ensures.kept c.in_ok-terms.ensures.has (settles c)
