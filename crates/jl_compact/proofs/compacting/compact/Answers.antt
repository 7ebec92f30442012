use Rattle.std.proofs.Common.{sym, subst, ap, ◌∙◌}
use Rattle.std.proofs.lemmas.Result.{on_ok_weaker}
use Rattle.jl_rows.specs.Seen.{options_seen}
use Rattle.jl_sym_laws.specs.Acting.{act}
use Rattle.jl_sym_laws.specs.Cutting.{IsSmall}
use Rattle.jl_sym_laws.specs.Summaries as sums
use Rattle.jl_sym_laws.proofs.Made.{fitted_is_small}
use Rattle.jl_sym.specs.Seen.{summary_seen}
use Rattle.jl_compact.proofs.Fitting.{fitted_acts, shrunk_lawful}
use Rattle.jl_compact.proofs.compacting.compact.Goals as goal

pub returns-clause-acts : goal.returns-clause-acts
returns-clause-acts c =
    let o = options_seen c.args.bytes.now c.args.options.now in
    let m = summary_seen c.args.bytes.now c.args.summary.now in
    on_ok_weaker c.shrink.result (λ same s sized. ap (λ (n : sums.Summary). act n s) same ∙ fitted_acts o m s c.requires.lawful.made sized) c.shrink.ensures.exact

pub returns-clause-small : goal.returns-clause-small
returns-clause-small c =
    let o = options_seen c.args.bytes.now c.args.options.now in
    let m = summary_seen c.args.bytes.now c.args.summary.now in
    on_ok_weaker c.shrink.result (λ same. subst (IsSmall o) (sym same) (fitted_is_small o m c.requires.lawful.made)) c.shrink.ensures.exact

pub returns-clause-lawful : goal.returns-clause-lawful
returns-clause-lawful c =
    let o = options_seen c.args.bytes.now c.args.options.now in
    let e = c.shrink.ensures in
    shrunk_lawful o c.args.bytes.now c.args.summary.now c.shrink.new.summary c.shrink.result e.exact e.texts e.lefts e.same c.requires.lawful
