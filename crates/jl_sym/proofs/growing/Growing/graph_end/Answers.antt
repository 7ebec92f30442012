use Rattle.std.proofs.lemmas.Result.{err_from_is_err_and}
use Rattle.jl_sym_laws.specs.SmallSteps.{Small, small_step}
use Rattle.jl_sym.specs.Checked.{options_of}
use Rattle.jl_sym.specs.RowSteps.{last_step}
use Rattle.jl_sym.specs.Seen.{growing_seen}
use Rattle.jl_sym.proofs.GrowLemmas.{grows_stopped}
use Rattle.jl_sym.proofs.growing.Growing.graph_end.Goals as goal

pub returns-in_err-closes-clause-grows : goal.returns-in_err-closes-clause-grows
returns-in_err-closes-clause-grows c =
    let q = err_from_is_err_and c.from_residual.result c.from_residual.ensures.1 in
    let here = c.args.here.now in
    let bytes = here.bytes.now in
    rw (q.1, q.2)
    (grows_stopped (options_of here) here.place.now (small_step Small.Closes) last_step (growing_seen bytes c.args.self.now) (growing_seen bytes c.closes.new.self) c.in_err-closes.field-0.0 c.in_err-closes.ensures.grows)
