use Rattle.std.proofs.Common.{Ok}
use Rattle.std.proofs.lemmas.Result.{err_from_is_err_and}
use Rattle.jl_rows.specs.Seen.{position_seen}
use Rattle.jl_rows.specs.Values.{Position}
use Rattle.jl_sym_laws.specs.SmallSteps.{Small, small_step}
use Rattle.jl_sym.specs.Checked.{checked, options_of}
use Rattle.jl_sym.specs.RowSteps.{last_step}
use Rattle.jl_sym.specs.Seen.{growing_seen}
use Rattle.jl_sym.proofs.GrowLemmas.{grows_then, grows_stopped}
use Rattle.jl_sym.proofs.growing.Growing.graph_start.Goals as goal

pub returns-in_err-opens-clause-grows : goal.returns-in_err-opens-clause-grows
returns-in_err-opens-clause-grows c =
    let q = err_from_is_err_and c.from_residual.result c.from_residual.ensures.1 in
    let here = c.args.here.now in
    let o = options_of here in
    let bytes = here.bytes.now in
    rw (q.1, q.2)
    (grows_stopped o here.place.now (small_step (Small.Opens (checked o Position.Graph (position_seen bytes c.args.g.now)))) last_step (growing_seen bytes c.args.self.now) (growing_seen bytes c.opens.new.self) c.in_err-opens.field-0.0 c.in_err-opens.ensures.grows)

pub returns-clause-grows : goal.returns-clause-grows
returns-clause-grows c =
    let here = c.args.here.now in
    let o = options_of here in
    let bytes = here.bytes.now in
    grows_then o here.place.now (small_step (Small.Opens (checked o Position.Graph (position_seen bytes c.args.g.now)))) last_step (growing_seen bytes c.args.self.now) (growing_seen bytes c.opens.new.self) (growing_seen bytes c.end_row.new.self) (Ok tt)
    c.in_ok-opens.ensures.grows c.end_row.ensures.grows
