use Rattle.std.proofs.lemmas.Result.{err_from_is_err_and}
use Rattle.jl_rows.specs.Seen.{position_seen}
use Rattle.jl_sym_laws.specs.SmallSteps.{Small, small_step}
use Rattle.jl_sym.specs.Checked.{options_of}
use Rattle.jl_sym.specs.RowSteps.{three_on}
use Rattle.jl_sym.specs.Seen.{growing_seen}
use Rattle.jl_sym.proofs.GrowLemmas.{grows_then, grows_stopped}
use Rattle.jl_sym.proofs.growing.Growing.triple_inside.Goals as goal

pub returns-in_err-in_graph-clause-grows : goal.returns-in_err-in_graph-clause-grows
returns-in_err-in_graph-clause-grows c =
    let q = err_from_is_err_and c.from_residual.result c.from_residual.ensures.1 in
    let here = c.args.here.now in
    let o = options_of here in
    let bytes = here.bytes.now in
    let x = position_seen bytes c.args.t.now.s in
    let y = position_seen bytes c.args.t.now.p in
    let z = position_seen bytes c.args.t.now.o in
    rw (q.1, q.2)
    (grows_stopped o here.place.now (small_step Small.IsInGraph) (three_on o x y z) (growing_seen bytes c.args.self.now) (growing_seen bytes c.in_graph.new.self) c.in_err-in_graph.field-0.0 c.in_err-in_graph.ensures.grows)

pub returns-clause-grows : goal.returns-clause-grows
returns-clause-grows c =
    let here = c.args.here.now in
    let o = options_of here in
    let bytes = here.bytes.now in
    let x = position_seen bytes c.args.t.now.s in
    let y = position_seen bytes c.args.t.now.p in
    let z = position_seen bytes c.args.t.now.o in
    grows_then o here.place.now (small_step Small.IsInGraph) (three_on o x y z) (growing_seen bytes c.args.self.now) (growing_seen bytes c.in_graph.new.self) (growing_seen bytes c.triple.new.self) c.triple.result c.in_ok-in_graph.ensures.grows c.triple.ensures.grows
