use Rattle.std.proofs.lemmas.Result.{err_from_is_err_and}
use Rattle.jl_encode.specs.Encoders.{progress}
use Rattle.jl_encode.proofs.ListLemmas.{steady_there, added_none, added_next, added_stopped}
use Rattle.jl_encode.proofs.list.add_all.Goals as goal

pub items-init : goal.items-init
items-init g c = added_none (progress c.args.encoder.now) c.args.items.now _ _ c.requires.fit c.requires.few c.requires.alive

pub items-preserved : goal.items-preserved
items-preserved g c =
    let before = rw c.in-Some.ensures.cases.0 at c.items.invariant in
    let said = c.in_ok-add.ensures in
    added_next (progress c.args.encoder.now) (progress c.items.encoder) c.args.items.now c.in-Some.item.now c.in-Some.behind.now _ _ _ _ before (progress c.add.new.self) _ _ c.in_ok-add.field-0 said.form said.per said.number (steady_there c.in_ok-add.field-0 said.steady) said.goes_on said.adds

pub returns-in_err-add-clause-adds : goal.returns-in_err-add-clause-adds
returns-in_err-add-clause-adds g c stands proper =
    let before = rw c.in-Some.ensures.cases.0 at c.items.invariant in
    let p = err_from_is_err_and c.from_residual.result c.from_residual.ensures.1 in
    rw (p.1, p.2) (added_stopped (progress c.args.encoder.now) (progress c.items.encoder) c.args.items.now c.in-Some.item.now c.in-Some.behind.now _ _ _ _ before (progress c.add.new.self) _ c.in_err-add.field-0.0 c.in_err-add.ensures.adds stands proper)
