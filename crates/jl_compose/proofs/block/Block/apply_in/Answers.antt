use Rattle.std.proofs.Common.{ap, sym, ◌∙◌, ◌∷◌}
use Rattle.std.proofs.lemmas.Result.{err_from_is_err_and}
use Rattle.jl_sym.specs.declared.summary.Summary.{Summary}
use Rattle.jl_compose.proofs.Leaves.{acting_on, acting_stopped, acting_end}
use Rattle.jl_compose.proofs.block.Block.apply_in.Goals as goal

pub leaves-preserved : goal.leaves-preserved
leaves-preserved c =
    let e = c.in-Some.ensures.cases.0 ∙ ap (λ (m : Summary). m ∷ c.in-Some.others.now) (sym c.get.ensures) in
    acting_on c.args.bytes.now c.args.self.now.leaves.items c.args.state.now c.get.result.now c.in-Some.others.now c.leaves.rest.now c.leaves.state e c.leaves.invariant c.apply_in.new.state
    c.in_ok-apply_in.ensures.exact c.in_ok-apply_in.ensures.state c.in_ok-apply_in.ensures.settled c.in_ok-apply_in.ensures.options

pub returns-in_err-apply_in-clause-exact : goal.returns-in_err-apply_in-clause-exact
returns-in_err-apply_in-clause-exact c =
    let e = c.in-Some.ensures.cases.0 ∙ ap (λ (m : Summary). m ∷ c.in-Some.others.now) (sym c.get.ensures) in
    let p = err_from_is_err_and c.from_residual.result c.from_residual.ensures.1 in
    rw (p.1, p.2) (acting_stopped c.args.bytes.now c.args.self.now.leaves.items c.args.state.now c.get.result.now c.in-Some.others.now c.leaves.rest.now c.leaves.state e c.leaves.invariant c.in_err-apply_in.field-0.0 c.in_err-apply_in.ensures.exact)

pub returns-clause-exact : goal.returns-clause-exact
returns-clause-exact c = acting_end c.args.bytes.now c.args.self.now.leaves.items c.args.state.now c.leaves.rest.now c.leaves.state c.in_default.ensures.cases c.leaves.invariant
