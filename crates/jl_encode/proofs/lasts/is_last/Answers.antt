use Rattle.std.proofs.Common.{◌≡◌, Some, sym, ◌∙◌}
use Rattle.jl_base.specs.Items.{value_of}
use Rattle.jl_encoding.specs.Sameness.{is_value}
use Rattle.jl_encoding.proofs.SameLaws.{value_is}
use Rattle.jl_encode.proofs.SameTerms.{is_same}
use Rattle.jl_encode.proofs.lasts.is_last.Goals as goal

pub returns-in-Some-clause-is : goal.returns-in-Some-clause-is
returns-in-Some-clause-is c = rw c.in-Some.is (sym (is_same c.in-Some.held c.args.term.now c.same.result c.same.ensures))

pub returns-in-Some-clause-same : goal.returns-in-Some-clause-same
returns-in-Some-clause-same c true =
    let is : c.same.result ≡ is_value (value_of c.args.term.now) (Some (value_of c.in-Some.held)) = sym (is_same c.in-Some.held c.args.term.now c.same.result c.same.ensures) in
    rw c.in-Some.is (value_is (value_of c.args.term.now) (Some (value_of c.in-Some.held)) (sym is ∙ true))
