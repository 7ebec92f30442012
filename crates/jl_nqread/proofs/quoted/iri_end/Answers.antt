use Rattle.std.proofs.Common.{sym, ◌∙◌, ◌<◌, length, drop, arith}
use Rattle.jl_nqread.specs.Grammar.{iri_char}
use Rattle.jl_nqread.proofs.TakingLaws.{closed_here, closed_bad, closed_more}
use Rattle.jl_nqread.proofs.quoted.iri_end.Goals as goal

pub returns-then-stands-clause-exact : goal.returns-then-stands-clause-exact
returns-then-stands-clause-exact c = c.chars.invariant.0 ∙ closed_here iri_char 62 c.args.bytes.now c.chars.at (c.stands.ensures.inside c.if-stands.true) (sym c.stands.ensures.exact ∙ c.if-stands.true)

pub returns-in_err-size-clause-exact : goal.returns-in_err-size-clause-exact
returns-in_err-size-clause-exact c =
    let none = c.chars.invariant.0 ∙ closed_bad iri_char 62 (drop c.chars.at c.args.bytes.now) (sym c.stands.ensures.exact ∙ c.if-stands.false) (sym c.iri_char.ensures.exact ∙ c.in_err-size.was) in
    rw c.from_residual.ensures none

pub chars-preserved : goal.chars-preserved
chars-preserved c =
    let within = c.in_ok-size.ensures.within in
    let inside : c.chars.at < length c.args.bytes.now = omega (arith, within.0, within.1) in
    (c.chars.invariant.0 ∙ closed_more iri_char 62 c.args.bytes.now c.chars.at c.in_ok-size.size inside (sym c.stands.ensures.exact ∙ c.if-stands.false) (sym c.in_ok-size.ensures.exact) within.0, omega (arith, c.chars.invariant.1))
