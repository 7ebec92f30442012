use Rattle.std.proofs.Common.{subst, sym}
use Rattle.jl_state.specs.declared.known.KnownTail.{KnownTail}
use Rattle.jl_state.specs.declared.known.KnownTail.TheVariants as tails
use Rattle.jl_state.specs.Carries.{CarriesTail}
use Rattle.jl_state.specs.KnownTerms.{HasTail}
use Rattle.jl_state.proofs.Carrying.{typed_carried}
use Rattle.jl_state.proofs.carry.carry_tail.Goals as goal

pub returns-in_ok-carried-in-Typed-clause-carries : goal.returns-in_ok-carried-in-Typed-clause-carries
returns-in_ok-carried-in-Typed-clause-carries c =
    let sound = subst (λ (t : KnownTail). HasTail c.args.from.now t) c.in-Typed.is c.requires in
    subst (λ (t : KnownTail). CarriesTail c.args.from.now c.carried-in-Typed.new.into t (tails.Typed c.in_ok-carried-in-Typed.field-0)) (sym c.in-Typed.is)
    (typed_carried c.args.from.now c.carried-in-Typed.new.into c.in-Typed.datatype c.in_ok-carried-in-Typed.field-0 sound c.in_ok-carried-in-Typed.ensures.carries)
