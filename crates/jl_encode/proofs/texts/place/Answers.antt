use Rattle.std.proofs.Common.{◌∙◌}
use Rattle.jl_encode.proofs.HeldLemmas.{place_is}
use Rattle.jl_encode.proofs.texts.place.Goals as goal

pub returns-in-None-clause-exact : goal.returns-in-None-clause-exact
returns-in-None-clause-exact c = c.in-None.ensures.index ∙ place_is (λ v. v.items) c.args.text.now c.args.held.now.keys

pub returns-in-Some-clause-exact : goal.returns-in-Some-clause-exact
returns-in-Some-clause-exact c = c.in-Some.ensures.index ∙ place_is (λ v. v.items) c.args.text.now c.args.held.now.keys
