use Rattle.std.proofs.Common.{refl, sym, ◌∙◌}
use Rattle.jl_encode.specs.Encoders.{progress}
use Rattle.jl_encode.proofs.Finishing.{nothing_left, frame_left, front_left}
use Rattle.jl_encode.proofs.encoder.Encoder.finish.Goals as goal

pub returns-then-is_done-clause-finishes : goal.returns-then-is_done-clause-finishes
returns-then-is_done-clause-finishes g c is stands = nothing_left (progress c.args.self.now) is stands _ _ (sym c.is_done.ensures ∙ c.if-is_done.true) refl

pub returns-in_default-clause-finishes : goal.returns-in_default-clause-finishes
returns-in_default-clause-finishes g c is stands = let adds = rw c.deref.ensures.value at c.in_default.ensures.adds in front_left (progress c.args.self.now) is stands _ _ _ (sym c.is_done.ensures ∙ c.if-is_done.false) adds

pub returns-clause-finishes : goal.returns-clause-finishes
returns-clause-finishes g c is stands = let adds = rw c.deref.ensures.value at c.in-Ok.ensures.adds in frame_left (progress c.args.self.now) is stands _ _ c.in-Ok.field-0 (sym c.is_done.ensures ∙ c.if-is_done.false) adds
