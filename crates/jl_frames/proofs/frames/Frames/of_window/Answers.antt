use Rattle.std.proofs.Common.{arith}
use Rattle.jl_frames.proofs.WalkLemmas.{laid_fit}
use Rattle.jl_frames.proofs.frames.Frames.of_window.Goals as goal

pub invariant_of-result : goal.invariant_of-result
invariant_of-result c = (c.requires.few, (λ i body e. (let within = laid_fit c.args.lo c.args.walked.bodies.items c.args.walked.end i body c.requires.laid e in omega (arith, within, c.requires.fits)), tt))
