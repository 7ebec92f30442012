use Rattle.jl_wire.proofs.AsciiRuns.{all_low, first_high}
use Rattle.jl_wire.proofs.text.ascii_run.Goals as goal

pub returns-then-high-eq0 : goal.returns-then-high-eq0
returns-then-high-eq0 c = all_low _ _ c.requires c.if-high-eq0.true

pub returns : goal.returns
returns c = first_high _ _ c.requires c.if-high-eq0.false
