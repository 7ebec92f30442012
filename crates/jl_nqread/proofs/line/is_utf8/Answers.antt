use Rattle.jl_wire.proofs.Texts.{same_test}
use Rattle.jl_nqread.proofs.line.is_utf8.Goals as goal

pub returns : goal.returns
returns c = same_test _ _ c.is_utf8.ensures
