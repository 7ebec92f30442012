use Rattle.std.proofs.lemmas.Bool.{eqb-true}
use Rattle.jl_wire.proofs.AsciiBlocks.{block_low}
use Rattle.jl_wire.proofs.text.is_ascii_block.Goals as goal

pub returns : goal.returns
returns c = λ e. block_low _ _ c.requires (eqb-true _ _ e)
