use Rattle.std.proofs.Common.{ap₂, ◌∙◌}
use Rattle.jl_base.specs.Items.{tail_of}
use Rattle.jl_encode.specs.Spelling.{joint}
use Rattle.jl_encode.specs.Stated.{ending_stated}
use Rattle.jl_encode.proofs.Lengths.{literal_length}
use Rattle.jl_encode.proofs.spelling.literal_size.Goals as goal

pub returns : goal.returns
returns c = c.sum.ensures ∙ ap₂ joint c.lone_text_size.ensures c.ending_size.ensures ∙ literal_length c.args.lex.now (ending_stated (tail_of c.args.tail.now) c.args.said.now)
