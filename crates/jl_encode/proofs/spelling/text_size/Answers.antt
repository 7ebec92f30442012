use Rattle.std.proofs.Common.{ap, ◌∙◌}
use Rattle.jl_encode.specs.Spelling.{in_field}
use Rattle.jl_encode.proofs.Lengths.{field_bytes}
use Rattle.jl_encode.proofs.spelling.text_size.Goals as goal

pub returns : goal.returns
returns c = c.field_size.ensures ∙ ap (in_field c.args.field) c.limit.ensures ∙ field_bytes c.args.field c.args.text.now
