use Rattle.std.proofs.Common.{ap, sym, ◌∙◌}
use Rattle.jl_state.specs.KnownTerms.{known_value}
use Rattle.jl_state.specs.declared.known.Known.{Known}
use Rattle.jl_state.proofs.NestedTerms.{value_of_nested}
use Rattle.jl_lines.specs.Spaces.{is_default}
use Rattle.jl_lines.proofs.statement.is_default.Goals as goal

pub returns-in-Triple : goal.returns-in-Triple
returns-in-Triple c = sym (ap (λ (k : Known). is_default (known_value c.args.bytes.now k)) c.in-Triple.is ∙ ap is_default (value_of_nested c.args.bytes.now _))
