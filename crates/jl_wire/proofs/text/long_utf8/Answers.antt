use Rattle.std.proofs.Common.{◌∙◌, sym}
use Rattle.jl_wire.proofs.Texts.{ascii_is_utf8, same_test}
use Rattle.jl_wire.proofs.text.long_utf8.Goals as goal

pub returns-then-is_ascii-clause-exact : goal.returns-then-is_ascii-clause-exact
returns-then-is_ascii-clause-exact c = sym (ascii_is_utf8 _ (c.is_ascii.ensures.0 c.if-is_ascii.true))

pub returns-then-is_utf8-clause-exact : goal.returns-then-is_utf8-clause-exact
returns-then-is_utf8-clause-exact c = sym c.if-is_utf8.true ∙ same_test _ _ c.is_utf8.ensures

pub returns-else-is_utf8-clause-exact : goal.returns-else-is_utf8-clause-exact
returns-else-is_utf8-clause-exact c = sym c.if-is_utf8.false ∙ same_test _ _ c.is_utf8.ensures
