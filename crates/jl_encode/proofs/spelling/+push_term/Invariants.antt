use Rattle.std.proofs.Common.{◌+◌, ◌*◌}
use Rattle.jl_base.specs.Items.{value_of}
use Rattle.jl_base.specs.Terms.{Nested}
use Rattle.jl_encode.specs.Spelling.{depth}
use Rattle.jl_encode.proofs.spelling.+push_term.Given as goal

abbrev pub decreases-push_term : goal.decreases-push_term
decreases-push_term l = 2 * depth (value_of l.term.now) + 1

abbrev pub decreases-push_three : goal.decreases-push_three
decreases-push_three l = 2 * depth (Nested (value_of l.three.now.s) (value_of l.three.now.p) (value_of l.three.now.o))
