use Rattle.std.proofs.Common.{◌+◌, ◌*◌}
use Rattle.jl_rows.specs.Seen.{term_seen, position_seen, nested_seen}
use Rattle.jl_state.proofs.Depths.{depth}
use Rattle.jl_apply.proofs.lookup.Lookup.+read.Given as goal

abbrev pub decreases-inner : goal.decreases-inner
decreases-inner l = 3 * depth (position_seen l.self.now.bytes.now l.raw.now) + 2

abbrev pub decreases-term : goal.decreases-term
decreases-term l = 3 * depth (term_seen l.self.now.bytes.now l.raw.now) + 1

abbrev pub decreases-three : goal.decreases-three
decreases-three l = 3 * depth (nested_seen l.self.now.bytes.now l.terms.now)
