use Rattle.std.proofs.Common.{◌+◌, ◌*◌}
use Rattle.jl_rows.specs.Seen.{term_seen, position_seen, nested_seen}
use Rattle.jl_state.proofs.Depths.{depth}
use Rattle.jl_state.proofs.tables.Lookup.+look.Given as goal

abbrev pub decreases-inner : goal.decreases-inner
decreases-inner g l = 3 * depth (position_seen l.self.now.bytes.now l.raw) + 2

abbrev pub decreases-term : goal.decreases-term
decreases-term g l = 3 * depth (term_seen l.self.now.bytes.now l.raw) + 1

abbrev pub decreases-three : goal.decreases-three
decreases-three g l = 3 * depth (nested_seen l.self.now.bytes.now l.terms.now)
