use Rattle.std.proofs.Common.{arith}
use Rattle.jl_windows.proofs.ReadingLaws.{at_unread, at_window, has_taken, no_window, refused}
use Rattle.jl_windows.proofs.reading.read_window.Goals as goal

pub returns-then-given-gt-MOST_FRAMES-clause-reads : goal.returns-then-given-gt-MOST_FRAMES-clause-reads
returns-then-given-gt-MOST_FRAMES-clause-reads g c before limit size windows s =
    no_window before (g.S.Source.told c.args.source.now) (g.S.Source.told c.args.source.now) limit c.args.left.now c.args.left.now size c.args.feed.now c.args.feed.now windows c.args.space.now c.args.space.now s

pub returns-in-Err-clause-reads : goal.returns-in-Err-clause-reads
returns-in-Err-clause-reads g c before limit size windows s =
    rw c.why_unread.ensures (refused before (g.S.Source.told c.args.source.now) (g.S.Source.told c.window.new.source) limit c.args.left.now c.window.new.left size c.args.feed.now c.window.new.self windows c.args.space.now c.window.new.space s c.in-Err.fault c.in-Err.ensures)

pub returns-then-len-gt-MOST_BYTES-clause-reads : goal.returns-then-len-gt-MOST_BYTES-clause-reads
returns-then-len-gt-MOST_BYTES-clause-reads g c before limit size windows s =
    let at = at_window before (g.S.Source.told c.args.source.now) (g.S.Source.told c.window.new.source) limit c.args.left.now c.window.new.left size c.args.feed.now c.window.new.self windows c.args.space.now c.window.new.space c.in-Ok.window s c.in-Ok.ensures in
    at_unread before (g.S.Source.told c.window.new.source) limit c.window.new.left size c.window.new.self windows c.window.new.space c.in-Ok.window at

pub returns-clause-reads : goal.returns-clause-reads
returns-clause-reads g c before limit size windows s =
    at_window before (g.S.Source.told c.args.source.now) (g.S.Source.told c.window.new.source) limit c.args.left.now c.window.new.left size c.args.feed.now c.window.new.self windows c.args.space.now c.window.new.space c.in-Ok.window s c.in-Ok.ensures

pub returns-clause-taken : goal.returns-clause-taken
returns-clause-taken g c =
    has_taken (g.S.Source.told c.args.source.now) (g.S.Source.told c.window.new.source) c.args.left.now c.window.new.left c.args.feed.now c.window.new.self c.args.space.now c.window.new.space c.in-Ok.window c.in-Ok.ensures (omega (arith, c.if-len-gt-MOST_BYTES.false, c.len.ensures))
