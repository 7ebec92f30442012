use Rattle.std.proofs.Common.{sym, ◌∙◌}
use Rattle.jl_windows.proofs.SeekingLaws.{ended, further, tail_fault}
use Rattle.jl_windows.proofs.seek.without_rows.Goals as goal

pub returns-then-not-window-clause-seeks : goal.returns-then-not-window-clause-seeks
returns-then-not-window-clause-seeks c strict before told limit left size feed windows bytes at none none' =
    further strict before told limit left size feed windows bytes c.args.window.now at none none' c.if-not-window.true

pub returns-in-Some-clause-seeks : goal.returns-in-Some-clause-seeks
returns-in-Some-clause-seeks c strict before told limit left size feed windows bytes at none none' =
    tail_fault strict before told limit left size feed windows bytes c.args.window.now at none none' c.if-not-window.false c.in-Some.fault (sym c.tail.ensures ∙ c.in-Some.is)

pub returns-in-None-clause-seeks : goal.returns-in-None-clause-seeks
returns-in-None-clause-seeks c strict before told limit left size feed windows bytes at none none' =
    ended strict before told limit left size feed windows bytes c.args.window.now at none none' c.if-not-window.false (sym c.tail.ensures ∙ c.in-None.is)
