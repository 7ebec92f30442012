use Rattle.std.proofs.Common.{sym, ◌∙◌}
use Rattle.jl_lines.specs.Giving.{outlet}
use Rattle.jl_windows.proofs.GoingLaws.{broke_off, decoded, going_next, tail_malformed, window_few}
use Rattle.jl_windows.proofs.window.decode_window.Goals as goal

pub returns-in-Err-clause-comes : goal.returns-in-Err-clause-comes
returns-in-Err-clause-comes g c writing strict before told limit left size feed k b =
    rw c.why_broken_off.ensures
    (broke_off writing strict before told limit left size feed c.args.space.now c.args.window.now c.args.decoding.now c.deliver.new.self k (outlet g.K.Sink.held g.K.Sink.faults c.args.out.now) (outlet g.K.Sink.held g.K.Sink.faults c.deliver.new.out) b c.in-Err.why (λ B. rw (c.bytes.ensures.all, c.count.ensures.exact) at (c.in-Err.ensures.comes B)))

pub returns-then-not-window-clause-comes : goal.returns-then-not-window-clause-comes
returns-then-not-window-clause-comes g c writing strict before told limit left size feed k b =
    going_next writing strict before told limit left size feed c.args.space.now c.args.window.now c.args.decoding.now c.deliver.new.self k (outlet g.K.Sink.held g.K.Sink.faults c.args.out.now) (outlet g.K.Sink.held g.K.Sink.faults c.deliver.new.out) b (λ B. rw (c.bytes.ensures.all, c.count.ensures.exact) at (c.in-Ok.ensures.comes B)) c.in-Ok.ensures.empty c.if-not-window.true

pub returns-then-not-window-clause-few : goal.returns-then-not-window-clause-few
returns-then-not-window-clause-few g c = window_few c.args.window.now.frames _ _ c.count.result c.count.ensures.exact c.in-Ok.ensures.few

pub returns-in-Some-clause-comes : goal.returns-in-Some-clause-comes
returns-in-Some-clause-comes g c writing strict before told limit left size feed k b =
    tail_malformed writing strict before told limit left size feed c.args.space.now c.args.window.now c.args.decoding.now c.deliver.new.self k (outlet g.K.Sink.held g.K.Sink.faults c.args.out.now) (outlet g.K.Sink.held g.K.Sink.faults c.deliver.new.out) b (λ B. rw (c.bytes.ensures.all, c.count.ensures.exact) at (c.in-Ok.ensures.comes B)) c.in-Ok.ensures.empty c.if-not-window.false c.in-Some.fault (sym c.tail.ensures ∙ c.in-Some.is)

pub returns-in-None-clause-comes : goal.returns-in-None-clause-comes
returns-in-None-clause-comes g c writing strict before told limit left size feed k b =
    decoded writing strict before told limit left size feed c.args.space.now c.args.window.now c.args.decoding.now c.deliver.new.self k (outlet g.K.Sink.held g.K.Sink.faults c.args.out.now) (outlet g.K.Sink.held g.K.Sink.faults c.deliver.new.out) b (λ B. rw (c.bytes.ensures.all, c.count.ensures.exact) at (c.in-Ok.ensures.comes B)) c.in-Ok.ensures.empty c.if-not-window.false (sym c.tail.ensures ∙ c.in-None.is)

pub returns-in-None-clause-few : goal.returns-in-None-clause-few
returns-in-None-clause-few g c = window_few c.args.window.now.frames _ _ c.count.result c.count.ensures.exact c.in-Ok.ensures.few
