use Rattle.std.proofs.Common.{ℕ, List, sym, ◌∙◌, arith, subst}
use Rattle.jl_rows.specs.Seen.{options_seen}
use Rattle.jl_state.specs.Lawful.{state_seen, maybe_value}
use Rattle.jl_lines.specs.Pages.{IsStill}
use Rattle.jl_lines.proofs.Graphs.{line_written}
use Rattle.jl_lines.proofs.Pages.{wrote, range_left}
use Rattle.jl_lines.proofs.statement.put_statement.Goals as goal

pub put_again-requires-2-clause-order : goal.put_again-requires-2-clause-order
put_again-requires-2-clause-order c =
    let last = c.requires.ordered in
    let first = wrote c.args.page.now.items _ _ c.args.last.end c.in_ok-subject.subject (omega (arith, last.within)) (omega (arith, c.in_ok-subject.ensures.room)) c.in_ok-subject.ensures.text in
    (last.predicate, omega (arith, last.object, last.end, first.moved))

pub put_again-requires-2-clause-same : goal.put_again-requires-2-clause-same
put_again-requires-2-clause-same c true =
    let last = c.requires.ordered in
    let first = wrote c.args.page.now.items c.put_again.new.page.items _ c.args.last.end c.in_ok-subject.subject (omega (arith, last.within)) (omega (arith, c.in_ok-subject.ensures.room)) c.in_ok-subject.ensures.text in
    subst (λ (text : List ℕ). IsStill text (maybe_value c.args.bytes.now c.args.state.now.predicate))
    (sym (range_left c.args.page.now.items c.put_again.new.page.items c.args.last.end c.args.last.subject c.args.last.predicate first.front last.predicate (omega (arith, last.object, last.end))))
    (c.requires.predicate true)

pub put_object_again-requires-clause-order : goal.put_object_again-requires-clause-order
put_object_again-requires-clause-order c =
    let last = c.requires.ordered in
    let first = wrote c.args.page.now.items c.put_again.new.page.items _ c.args.last.end c.in_ok-subject.subject (omega (arith, last.within)) (omega (arith, c.in_ok-subject.ensures.room)) c.in_ok-subject.ensures.text in
    let second = wrote c.put_again.new.page.items c.put_again-2.new.page.items _ c.in_ok-subject.subject c.in_ok-predicate.predicate (omega (arith, c.in_ok-subject.ensures.room)) (omega (arith, c.in_ok-predicate.ensures.room)) c.in_ok-predicate.ensures.text in
    (last.object, omega (arith, last.end, first.moved, second.moved))

pub put_object_again-requires-clause-same : goal.put_object_again-requires-clause-same
put_object_again-requires-clause-same c true =
    let last = c.requires.ordered in
    let first = wrote c.args.page.now.items c.put_again.new.page.items _ c.args.last.end c.in_ok-subject.subject (omega (arith, last.within)) (omega (arith, c.in_ok-subject.ensures.room)) c.in_ok-subject.ensures.text in
    let second = wrote c.put_again.new.page.items c.put_again-2.new.page.items _ c.in_ok-subject.subject c.in_ok-predicate.predicate (omega (arith, c.in_ok-subject.ensures.room)) (omega (arith, c.in_ok-predicate.ensures.room)) c.in_ok-predicate.ensures.text in
    subst (λ (text : List ℕ). IsStill text (maybe_value c.args.bytes.now c.args.state.now.object))
    (sym (range_left c.put_again.new.page.items c.put_again-2.new.page.items c.in_ok-subject.subject c.args.last.predicate c.args.last.object second.front last.object (omega (arith, last.end, first.moved))
    ∙ range_left c.args.page.now.items c.put_again.new.page.items c.args.last.end c.args.last.predicate c.args.last.object first.front last.object last.end))
    (c.requires.object true)

pub returns-clause-text : goal.returns-clause-text
returns-clause-text c =
    line_written (options_seen c.args.bytes.now c.args.state.now.options) (state_seen c.args.bytes.now c.args.state.now) _ _ _ _ _ _
    c.in_ok-subject.ensures.text c.in_ok-predicate.ensures.text c.in_ok-object.ensures.text c.in_ok-behind.ensures.text c.put_end.ensures.text

pub returns-clause-ordered : goal.returns-clause-ordered
returns-clause-ordered c =
    let last = c.requires.ordered in
    let p0 = c.args.page.now.items in
    let p1 = c.put_again.new.page.items in
    let p2 = c.put_again-2.new.page.items in
    let p3 = c.put_object_again.new.page.items in
    let p4 = c.put_graph_around.new.page.items in
    let p5 = c.put_end.new.page.items in
    let s = c.in_ok-subject.subject in
    let p = c.in_ok-predicate.predicate in
    let o = c.in_ok-object.object in
    let b = c.in_ok-behind.behind in
    let first = wrote p0 p1 _ c.args.last.end s (omega (arith, last.within)) (omega (arith, c.in_ok-subject.ensures.room)) c.in_ok-subject.ensures.text in
    let second = wrote p1 p2 _ s p (omega (arith, c.in_ok-subject.ensures.room)) (omega (arith, c.in_ok-predicate.ensures.room)) c.in_ok-predicate.ensures.text in
    let third = wrote p2 p3 _ p o (omega (arith, c.in_ok-predicate.ensures.room)) (omega (arith, c.in_ok-object.ensures.room)) c.in_ok-object.ensures.text in
    let fourth = wrote p3 p4 _ o b (omega (arith, c.in_ok-object.ensures.room)) (omega (arith, c.in_ok-behind.ensures.room)) c.in_ok-behind.ensures.text in
    let fifth = wrote p4 p5 _ b c.put_end.result (omega (arith, c.in_ok-behind.ensures.room)) (omega (arith, c.put_end.ensures.room)) c.put_end.ensures.text in
    record { subject = first.moved; predicate = second.moved; object = third.moved; end = omega (arith, fourth.moved, fifth.moved); within = c.put_end.ensures.room }

pub returns-clause-subject : goal.returns-clause-subject
returns-clause-subject c =
    let last = c.requires.ordered in
    let p0 = c.args.page.now.items in
    let p1 = c.put_again.new.page.items in
    let p2 = c.put_again-2.new.page.items in
    let p3 = c.put_object_again.new.page.items in
    let p4 = c.put_graph_around.new.page.items in
    let p5 = c.put_end.new.page.items in
    let s = c.in_ok-subject.subject in
    let p = c.in_ok-predicate.predicate in
    let o = c.in_ok-object.object in
    let b = c.in_ok-behind.behind in
    let first = wrote p0 p1 _ c.args.last.end s (omega (arith, last.within)) (omega (arith, c.in_ok-subject.ensures.room)) c.in_ok-subject.ensures.text in
    let second = wrote p1 p2 _ s p (omega (arith, c.in_ok-subject.ensures.room)) (omega (arith, c.in_ok-predicate.ensures.room)) c.in_ok-predicate.ensures.text in
    let third = wrote p2 p3 _ p o (omega (arith, c.in_ok-predicate.ensures.room)) (omega (arith, c.in_ok-object.ensures.room)) c.in_ok-object.ensures.text in
    let fourth = wrote p3 p4 _ o b (omega (arith, c.in_ok-object.ensures.room)) (omega (arith, c.in_ok-behind.ensures.room)) c.in_ok-behind.ensures.text in
    let fifth = wrote p4 p5 _ b c.put_end.result (omega (arith, c.in_ok-behind.ensures.room)) (omega (arith, c.put_end.ensures.room)) c.put_end.ensures.text in
    range_left p4 p5 b c.args.last.end s fifth.front first.moved (omega (arith, second.moved, third.moved, fourth.moved))
    ∙ range_left p3 p4 o c.args.last.end s fourth.front first.moved (omega (arith, second.moved, third.moved))
    ∙ range_left p2 p3 p c.args.last.end s third.front first.moved second.moved
    ∙ range_left p1 p2 s c.args.last.end s second.front first.moved (omega arith)
    ∙ first.part

pub returns-clause-predicate : goal.returns-clause-predicate
returns-clause-predicate c =
    let last = c.requires.ordered in
    let p0 = c.args.page.now.items in
    let p1 = c.put_again.new.page.items in
    let p2 = c.put_again-2.new.page.items in
    let p3 = c.put_object_again.new.page.items in
    let p4 = c.put_graph_around.new.page.items in
    let p5 = c.put_end.new.page.items in
    let s = c.in_ok-subject.subject in
    let p = c.in_ok-predicate.predicate in
    let o = c.in_ok-object.object in
    let b = c.in_ok-behind.behind in
    let first = wrote p0 p1 _ c.args.last.end s (omega (arith, last.within)) (omega (arith, c.in_ok-subject.ensures.room)) c.in_ok-subject.ensures.text in
    let second = wrote p1 p2 _ s p (omega (arith, c.in_ok-subject.ensures.room)) (omega (arith, c.in_ok-predicate.ensures.room)) c.in_ok-predicate.ensures.text in
    let third = wrote p2 p3 _ p o (omega (arith, c.in_ok-predicate.ensures.room)) (omega (arith, c.in_ok-object.ensures.room)) c.in_ok-object.ensures.text in
    let fourth = wrote p3 p4 _ o b (omega (arith, c.in_ok-object.ensures.room)) (omega (arith, c.in_ok-behind.ensures.room)) c.in_ok-behind.ensures.text in
    let fifth = wrote p4 p5 _ b c.put_end.result (omega (arith, c.in_ok-behind.ensures.room)) (omega (arith, c.put_end.ensures.room)) c.put_end.ensures.text in
    range_left p4 p5 b s p fifth.front second.moved (omega (arith, third.moved, fourth.moved))
    ∙ range_left p3 p4 o s p fourth.front second.moved third.moved
    ∙ range_left p2 p3 p s p third.front second.moved (omega arith)
    ∙ second.part

pub returns-clause-object : goal.returns-clause-object
returns-clause-object c =
    let last = c.requires.ordered in
    let p0 = c.args.page.now.items in
    let p1 = c.put_again.new.page.items in
    let p2 = c.put_again-2.new.page.items in
    let p3 = c.put_object_again.new.page.items in
    let p4 = c.put_graph_around.new.page.items in
    let p5 = c.put_end.new.page.items in
    let s = c.in_ok-subject.subject in
    let p = c.in_ok-predicate.predicate in
    let o = c.in_ok-object.object in
    let b = c.in_ok-behind.behind in
    let first = wrote p0 p1 _ c.args.last.end s (omega (arith, last.within)) (omega (arith, c.in_ok-subject.ensures.room)) c.in_ok-subject.ensures.text in
    let second = wrote p1 p2 _ s p (omega (arith, c.in_ok-subject.ensures.room)) (omega (arith, c.in_ok-predicate.ensures.room)) c.in_ok-predicate.ensures.text in
    let third = wrote p2 p3 _ p o (omega (arith, c.in_ok-predicate.ensures.room)) (omega (arith, c.in_ok-object.ensures.room)) c.in_ok-object.ensures.text in
    let fourth = wrote p3 p4 _ o b (omega (arith, c.in_ok-object.ensures.room)) (omega (arith, c.in_ok-behind.ensures.room)) c.in_ok-behind.ensures.text in
    let fifth = wrote p4 p5 _ b c.put_end.result (omega (arith, c.in_ok-behind.ensures.room)) (omega (arith, c.put_end.ensures.room)) c.put_end.ensures.text in
    range_left p4 p5 b p o fifth.front third.moved fourth.moved
    ∙ range_left p3 p4 o p o fourth.front third.moved (omega arith)
    ∙ third.part
