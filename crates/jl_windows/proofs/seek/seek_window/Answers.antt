use Rattle.std.proofs.Common.{arith}
use Rattle.jl_rows.specs.Decoder as decoder
use Rattle.jl_rows.specs.Seen.{options_seen}
use Rattle.jl_windows.specs.Sources.{bodies_in}
use Rattle.jl_windows.proofs.Openings.{found_none, found_some}
use Rattle.jl_windows.proofs.SeekingLaws.{bad, begins_here, faultless_here, found_rowless, unread_none}
use Rattle.jl_windows.proofs.seek.seek_window.Goals as goal

pub returns-in-Err-clause-seeks : goal.returns-in-Err-clause-seeks
returns-in-Err-clause-seeks g c before limit size s =
    unread_none c.args.strict before (g.S.Source.told c.read_window.new.source) limit c.read_window.new.left size s.windows s.none c.in-Err.why (c.in-Err.ensures.reads before limit size s.windows s.source)

pub head_at-requires-clause-whole : goal.head_at-requires-clause-whole
head_at-requires-clause-whole g c =
    let new = c.read_window.new.space in
    faultless_here new (bodies_in new c.in-Ok.window) c.len.result c.len.ensures (c.in-Ok.ensures.taken.alone c.cut.ensures)

pub returns-in-Empty-clause-seeks : goal.returns-in-Empty-clause-seeks
returns-in-Empty-clause-seeks g c before limit size s =
    let new = c.read_window.new.space in
    let w = c.in-Ok.window in
    let at = c.in-Ok.ensures.reads before limit size s.windows s.source in
    let begins = begins_here new (bodies_in new w) w.frames.first c.len.result c.head_at.result c.len.ensures (c.in-Ok.ensures.taken.alone c.cut.ensures) (λ B. rw c.first.ensures.exact at (c.head_at.ensures.exact B)) in
    c.without_rows.ensures.seeks c.args.strict before (g.S.Source.told c.read_window.new.source) limit c.read_window.new.left size c.read_window.new.feed s.windows new at s.none
    (λ B. found_none c.args.strict new c.head_at.result _ B (c.in-Empty.ensures.exact new) (begins B))

pub returns-in-Bad-clause-seeks : goal.returns-in-Bad-clause-seeks
returns-in-Bad-clause-seeks g c before limit size s =
    let new = c.read_window.new.space in
    let w = c.in-Ok.window in
    let at = c.in-Ok.ensures.reads before limit size s.windows s.source in
    let begins = begins_here new (bodies_in new w) w.frames.first c.len.result c.head_at.result c.len.ensures (c.in-Ok.ensures.taken.alone c.cut.ensures) (λ B. rw c.first.ensures.exact at (c.head_at.ensures.exact B)) in
    bad c.args.strict before (g.S.Source.told c.read_window.new.source) limit c.read_window.new.left size c.read_window.new.feed s.windows new w at s.none c.in-Bad.fault
    (λ B. found_some c.args.strict new c.head_at.result _ B (decoder.Bad c.in-Bad.fault) (c.in-Bad.ensures.exact new) (λ e. cc) (begins B))

pub returns-in-First-clause-seeks : goal.returns-in-First-clause-seeks
returns-in-First-clause-seeks g c before limit size s =
    let new = c.read_window.new.space in
    let w = c.in-Ok.window in
    let o = options_seen new c.in-First.options in
    let at = c.in-Ok.ensures.reads before limit size s.windows s.source in
    let begins = begins_here new (bodies_in new w) w.frames.first c.len.result c.head_at.result c.len.ensures (c.in-Ok.ensures.taken.alone c.cut.ensures) (λ B. rw c.first.ensures.exact at (c.head_at.ensures.exact B)) in
    record {
      windows = s.windows;
      at = at;
      none = s.none;
      place = c.in-First.field-1;
      head = λ B. found_some c.args.strict new c.head_at.result _ B (decoder.First o c.in-First.field-1) (c.in-First.ensures.exact new) (λ e. cc) (begins B);
    }

pub returns-in-First-clause-found : goal.returns-in-First-clause-found
returns-in-First-clause-found g c =
    let new = c.read_window.new.space in
    record {
      passed = c.in-First.ensures.passed new c.head_at.ensures.passed;
      short = c.in-Ok.ensures.taken.short;
      laid = c.in-Ok.ensures.taken.laid;
      going = c.in-Ok.ensures.taken.going;
      bytes = c.in-Ok.ensures.taken.bytes;
    }

pub returns-in-Empty-clause-found : goal.returns-in-Empty-clause-found
returns-in-Empty-clause-found g c =
    let taken = c.in-Ok.ensures.taken in
    let bytes = taken.bytes in
    found_rowless c.args.feed.now c.read_window.new.feed c.args.left.now c.read_window.new.left c.read_window.new.space c.in-Ok.window.last c.without_rows.result c.without_rows.ensures.found
    (λ last. (taken.going last, (let some = taken.comes_on last in omega (arith, bytes, some))))
