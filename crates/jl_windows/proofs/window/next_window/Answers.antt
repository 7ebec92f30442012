use Rattle.std.proofs.Common.{refl, arith}
use Rattle.jl_lines.specs.Giving.{outlet}
use Rattle.jl_windows.specs.declared.stopped.Stopped.TheVariants as stopped
use Rattle.jl_windows.proofs.GoingLaws.{before_window, keeps_same, ok_then, unread_after}
use Rattle.jl_windows.proofs.ReadingLaws.{no_window}
use Rattle.jl_windows.proofs.window.next_window.Goals as goal

pub returns-in_default-clause-comes : goal.returns-in_default-clause-comes
returns-in_default-clause-comes g c writing strict before limit size k going =
    let told = g.S.Source.told c.args.source.now in
    let feed = c.args.feed.now in
    let left = c.args.left.now in
    unread_after writing strict before told told limit left left size feed c.args.space.now c.args.decoding.now k (outlet g.K.Sink.held g.K.Sink.faults c.args.out.now) going stopped.NoMemory
    (no_window before told told limit left left size feed feed going.windows c.args.space.now c.args.space.now going.source)

pub returns-in-Err-clause-comes : goal.returns-in-Err-clause-comes
returns-in-Err-clause-comes g c writing strict before limit size k going =
    unread_after writing strict before (g.S.Source.told c.args.source.now) (g.S.Source.told c.read_window.new.source) limit c.args.left.now c.read_window.new.left size c.args.feed.now c.args.space.now c.args.decoding.now k (outlet g.K.Sink.held g.K.Sink.faults c.args.out.now) going c.in-Err.why
    (c.in-Err.ensures.reads before limit size going.windows going.source)

pub decode_window-requires-clause-kept : goal.decode_window-requires-clause-kept
decode_window-requires-clause-kept g c =
    let d = c.args.decoding.now in
    let d' = record d { state = c.bring_texts.new.state } in
    let same = c.in-Ok.ensures.carries c.read_window.new.space c.in-Ok-read_window.ensures.taken.grows in
    keeps_same c.args.space.now c.read_window.new.space d d' same refl c.requires.kept

pub decode_window-requires-clause-few : goal.decode_window-requires-clause-few
decode_window-requires-clause-few g c = let few = c.requires.few in omega (arith, few)

pub returns-clause-comes : goal.returns-clause-comes
returns-clause-comes g c writing strict before limit size k going =
    let d = c.args.decoding.now in
    let d' = record d { state = c.bring_texts.new.state } in
    let new = c.read_window.new.space in
    let same = c.in-Ok.ensures.carries new c.in-Ok-read_window.ensures.taken.grows in
    let at = c.in-Ok-read_window.ensures.reads before limit size going.windows going.source in
    let told = g.S.Source.told c.args.source.now in
    let told' = g.S.Source.told c.read_window.new.source in
    let k' = outlet g.K.Sink.held g.K.Sink.faults c.args.out.now in
    let ready = before_window writing strict before told told' limit c.args.left.now c.read_window.new.left size c.args.feed.now c.read_window.new.feed c.args.space.now new c.in-Ok-read_window.window d d' k k' going at same refl refl refl in
    c.decode_window.ensures.comes writing strict before told' limit c.read_window.new.left size c.read_window.new.feed k ready

pub returns-clause-going : goal.returns-clause-going
returns-clause-going g c e = c.in-Ok-read_window.ensures.taken.going (c.decode_window.ensures.last e)

pub returns-clause-few : goal.returns-clause-few
returns-clause-few g c =
    let bytes = c.in-Ok-read_window.ensures.taken.bytes in
    let few = c.requires.few in
    ok_then _ _ c.decode_window.result c.decode_window.ensures.few (λ more. omega (arith, bytes, few, more))

pub returns-clause-comes_on : goal.returns-clause-comes_on
returns-clause-comes_on g c e =
    let bytes = c.in-Ok-read_window.ensures.taken.bytes in
    let some = c.in-Ok-read_window.ensures.taken.comes_on (c.decode_window.ensures.last e) in
    omega (arith, bytes, some)
