use Rattle.std.proofs.Common.{◌+◌, ap, arith}
use Rattle.jl_lines.specs.declared.decoding.Counts.{Counts}
use Rattle.jl_lines.specs.Giving.{outlet}
use Rattle.jl_windows.specs.declared.stopped.Stopped.TheVariants as stopped
use Rattle.jl_windows.proofs.GoingLaws.{before_first}
use Rattle.jl_windows.proofs.ReadingLaws.{at_unread}
use Rattle.jl_windows.proofs.SeekingLaws.{unread_none}
use Rattle.jl_windows.proofs.source.decode_from.Goals as goal

pub returns-in_default : goal.returns-in_default
returns-in_default g c before limit size b =
    let told = g.S.Source.told c.args.source.now in
    unread_none c.args.strict before told limit c.args.left.now size b.windows b.none stopped.NoMemory (at_unread before told limit c.args.left.now size c.args.feed.now b.windows c.args.space.now c.args.window.now b.at) c.args.writing (outlet g.K.Sink.held g.K.Sink.faults c.args.out.now)

pub returns : goal.returns
returns g c before limit size b =
    let told = g.S.Source.told c.args.source.now in
    let k = outlet g.K.Sink.held g.K.Sink.faults c.args.out.now in
    let begun = c.in-Ok.ensures in
    let exact = rw c.bytes.ensures.all at begun.exact in
    c.decode_on.ensures c.args.writing c.args.strict before limit size k
    (before_first c.args.writing c.args.strict before told limit c.args.left.now size c.args.feed.now c.args.space.now c.args.window.now c.args.options.now c.in-Ok.decoding k b begun.options exact begun.empty begun.none begun.writing)

pub decode_on-requires-clause-kept : goal.decode_on-requires-clause-kept
decode_on-requires-clause-kept g c = rw c.bytes.ensures.all at c.in-Ok.ensures.kept

pub decode_on-requires-clause-few : goal.decode_on-requires-clause-few
decode_on-requires-clause-few g c =
    let none = ap (λ (x : Counts). x.statements + x.namespaces) c.in-Ok.ensures.none in
    omega (arith, none, c.requires.few)
