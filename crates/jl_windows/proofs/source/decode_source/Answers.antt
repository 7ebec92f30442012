use Rattle.std.proofs.Common.{[], ap, length, refl, arith}
use Rattle.jl_frames.specs.Feeding.{Feeding}
use Rattle.jl_lines.specs.Giving.{outlet}
use Rattle.jl_windows.proofs.ReadingLaws.{streaming_none}
use Rattle.jl_windows.proofs.SeekingLaws.{still, still_before}
use Rattle.jl_windows.proofs.source.decode_source.Goals as goal

pub windows-init : goal.windows-init
windows-init g c =
    let new = c.new-feed.ensures in
    record {
      seeking = record {
        windows = [];
        source = streaming_none (g.S.Source.told c.args.source.now) c.args.left.now c.args.window c.new-feed.result (ap (λ (f : Feeding). f.held) new) (ap (λ (f : Feeding). f.given) new) (ap (λ (f : Feeding). f.window) new) c.requires.least;
        none = λ B. refl;
      };
      going = ap (λ (f : Feeding). f.ended) new;
      same = refl;
      few = let none = ap (λ (f : Feeding). length f.held) new in omega (arith, none, c.requires.few);
    }

pub windows-preserved : goal.windows-preserved
windows-preserved g c =
    let said = rw c.in-Ok-Further.field-0-is at c.in-Ok-Further.ensures in
    let found = said.found in
    record {
      seeking = said.seeks (g.S.Source.told c.args.source.now) c.args.left.now c.args.window c.windows.invariant.seeking;
      going = found.0;
      same = c.windows.invariant.same;
      few = let less = found.1 in omega (arith, less, c.windows.invariant.few);
    }

pub returns-in-Ok-Ended : goal.returns-in-Ok-Ended
returns-in-Ok-Ended g c =
    let said = rw c.in-Ok-Ended.field-0-is at c.in-Ok-Ended.ensures in
    let came = said.seeks (g.S.Source.told c.args.source.now) c.args.left.now c.args.window c.windows.invariant.seeking c.args.writing (outlet g.K.Sink.held g.K.Sink.faults c.args.out.now) in
    rw (c.given.ensures, c.no_counts.ensures)
    (still c.args.writing c.args.strict (g.S.Source.told c.args.source.now) (g.S.Source.told c.seek_window.new.source) c.args.left.now c.seek_window.new.left c.args.window (outlet g.K.Sink.held g.K.Sink.faults c.args.out.now) (outlet g.K.Sink.held g.K.Sink.faults c.windows.out) c.windows.invariant.same _ came)

pub returns-in-Ok-First : goal.returns-in-Ok-First
returns-in-Ok-First g c =
    let said = rw c.in-Ok-First.field-0-is at c.in-Ok-First.ensures in
    let came = c.decode_from.ensures (g.S.Source.told c.args.source.now) c.args.left.now c.args.window (said.seeks (g.S.Source.told c.args.source.now) c.args.left.now c.args.window c.windows.invariant.seeking) in
    still_before c.args.writing c.args.strict (g.S.Source.told c.args.source.now) (g.S.Source.told c.decode_from.new.source) c.args.left.now c.decode_from.new.left c.args.window (outlet g.K.Sink.held g.K.Sink.faults c.args.out.now) (outlet g.K.Sink.held g.K.Sink.faults c.windows.out) c.windows.invariant.same c.decode_from.result (outlet g.K.Sink.held g.K.Sink.faults c.decode_from.new.out) came

pub decode_from-requires-clause-passed : goal.decode_from-requires-clause-passed
decode_from-requires-clause-passed g c = let said = rw c.in-Ok-First.field-0-is at c.in-Ok-First.ensures in said.found.passed

pub decode_from-requires-clause-short : goal.decode_from-requires-clause-short
decode_from-requires-clause-short g c = let said = rw c.in-Ok-First.field-0-is at c.in-Ok-First.ensures in said.found.short

pub decode_from-requires-clause-laid : goal.decode_from-requires-clause-laid
decode_from-requires-clause-laid g c = let said = rw c.in-Ok-First.field-0-is at c.in-Ok-First.ensures in said.found.laid

pub decode_from-requires-clause-going : goal.decode_from-requires-clause-going
decode_from-requires-clause-going g c = let said = rw c.in-Ok-First.field-0-is at c.in-Ok-First.ensures in said.found.going

pub decode_from-requires-clause-few : goal.decode_from-requires-clause-few
decode_from-requires-clause-few g c =
    let said = rw c.in-Ok-First.field-0-is at c.in-Ok-First.ensures in
    let bytes = said.found.bytes in
    omega (arith, bytes, c.windows.invariant.few)

pub returns-in-Err : goal.returns-in-Err
returns-in-Err g c =
    still c.args.writing c.args.strict (g.S.Source.told c.args.source.now) (g.S.Source.told c.seek_window.new.source) c.args.left.now c.seek_window.new.left c.args.window (outlet g.K.Sink.held g.K.Sink.faults c.args.out.now) (outlet g.K.Sink.held g.K.Sink.faults c.windows.out) c.windows.invariant.same _
    (c.in-Err.ensures.seeks (g.S.Source.told c.args.source.now) c.args.left.now c.args.window c.windows.invariant.seeking c.args.writing (outlet g.K.Sink.held g.K.Sink.faults c.args.out.now))

pub windows-smaller : goal.windows-smaller
windows-smaller g c = let said = rw c.in-Ok-Further.field-0-is at c.in-Ok-Further.ensures in said.found.1
