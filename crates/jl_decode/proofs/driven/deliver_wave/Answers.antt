use Rattle.std.proofs.Common.{◌≡◌, Option, Some, None, Ok, refl, sym, subst, vec_len, arith}
use Rattle.std.proofs.lemmas.Result.{err_from_is_err_and}
use Rattle.jl_base.specs.declared.place.Fault.{Fault}
use Rattle.jl_frames.proofs.Stretches.{laid_last}
use Rattle.jl_scan.specs.Fields.{IsField, before, seen}
use Rattle.jl_scan.proofs.FieldLemmas.{field_is}
use Rattle.jl_wave.specs.Waves.{AreMade, Leaves}
use Rattle.jl_lines.specs.Giving.{Gives, outlet}
use Rattle.jl_decode.specs.Pieces.{IsWritten, lines_of}
use Rattle.jl_decode.proofs.DrivenLemmas.{wave_ends, wave_fails, wave_few, wave_lacks, wave_passes}
use Rattle.jl_decode.proofs.driven.deliver_wave.Goals as goal

pub returns-in_err-write_pieces-clause-comes : goal.returns-in_err-write_pieces-clause-comes
returns-in_err-write_pieces-clause-comes g c B =
    let w = g.F.Scanned.field in
    let is : IsField w = subst IsField (sym c.args.scan.now.field) (field_is c.args.scan.now.file c.args.scan.now.lo c.requires.file) in
    let d = c.args.decoding.now in
    let n = c.args.scan.now.runs in
    let ps = c.in-Ok.field-0.pieces.items in
    let made : AreMade w (seen w d.state) (IsWritten d.writing) n (vec_len c.args.kept) ps c.in-Ok.field-0.fault = c.in-Ok.ensures.made in
    let k = outlet g.K.Sink.held g.K.Sink.faults c.args.out.now in
    let k' = outlet g.K.Sink.held g.K.Sink.faults c.write_pieces.new.out in
    let gave = rw c.deref.ensures.value at c.in_err-write_pieces.ensures in
    let p = err_from_is_err_and c.from_residual.result c.from_residual.ensures.1 in
    rw (p.1, p.2)
    (wave_fails w is n d c.requires.state.options c.requires.empty ps made.each k k' c.in-Ok.field-0.fault c.in_err-write_pieces.field-0.0 B made.order gave)

pub returns-in-Some-clause-comes : goal.returns-in-Some-clause-comes
returns-in-Some-clause-comes g c B =
    let w = g.F.Scanned.field in
    let is : IsField w = subst IsField (sym c.args.scan.now.field) (field_is c.args.scan.now.file c.args.scan.now.lo c.requires.file) in
    let d = c.args.decoding.now in
    let n = c.args.scan.now.runs in
    let ps = c.in-Ok.field-0.pieces.items in
    let made : AreMade w (seen w d.state) (IsWritten d.writing) n (vec_len c.args.kept) ps c.in-Ok.field-0.fault = c.in-Ok.ensures.made in
    let k = outlet g.K.Sink.held g.K.Sink.faults c.args.out.now in
    let k' = outlet g.K.Sink.held g.K.Sink.faults c.write_pieces.new.out in
    let gave : Gives (lines_of ps) k k' (Ok tt) = rw c.deref.ensures.value at c.in_ok-write_pieces.ensures in
    let ended : AreMade w (seen w d.state) (IsWritten d.writing) n (vec_len c.args.kept) ps (Some c.in-Some.fault) = subst (λ (f : Option Fault). AreMade w (seen w d.state) (IsWritten d.writing) n (vec_len c.args.kept) ps f) c.in-Some.is made in
    wave_ends w is n d c.requires.state.options c.requires.empty ps made.each k k' c.in-Some.fault B ended.order gave

pub count_pieces-decoding-requires : goal.count_pieces-decoding-requires
count_pieces-decoding-requires g c =
    let w = g.F.Scanned.field in
    let is : IsField w = subst IsField (sym c.args.scan.now.field) (field_is c.args.scan.now.file c.args.scan.now.lo c.requires.file) in
    let d = c.args.decoding.now in
    let n = c.args.scan.now.runs in
    let ps = c.in-Ok.field-0.pieces.items in
    let made : AreMade w (seen w d.state) (IsWritten d.writing) n (vec_len c.args.kept) ps c.in-Ok.field-0.fault = c.in-Ok.ensures.made in
    let k = outlet g.K.Sink.held g.K.Sink.faults c.args.out.now in
    let none : c.in-Ok.field-0.fault ≡ None = c.in_default-fault.is in
    let whole : AreMade w (seen w d.state) (IsWritten d.writing) n (vec_len c.args.kept) ps None = subst (λ (f : Option Fault). AreMade w (seen w d.state) (IsWritten d.writing) n (vec_len c.args.kept) ps f) none made in
    let few = wave_few w is n d c.requires.state.options c.requires.empty ps made.each k k whole.order in
    let last = laid_last w.index.lo w.index.bodies is.laid.0 (before w n) is.laid.1 in
    let within = is.laid.2 in
    let short = is.short in
    rw c.deref-2.ensures.value (record { few = omega (arith, few, last, within, short, c.requires.few) })

pub returns-in-Ok-give_back-clause-comes : goal.returns-in-Ok-give_back-clause-comes
returns-in-Ok-give_back-clause-comes g c B =
    let w = g.F.Scanned.field in
    let is : IsField w = subst IsField (sym c.args.scan.now.field) (field_is c.args.scan.now.file c.args.scan.now.lo c.requires.file) in
    let d = c.args.decoding.now in
    let n = c.args.scan.now.runs in
    let ps = c.in-Ok.field-0.pieces.items in
    let made : AreMade w (seen w d.state) (IsWritten d.writing) n (vec_len c.args.kept) ps c.in-Ok.field-0.fault = c.in-Ok.ensures.made in
    let k = outlet g.K.Sink.held g.K.Sink.faults c.args.out.now in
    let k' = outlet g.K.Sink.held g.K.Sink.faults c.write_pieces.new.out in
    let gave : Gives (lines_of ps) k k' (Ok tt) = rw c.deref.ensures.value at c.in_ok-write_pieces.ensures in
    let none : c.in-Ok.field-0.fault ≡ None = c.in_default-fault.is in
    let whole : AreMade w (seen w d.state) (IsWritten d.writing) n (vec_len c.args.kept) ps None = subst (λ (f : Option Fault). AreMade w (seen w d.state) (IsWritten d.writing) n (vec_len c.args.kept) ps f) none made in
    let left : Leaves w n d.state c.drive_wave-waved.new.state None = subst (λ (f : Option Fault). Leaves w n d.state c.drive_wave-waved.new.state f) none (c.in-Ok.ensures.leaves) in
    let counts = rw c.deref-2.ensures.value at c.count_pieces-decoding.ensures in
    wave_passes w is n d c.requires.state.options c.requires.empty ps made.each k k' whole.order
    (record { state = c.drive_wave-waved.new.state; page = c.clear.new.self; counts = c.count_pieces-decoding.result; writing = d.writing })
    B left.1 left.0.options c.clear.ensures.lines counts refl gave

pub returns-in-Ok-give_back-clause-few : goal.returns-in-Ok-give_back-clause-few
returns-in-Ok-give_back-clause-few g c =
    let w = g.F.Scanned.field in
    let is : IsField w = subst IsField (sym c.args.scan.now.field) (field_is c.args.scan.now.file c.args.scan.now.lo c.requires.file) in
    let d = c.args.decoding.now in
    let n = c.args.scan.now.runs in
    let ps = c.in-Ok.field-0.pieces.items in
    let made : AreMade w (seen w d.state) (IsWritten d.writing) n (vec_len c.args.kept) ps c.in-Ok.field-0.fault = c.in-Ok.ensures.made in
    let k = outlet g.K.Sink.held g.K.Sink.faults c.args.out.now in
    let none : c.in-Ok.field-0.fault ≡ None = c.in_default-fault.is in
    let whole : AreMade w (seen w d.state) (IsWritten d.writing) n (vec_len c.args.kept) ps None = subst (λ (f : Option Fault). AreMade w (seen w d.state) (IsWritten d.writing) n (vec_len c.args.kept) ps f) none made in
    let few = wave_few w is n d c.requires.state.options c.requires.empty ps made.each k k whole.order in
    let counts = rw c.deref-2.ensures.value at c.count_pieces-decoding.ensures in
    rw counts few

pub returns-in-Err-clause-comes : goal.returns-in-Err-clause-comes
returns-in-Err-clause-comes g c B =
    let w = g.F.Scanned.field in
    let is : IsField w = subst IsField (sym c.args.scan.now.field) (field_is c.args.scan.now.file c.args.scan.now.lo c.requires.file) in
    let d = c.args.decoding.now in
    let n = c.args.scan.now.runs in
    let ps = c.in-Ok.field-0.pieces.items in
    let made : AreMade w (seen w d.state) (IsWritten d.writing) n (vec_len c.args.kept) ps c.in-Ok.field-0.fault = c.in-Ok.ensures.made in
    let k = outlet g.K.Sink.held g.K.Sink.faults c.args.out.now in
    let k' = outlet g.K.Sink.held g.K.Sink.faults c.write_pieces.new.out in
    let gave : Gives (lines_of ps) k k' (Ok tt) = rw c.deref.ensures.value at c.in_ok-write_pieces.ensures in
    wave_lacks w is n d c.requires.state.options c.requires.empty ps made.each k k' c.in-Ok.field-0.fault B made.order gave
