use Rattle.jl_rows.specs.Decoder.{decode}
use Rattle.jl_decode.specs.Tallies.{counts_of}
use Rattle.jl_lines.specs.Giving.{outlet}
use Rattle.jl_decode.proofs.Endings.{wrote_whole, wrote_malformed, wrote_failed, wrote_some}
use Rattle.jl_decode.proofs.write.write_lines.Goals as goal

pub returns-in-Ok : goal.returns-in-Ok
returns-in-Ok g c =
    wrote_whole (decode c.args.strict c.args.space.now) (outlet g.K.Sink.held g.K.Sink.faults c.args.out.now) (outlet g.K.Sink.held g.K.Sink.faults c.decode_file.new.out) (counts_of c.in-Ok.field-0) c.in-Ok.ensures.delivers

pub returns-in-Err-Malformed : goal.returns-in-Err-Malformed
returns-in-Err-Malformed g c =
    let broke = rw c.in-Err-Malformed.field-0-is at c.in-Err-Malformed.ensures.delivers in
    wrote_malformed (decode c.args.strict c.args.space.now) (outlet g.K.Sink.held g.K.Sink.faults c.args.out.now) (outlet g.K.Sink.held g.K.Sink.faults c.decode_file.new.out) c.in-Err-Malformed.fault broke

pub returns-in-Err-WriteFault : goal.returns-in-Err-WriteFault
returns-in-Err-WriteFault g c =
    let broke = rw c.in-Err-WriteFault.field-0-is at c.in-Err-WriteFault.ensures.delivers in
    wrote_failed (decode c.args.strict c.args.space.now) (outlet g.K.Sink.held g.K.Sink.faults c.args.out.now) (outlet g.K.Sink.held g.K.Sink.faults c.decode_file.new.out) broke

pub returns-in-Err-NoMemory : goal.returns-in-Err-NoMemory
returns-in-Err-NoMemory g c =
    let broke = rw c.in-Err-NoMemory.field-0-is at c.in-Err-NoMemory.ensures.delivers in
    wrote_some (decode c.args.strict c.args.space.now) (outlet g.K.Sink.held g.K.Sink.faults c.args.out.now) (outlet g.K.Sink.held g.K.Sink.faults c.decode_file.new.out) broke
