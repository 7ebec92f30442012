use Rattle.std.proofs.Common.{[], None, length}
use Rattle.jl_rows.specs.Decoder.{decode}
use Rattle.jl_rows.specs.Files.{frames}
use Rattle.jl_decode.proofs.Endings.{tallied}
use Rattle.jl_decode.proofs.count.count_items.Goals as goal

pub returns-in-Ok : goal.returns-in-Ok
returns-in-Ok g c =
    tallied (λ item. []) (decode c.args.strict c.args.space.now) (record { held = None; faults = 0 }) (record { held = None; faults = 0 }) c.in-Ok.tally (length (frames c.args.space.now).items) c.in-Ok.ensures.delivers c.in-Ok.ensures.frames
