use Rattle.std.proofs.Common.{◌∙◌, drop, sym, ap}
use Rattle.jl_nqread.proofs.MeaningLaws.{is_one}
use Rattle.jl_nqread.proofs.reading.term.Goals as goal

pub unreachable-requires : goal.unreachable-requires
unreachable-requires c =
    let none = rw c.in-Err-Part.field-0-is at c.in-Err-Part.ensures in
    is_one c.args.text.now c.requires none
