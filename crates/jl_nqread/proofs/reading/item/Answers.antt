use Rattle.std.proofs.Common.{◌∙◌, sym, ap}
use Rattle.jl_nqread.specs.Lines.{statement}
use Rattle.jl_nqread.proofs.MeaningLaws.{is_statement}
use Rattle.jl_nqread.proofs.reading.item.Goals as goal

pub unreachable-requires : goal.unreachable-requires
unreachable-requires c =
    let none = rw c.in-Err-Part.field-0-is at c.in-Err-Part.ensures in
    is_statement c.args.line.now c.requires (ap statement (sym c.blanks.ensures) ∙ none)
