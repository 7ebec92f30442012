use Rattle.std.proofs.Common.{[], ◌∷◌, ◌∙◌, sym}
use Rattle.jl_base.proofs.PartLemmas.{WasGiven-first}
use Rattle.jl_top.proofs.run.write_report.Goals as goal

pub returns-in-Err : goal.returns-in-Err
returns-in-Err g c =
    let wrote = c.in-Err.ensures in
    record { given = wrote.adds.done ∷ []; gives = WasGiven-first _ _ wrote.adds.done wrote.adds.adds; front = (wrote.adds.rest, sym c.bytes.ensures ∙ wrote.adds.split); later = wrote.cause.later; cause = wrote.cause.failed }
