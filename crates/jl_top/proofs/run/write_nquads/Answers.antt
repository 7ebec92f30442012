use Rattle.std.proofs.Common.{[], ◌∷◌}
use Rattle.jl_base.proofs.PartLemmas.{WasGiven-first}
use Rattle.jl_top.proofs.run.write_nquads.Goals as goal

pub returns-in-WriteFault : goal.returns-in-WriteFault
returns-in-WriteFault g c =
    let wrote = c.in-WriteFault.ensures in
    record { given = wrote.given ∷ []; gives = WasGiven-first _ _ wrote.given wrote.adds; front = (wrote.left, wrote.lines); later = wrote.later; cause = wrote.cause }

pub returns-in-NoMemory : goal.returns-in-NoMemory
returns-in-NoMemory g c =
    let wrote = c.in-NoMemory.ensures in
    record { given = wrote.given ∷ []; gives = WasGiven-first _ _ wrote.given wrote.adds; front = (wrote.left, wrote.lines); later = wrote.later; cause = wrote.steady }
