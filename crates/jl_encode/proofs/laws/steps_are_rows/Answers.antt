use Rattle.jl_encode.proofs.ItemsInStep.{steps_are_rows}
use Rattle.jl_encode.proofs.FirstDesk.{new_desk_agrees}
use Rattle.jl_encode.proofs.Refusals.{refused_are_wide}
use Rattle.jl_encode.proofs.laws.steps_are_rows.Goals as goal

pub returns-clause-rows : goal.returns-clause-rows
returns-clause-rows c = steps_are_rows

pub returns-clause-refused : goal.returns-clause-refused
returns-clause-refused c = refused_are_wide

pub returns-clause-first : goal.returns-clause-first
returns-clause-first c = new_desk_agrees
