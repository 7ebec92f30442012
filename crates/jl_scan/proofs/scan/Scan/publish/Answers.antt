use Rattle.std.proofs.Common.{ℕ, subst, rules}
use Rattle.std.specs.FinMap.{get}
use Rattle.std.specs.Prelude.{IsSome}
use Rattle.jl_cells.proofs.KnowledgeLemmas.{learns_known}
use Rattle.jl_scan.proofs.scan.Scan.publish.Goals as goal

pub returns-clause-known : goal.returns-clause-known
returns-clause-known g c =
    let at = learns_known c.look_at.new.pass c.put.new.pass c.cell.result c.put.result.now c.put.ensures.value in
    let here : IsSome (get c.put.new.pass.known c.cell.result) = rw at (search rules) in
    subst (λ (i : ℕ). IsSome (get c.put.new.pass.known i)) c.cell.ensures.is here
