use Rattle.std.proofs.Common.{ℕ, subst, sym, ◌∙◌, rules}
use Rattle.std.specs.FinMap.{get}
use Rattle.std.specs.Prelude.{IsSome}
use Rattle.jl_cells.proofs.KnowledgeLemmas.{learns_known}
use Rattle.jl_scan.proofs.KnownLemmas.{same_of}
use Rattle.jl_scan.proofs.block.look_at.Goals as goal

pub returns-then-is_of-clause-found : goal.returns-then-is_of-clause-found
returns-then-is_of-clause-found g c =
    let m = c.in_ok-found.found.now in
    let at = learns_known c.args.pass.now c.look.new.pass c.cell.result m c.in_ok-found.ensures.found in
    let here : IsSome (get c.look.new.pass.known c.cell.result) = rw at (search rules) in
    let p = c.bounds-first.result in (
      same_of p.0 p.1 m (sym c.is_of.ensures ∙ c.if-is_of.true) ∙ c.bounds-first.ensures,
      subst (λ (i : ℕ). IsSome (get c.look.new.pass.known i)) c.cell.ensures.is here,
    )
