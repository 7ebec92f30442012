use Rattle.std.proofs.Common.{◌≡◌, ◌∙◌, List, sym, ap, subst}
use Rattle.jl_sym_laws.specs.Summaries.{Demand}
use Rattle.jl_sym_laws.specs.Cutting.{IsMade}
use Rattle.jl_sym.specs.Growth.{with_never}
use Rattle.jl_sym.specs.Seen.{demand_seen, demands_seen, growing_seen}
use Rattle.jl_sym.proofs.SumLemmas.{never_made}
use Rattle.jl_sym.proofs.EntryLemmas.{map-snoc}
use Rattle.jl_sym.proofs.growing.Growing.refuse.Goals as goal

pub returns-clause-made : goal.returns-clause-made
returns-clause-made c =
    let m = growing_seen c.args.bytes.now c.args.self.now in
    let same : demands_seen c.push.new.self.items ≡ (with_never m c.args.fault).demands = ap demands_seen c.in_ok-push.ensures.items ∙ map-snoc demand_seen c.args.self.now.demands.items _ in
    subst (λ (ds : List Demand). IsMade (record m { demands = ds })) (sym same) (never_made m c.args.fault c.requires.made)
