use Rattle.std.proofs.Common.{ap, sym, ◌∙◌, Some}
use Rattle.std.specs.Option.{option_map}
use Rattle.jl_sym_laws.specs.RelativeIds as ids
use Rattle.jl_sym_laws.specs.Summaries as sums
use Rattle.jl_sym_laws.specs.Composing.{earlier_need}
use Rattle.jl_sym.specs.declared.demand.Need.{Need}
use Rattle.jl_sym.specs.Seen.{id_seen, need_seen, summary_seen}
use Rattle.jl_compose.specs.Narrowing.{narrow, narrow_need}
use Rattle.jl_compose.proofs.demands.earlier.Goals as goal

pub returns-in-Filled : goal.returns-in-Filled
returns-in-Filled c bytes =
    ap (λ (i : ids.Id). Some (sums.Filled c.in-Filled.table i))
    (c.later_id-in-Filled.ensures ∙ ap (λ (first : ids.Id). narrow (ids.following first (id_seen c.in-Filled.id))) (c.last_of.ensures bytes))
    ∙ sym (ap (λ (n : Need). option_map narrow_need (earlier_need (summary_seen bytes c.args.first.now) (need_seen n))) c.in-Filled.is)
