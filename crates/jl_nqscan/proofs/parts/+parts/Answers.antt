use Rattle.jl_nqscan.proofs.PartLaws.{whole_scanned}
use Rattle.jl_nqscan.proofs.parts.+parts.Goals as goal

pub returns : goal.returns
returns g t c =
    whole_scanned c.args.text.now c.in-Some.at _ _ _ _ _ _ c.in-Some.ensures.0 c.in-Some.ensures.1 c.join.ensures.first c.join.ensures.second c.joined.ensures.feeds c.joined.ensures.scan
