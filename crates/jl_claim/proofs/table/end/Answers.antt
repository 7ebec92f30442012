use Rattle.jl_claim.proofs.Allowed.{end_drew, end_lowered, end_seen}
use Rattle.jl_claim.proofs.table.end.Goals as goal

pub returns-clause-drawn : goal.returns-clause-drawn
returns-clause-drawn c =
    let seat = c.args.seat in
    end_drew c.args.table.shared.key seat.id seat.me.0 c.requires.seated c.requires.alone _ _ c.close_with-closed.ensures.values.2 c.word-next.result c.word-low.result c.word-next.ensures c.word-low.ensures

pub returns-clause-least : goal.returns-clause-least
returns-clause-least c =
    let seat = c.args.seat in
    end_lowered c.args.table.shared.key seat.id seat.me.0 c.requires.seated c.requires.alone _ _ c.close_with-closed.ensures.values.2 c.word-next.result c.word-low.result c.word-next.ensures c.word-low.ensures

pub returns-clause-seen : goal.returns-clause-seen
returns-clause-seen c =
    let seat = c.args.seat in
    end_seen c.args.table.shared.key seat.id seat.me.0 c.requires.seated c.requires.alone _ _ c.close_with-closed.ensures.values.2 c.word-next.result c.word-low.result c.word-next.ensures c.word-low.ensures
