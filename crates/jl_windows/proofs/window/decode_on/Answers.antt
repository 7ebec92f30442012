use Rattle.std.proofs.Common.{refl, arith}
use Rattle.jl_windows.proofs.window.decode_on.Goals as goal

pub returns-in-Err : goal.returns-in-Err
returns-in-Err g c writing strict before limit size k b = c.in-Err.ensures.comes writing strict before (g.S.Source.told c.args.source.now) limit c.args.left.now size c.args.feed.now k b

pub returns-then-last : goal.returns-then-last
returns-then-last g c writing strict before limit size k b =
    let came = rw c.if-last.true at (c.in-Ok.ensures.comes writing strict before (g.S.Source.told c.args.source.now) limit c.args.left.now size c.args.feed.now k b) in
    rw c.given.ensures came

pub decode_rest-requires-clause-going : goal.decode_rest-requires-clause-going
decode_rest-requires-clause-going g c = let said = rw c.if-last.false at c.in-Ok.ensures in c.requires.going (said.last refl)

pub decode_rest-requires-clause-few : goal.decode_rest-requires-clause-few
decode_rest-requires-clause-few g c = let more = c.in-Ok.ensures.few in let few = c.requires.few in omega (arith, more, few)

pub returns : goal.returns
returns g c writing strict before limit size k b =
    let going = rw c.if-last.false at (c.in-Ok.ensures.comes writing strict before (g.S.Source.told c.args.source.now) limit c.args.left.now size c.args.feed.now k b) in
    c.decode_rest.ensures writing strict before limit size k going

pub decode_window-requires-clause-few : goal.decode_window-requires-clause-few
decode_window-requires-clause-few g c = let few = c.requires.few in omega (arith, few)
