use Rattle.std.proofs.Common.{ap}
use Rattle.std.proofs.lemmas.Result.{err_from_is_err_and}
use Rattle.jl_base.specs.Items.{value_of}
use Rattle.jl_base.specs.Terms.{Value, Nested}
use Rattle.jl_encode.specs.Stated.{stated, nested_stated}
use Rattle.jl_encode.specs.Putting as putting
use Rattle.jl_encode.proofs.PutLemmas.{did_three, stops_as}
use Rattle.jl_encode.proofs.StatedLemmas.{did_triple, value_held}
use Rattle.jl_encode.proofs.desk.Desk.+put.Goals as goal

pub put_term-returns-in_err-three-in-Triple : goal.put_term-returns-in_err-three-in-Triple
put_term-returns-in_err-three-in-Triple t c =
    let three = c.get.result.now in
    let p = err_from_is_err_and c.from_residual-in_err-three-in-Triple.result c.from_residual-in_err-three-in-Triple.ensures.1 in
    let value = value_held c.args.term.now c.in-Triple.three three c.in-Triple.is c.get.ensures in
    rw (p.1, p.2) (
    stops_as (nested_stated (value_of three.s) (value_of three.p) (value_of three.o)) (stated (value_of c.args.term.now))
    (putting.put_term (Nested (value_of three.s) (value_of three.p) (value_of three.o)) c.args.self.now) (putting.put_term (value_of c.args.term.now) c.args.self.now)
    c.args.out.now.items c.put_three.new.out.items c.put_three.new.self c.in_err-three-in-Triple.field-0.0
    (ap (λ (v : Value). putting.put_term v c.args.self.now) value) c.in_err-three-in-Triple.ensures
    )

pub put_term-returns-in_ok-new-in-Triple : goal.put_term-returns-in_ok-new-in-Triple
put_term-returns-in_ok-new-in-Triple t c = did_triple c.args.term.now c.in-Triple.three c.get.result.now c.in_ok-three-in-Triple.three c.in_ok-new-in-Triple.field-0 c.args.self.now c.put_three.new.self c.args.out.now.items c.put_three.new.out.items c.in-Triple.is c.get.ensures c.in_ok-new-in-Triple.ensures c.in_ok-three-in-Triple.ensures

pub put_three-returns : goal.put_three-returns
put_three-returns t c = did_three (value_of c.args.three.now.s) (value_of c.args.three.now.p) (value_of c.args.three.now.o) c.args.self.now c.put_term.new.self c.put_term-2.new.self c.put_term-3.new.self c.args.out.now.items c.put_term.new.out.items c.put_term-2.new.out.items c.put_term-3.new.out.items _ _ _ c.in_ok-put_term.ensures c.in_ok-put_term-2.ensures c.in_ok-put_term-3.ensures
