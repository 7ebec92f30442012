use Rattle.std.proofs.lemmas.Result.{err_from_is_err_and}
use Rattle.jl_base.specs.Items.{value_of}
use Rattle.jl_encode.specs.Lasts.{lasts_of}
use Rattle.jl_encode.specs.Stated.{stated}
use Rattle.jl_encode.proofs.ItemSteps.{row_puts, refused_by, triple_did, triple_none_3}
use Rattle.jl_encode.proofs.items.put_triple.Goals as goal

pub returns-in_err-object-clause-puts : goal.returns-in_err-object-clause-puts
returns-in_err-object-clause-puts c =
    let a = stated (value_of c.args.s.now) c.in_ok-subject.subject in
    let b = stated (value_of c.args.p.now) c.in_ok-predicate.predicate in
    refused_by _ (stated (value_of c.args.o.now)) _ c.args.out.now.items c.put_at-2.new.out.items c.put_at-3.new.out.items c.put_at-3.new.desk c.in_err-object.field-0.0 c.from_residual-in_err-object.result c.in_err-object.ensures.puts
    (triple_none_3 (lasts_of c.args.lasts.now) (value_of c.args.s.now) (value_of c.args.p.now) (value_of c.args.o.now) a b a
    c.args.out.now.items c.put_at.new.out.items c.put_at-2.new.out.items c.put_at-3.new.out.items c.args.desk.now c.put_at.new.desk c.put_at-2.new.desk c.put_at-3.new.desk
    c.in_ok-subject.ensures.puts c.in_ok-predicate.ensures.puts)
    (let p = err_from_is_err_and c.from_residual-in_err-object.result c.from_residual-in_err-object.ensures.1 in let is = p.1 in let which = p.2 in cc)

pub returns-clause-puts : goal.returns-clause-puts
returns-clause-puts c =
    let a = stated (value_of c.args.s.now) c.in_ok-subject.subject in
    let b = stated (value_of c.args.p.now) c.in_ok-predicate.predicate in
    let o = stated (value_of c.args.o.now) c.in_ok-object.object in
    row_puts _ c.args.out.now.items c.put_at-3.new.out.items c.push_triple_row.new.out.items _ c.put_at-3.new.desk c.push_triple_row.result
    (triple_did (lasts_of c.args.lasts.now) (value_of c.args.s.now) (value_of c.args.p.now) (value_of c.args.o.now) a b o
    c.args.out.now.items c.put_at.new.out.items c.put_at-2.new.out.items c.put_at-3.new.out.items c.args.desk.now c.put_at.new.desk c.put_at-2.new.desk c.put_at-3.new.desk
    c.in_ok-subject.ensures.puts c.in_ok-predicate.ensures.puts c.in_ok-object.ensures.puts)
    c.push_triple_row.ensures
