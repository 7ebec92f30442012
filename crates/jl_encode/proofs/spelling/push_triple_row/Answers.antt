use Rattle.std.proofs.lemmas.Result.{err_from_is_err_and}
use Rattle.jl_base.specs.Items.{value_of}
use Rattle.jl_rows.specs.Written.{Row}
use Rattle.jl_encode.specs.Spelling.{three_bytes}
use Rattle.jl_encode.specs.Stated.{stated}
use Rattle.jl_encode.proofs.RowLemmas.{row_appended, row_refused}
use Rattle.jl_encode.proofs.RowParts.{triple_row}
use Rattle.jl_encode.proofs.spelling.push_triple_row.Goals as goal

pub returns-in_err-push_fronts : goal.returns-in_err-push_fronts
returns-in_err-push_fronts c =
    let x = stated (value_of c.args.s.now) c.args.stands.now.s in
    let y = stated (value_of c.args.p.now) c.args.stands.now.p in
    let z = stated (value_of c.args.o.now) c.args.stands.now.o in
    let p = err_from_is_err_and c.from_residual.result c.from_residual.ensures.1 in
    rw (p.1, p.2) (row_refused c.in_err-push_fronts.field-0.0 (Row.Triple x y z) 2 c.args.out.now.items c.push_fronts.new.out.items (three_bytes x y z) (triple_row x y z) (c.in_err-push_fronts.ensures (three_bytes x y z) c.triple_size.ensures))

pub returns : goal.returns
returns c =
    let x = stated (value_of c.args.s.now) c.args.stands.now.s in
    let y = stated (value_of c.args.p.now) c.args.stands.now.p in
    let z = stated (value_of c.args.o.now) c.args.stands.now.o in
    let begun = c.in_ok-push_fronts.ensures (three_bytes x y z) c.triple_size.ensures in
    row_appended 2 c.args.out.now.items c.push_fronts.new.out.items c.push_triple.new.out.items (three_bytes x y z) _ (triple_row x y z) begun.0 c.in_ok-push_triple.ensures
