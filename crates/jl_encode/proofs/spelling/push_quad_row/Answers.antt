use Rattle.std.proofs.Common.{◌++◌, ap₂, ◌∙◌}
use Rattle.std.proofs.lemmas.Result.{err_from_is_err_and}
use Rattle.jl_base.specs.Items.{value_of}
use Rattle.jl_rows.specs.Written.{Row}
use Rattle.jl_encode.specs.Spelling.{joint, three_bytes, graph_bytes}
use Rattle.jl_encode.specs.Stated.{stated}
use Rattle.jl_encode.proofs.Lengths.{joint_bytes}
use Rattle.jl_encode.proofs.RowLemmas.{two_behind, row_refused}
use Rattle.jl_encode.proofs.RowParts.{quad_row}
use Rattle.jl_encode.proofs.spelling.push_quad_row.Goals as goal

pub returns-in_err-push_fronts : goal.returns-in_err-push_fronts
returns-in_err-push_fronts c =
    let x = stated (value_of c.args.s.now) c.args.stands.now.s in
    let y = stated (value_of c.args.p.now) c.args.stands.now.p in
    let z = stated (value_of c.args.o.now) c.args.stands.now.o in
    let w = stated (value_of c.args.g.now) c.args.graph.now in
    let size = c.sum-size.ensures ∙ ap₂ joint c.triple_size.ensures c.graph_size.ensures ∙ joint_bytes (three_bytes x y z) (graph_bytes w) in
    let p = err_from_is_err_and c.from_residual.result c.from_residual.ensures.1 in
    rw (p.1, p.2) (row_refused c.in_err-push_fronts.field-0.0 (Row.Quad x y z w) 3 c.args.out.now.items c.push_fronts.new.out.items (three_bytes x y z ++ graph_bytes w) (quad_row x y z w) (c.in_err-push_fronts.ensures (three_bytes x y z ++ graph_bytes w) size))

pub returns : goal.returns
returns c =
    let x = stated (value_of c.args.s.now) c.args.stands.now.s in
    let y = stated (value_of c.args.p.now) c.args.stands.now.p in
    let z = stated (value_of c.args.o.now) c.args.stands.now.o in
    let w = stated (value_of c.args.g.now) c.args.graph.now in
    let size = c.sum-size.ensures ∙ ap₂ joint c.triple_size.ensures c.graph_size.ensures ∙ joint_bytes (three_bytes x y z) (graph_bytes w) in
    let begun = c.in_ok-push_fronts.ensures (three_bytes x y z ++ graph_bytes w) size in
    two_behind 3 c.args.out.now.items c.push_fronts.new.out.items c.push_triple.new.out.items c.push_graph.new.out.items (three_bytes x y z) (graph_bytes w) _ (quad_row x y z w) begun.0 c.in_ok-push_triple.ensures c.in_ok-push_graph.ensures
