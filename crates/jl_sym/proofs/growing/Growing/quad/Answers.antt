use Rattle.std.proofs.Common.{Ok, Err}
use Rattle.std.proofs.lemmas.Result.{err_from_is_err_and}
use Rattle.jl_rows.specs.Seen.{position_seen}
use Rattle.jl_rows.specs.Values.{Position}
use Rattle.jl_sym.specs.Checked.{options_of}
use Rattle.jl_sym.specs.RowSteps.{puts, last_step, graph_on, object_then, predicate_then}
use Rattle.jl_sym.specs.Seen.{growing_seen}
use Rattle.jl_sym.proofs.GrowLemmas.{grows_then, grows_stopped}
use Rattle.jl_sym.proofs.growing.Growing.quad.Goals as goal

pub returns-in_err-put_subject-clause-grows : goal.returns-in_err-put_subject-clause-grows
returns-in_err-put_subject-clause-grows c =
    let q = err_from_is_err_and c.from_residual.result c.from_residual.ensures.1 in
    let here = c.args.here.now in
    let o = options_of here in
    let bytes = here.bytes.now in
    let x = position_seen bytes c.args.t.now.s in
    let y = position_seen bytes c.args.t.now.p in
    let z = position_seen bytes c.args.t.now.o in
    let v = position_seen bytes c.args.t.now.g in
    let m0 = growing_seen bytes c.args.self.now in
    let m1 = growing_seen bytes c.put_subject.new.self in
    let stop = c.in_err-put_subject.field-0.0 in
    rw (q.1, q.2)
    (grows_stopped o here.place.now (puts o Position.Subject x) (predicate_then o y z v) m0 m1 stop c.in_err-put_subject.ensures.grows)

pub returns-in_err-put_predicate-clause-grows : goal.returns-in_err-put_predicate-clause-grows
returns-in_err-put_predicate-clause-grows c =
    let q = err_from_is_err_and c.from_residual-in_err-put_predicate.result c.from_residual-in_err-put_predicate.ensures.1 in
    let here = c.args.here.now in
    let o = options_of here in
    let bytes = here.bytes.now in
    let x = position_seen bytes c.args.t.now.s in
    let y = position_seen bytes c.args.t.now.p in
    let z = position_seen bytes c.args.t.now.o in
    let v = position_seen bytes c.args.t.now.g in
    let m0 = growing_seen bytes c.args.self.now in
    let m1 = growing_seen bytes c.put_subject.new.self in
    let m2 = growing_seen bytes c.put_predicate.new.self in
    let stop = c.in_err-put_predicate.field-0.0 in
    rw (q.1, q.2)
    (grows_then o here.place.now (puts o Position.Subject x) (predicate_then o y z v) m0 m1 m2 (Err stop) c.in_ok-put_subject.ensures.grows
    (grows_stopped o here.place.now (puts o Position.Predicate y) (object_then o z v) m1 m2 stop c.in_err-put_predicate.ensures.grows))

pub returns-in_err-put_object-clause-grows : goal.returns-in_err-put_object-clause-grows
returns-in_err-put_object-clause-grows c =
    let q = err_from_is_err_and c.from_residual-in_err-put_object.result c.from_residual-in_err-put_object.ensures.1 in
    let here = c.args.here.now in
    let o = options_of here in
    let bytes = here.bytes.now in
    let x = position_seen bytes c.args.t.now.s in
    let y = position_seen bytes c.args.t.now.p in
    let z = position_seen bytes c.args.t.now.o in
    let v = position_seen bytes c.args.t.now.g in
    let m0 = growing_seen bytes c.args.self.now in
    let m1 = growing_seen bytes c.put_subject.new.self in
    let m2 = growing_seen bytes c.put_predicate.new.self in
    let m3 = growing_seen bytes c.put_object.new.self in
    let stop = c.in_err-put_object.field-0.0 in
    rw (q.1, q.2)
    (grows_then o here.place.now (puts o Position.Subject x) (predicate_then o y z v) m0 m1 m3 (Err stop) c.in_ok-put_subject.ensures.grows
    (grows_then o here.place.now (puts o Position.Predicate y) (object_then o z v) m1 m2 m3 (Err stop) c.in_ok-put_predicate.ensures.grows
    (grows_stopped o here.place.now (puts o Position.Object z) (graph_on o v) m2 m3 stop c.in_err-put_object.ensures.grows)))

pub returns-in_err-put_graph-clause-grows : goal.returns-in_err-put_graph-clause-grows
returns-in_err-put_graph-clause-grows c =
    let q = err_from_is_err_and c.from_residual-in_err-put_graph.result c.from_residual-in_err-put_graph.ensures.1 in
    let here = c.args.here.now in
    let o = options_of here in
    let bytes = here.bytes.now in
    let x = position_seen bytes c.args.t.now.s in
    let y = position_seen bytes c.args.t.now.p in
    let z = position_seen bytes c.args.t.now.o in
    let v = position_seen bytes c.args.t.now.g in
    let m0 = growing_seen bytes c.args.self.now in
    let m1 = growing_seen bytes c.put_subject.new.self in
    let m2 = growing_seen bytes c.put_predicate.new.self in
    let m3 = growing_seen bytes c.put_object.new.self in
    let m4 = growing_seen bytes c.put_graph.new.self in
    let stop = c.in_err-put_graph.field-0.0 in
    rw (q.1, q.2)
    (grows_then o here.place.now (puts o Position.Subject x) (predicate_then o y z v) m0 m1 m4 (Err stop) c.in_ok-put_subject.ensures.grows
    (grows_then o here.place.now (puts o Position.Predicate y) (object_then o z v) m1 m2 m4 (Err stop) c.in_ok-put_predicate.ensures.grows
    (grows_then o here.place.now (puts o Position.Object z) (graph_on o v) m2 m3 m4 (Err stop) c.in_ok-put_object.ensures.grows
    (grows_stopped o here.place.now (puts o Position.Graph v) (last_step) m3 m4 stop c.in_err-put_graph.ensures.grows))))

pub returns-clause-grows : goal.returns-clause-grows
returns-clause-grows c =
    let here = c.args.here.now in
    let o = options_of here in
    let bytes = here.bytes.now in
    let x = position_seen bytes c.args.t.now.s in
    let y = position_seen bytes c.args.t.now.p in
    let z = position_seen bytes c.args.t.now.o in
    let v = position_seen bytes c.args.t.now.g in
    let m0 = growing_seen bytes c.args.self.now in
    let m1 = growing_seen bytes c.put_subject.new.self in
    let m2 = growing_seen bytes c.put_predicate.new.self in
    let m3 = growing_seen bytes c.put_object.new.self in
    let m4 = growing_seen bytes c.put_graph.new.self in
    let m5 = growing_seen bytes c.end_row.new.self in
    grows_then o here.place.now (puts o Position.Subject x) (predicate_then o y z v) m0 m1 m5 (Ok tt) c.in_ok-put_subject.ensures.grows
    (grows_then o here.place.now (puts o Position.Predicate y) (object_then o z v) m1 m2 m5 (Ok tt) c.in_ok-put_predicate.ensures.grows
    (grows_then o here.place.now (puts o Position.Object z) (graph_on o v) m2 m3 m5 (Ok tt) c.in_ok-put_object.ensures.grows
    (grows_then o here.place.now (puts o Position.Graph v) (last_step) m3 m4 m5 (Ok tt) c.in_ok-put_graph.ensures.grows
    c.end_row.ensures.grows)))
