use Rattle.std.proofs.Common.{◌≡◌, Bool, true, false, ◌||◌, refl}
use Rattle.std.proofs.lemmas.Result.{err_from_is_err_and}
use Rattle.jl_apply.specs.Applying.{is_triple_left}
use Rattle.jl_apply.proofs.new_terms.NewTerms.read_at.Goals as goal

or_right : (a b : Bool) → b ≡ true → (a || b) ≡ true
or_right true b e = refl
or_right false b e = e

fifth : (a b c d e : Bool) → e ≡ true → (a || (b || (c || (d || e)))) ≡ true
fifth a b c d e h = or_right a (b || (c || (d || e))) (or_right b (c || (d || e)) (or_right c (d || e) (or_right d e h)))

pub returns-in_err-read-5-clause-memory : goal.returns-in_err-read-5-clause-memory
returns-in_err-read-5-clause-memory c =
    let p = err_from_is_err_and c.from_residual-in_err-read-5.result c.from_residual-in_err-read-5.ensures.1 in
    let bytes = c.args.lookup.now.bytes.now in
    let m = c.args.summary.now in
    rw p.1
    (fifth (is_triple_left bytes m.subject) (is_triple_left bytes m.predicate) (is_triple_left bytes m.object) (is_triple_left bytes m.graph) (is_triple_left bytes m.open_graph) c.in_err-read-5.ensures.memory)
