use Rattle.jl_apply.proofs.new_terms.next_stop.Goals as goal

pub returns-clause-within : goal.returns-clause-within
returns-clause-within c = λ bytes made.
    let rows = c.args.summary.now.rows in
    let timed = made.timed in
    c.sooner.ensures.within bytes rows timed.open_graph
    (c.sooner-found-4.ensures.within bytes rows timed.graph
    (c.sooner-found-3.ensures.within bytes rows timed.object
    (c.sooner-found-2.ensures.within bytes rows timed.predicate
    (c.sooner-found.ensures.within bytes rows timed.subject tt))))
