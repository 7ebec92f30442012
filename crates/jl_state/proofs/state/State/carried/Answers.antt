use Rattle.std.proofs.Common.{refl}
use Rattle.jl_rows.specs.Seen.{options_seen}
use Rattle.jl_state.specs.Lawful.{state_seen}
use Rattle.jl_rows.proofs.Carrying.{grows_then}
use Rattle.jl_state.proofs.Carrying.{state_carried, all_after}
use Rattle.jl_state.proofs.state.State.carried.Goals as goal

pub returns-in_err-names-clause-grows : goal.returns-in_err-names-clause-grows
returns-in_err-names-clause-grows c = grows_then _ _ _ c.carry.ensures.grows c.carry_slots.ensures.grows

pub returns-in_err-prefixes-clause-grows : goal.returns-in_err-prefixes-clause-grows
returns-in_err-prefixes-clause-grows c = grows_then _ _ _ c.carry.ensures.grows (grows_then _ _ _ c.carry_slots.ensures.grows c.carry_slots-2.ensures.grows)

pub returns-in_err-predicate-clause-grows : goal.returns-in_err-predicate-clause-grows
returns-in_err-predicate-clause-grows c =
    let g1 = grows_then _ _ _ c.carry_maybe.ensures.grows c.carry_maybe-2.ensures.grows in
    let s3 = grows_then _ _ _ c.carry_slots-3.ensures.grows g1 in
    let s2 = grows_then _ _ _ c.carry_slots-2.ensures.grows s3 in
    grows_then _ _ _ c.carry.ensures.grows (grows_then _ _ _ c.carry_slots.ensures.grows s2)

pub returns-in_err-object-clause-grows : goal.returns-in_err-object-clause-grows
returns-in_err-object-clause-grows c =
    let g2 = grows_then _ _ _ c.carry_maybe-2.ensures.grows c.carry_maybe-3.ensures.grows in
    let g1 = grows_then _ _ _ c.carry_maybe.ensures.grows g2 in
    let s3 = grows_then _ _ _ c.carry_slots-3.ensures.grows g1 in
    let s2 = grows_then _ _ _ c.carry_slots-2.ensures.grows s3 in
    grows_then _ _ _ c.carry.ensures.grows (grows_then _ _ _ c.carry_slots.ensures.grows s2)

pub returns-in_err-graph-clause-grows : goal.returns-in_err-graph-clause-grows
returns-in_err-graph-clause-grows c =
    let g3 = grows_then _ _ _ c.carry_maybe-3.ensures.grows c.carry_maybe-4.ensures.grows in
    let g2 = grows_then _ _ _ c.carry_maybe-2.ensures.grows g3 in
    let g1 = grows_then _ _ _ c.carry_maybe.ensures.grows g2 in
    let s3 = grows_then _ _ _ c.carry_slots-3.ensures.grows g1 in
    let s2 = grows_then _ _ _ c.carry_slots-2.ensures.grows s3 in
    grows_then _ _ _ c.carry.ensures.grows (grows_then _ _ _ c.carry_slots.ensures.grows s2)

pub returns-in_err-open_graph-clause-grows : goal.returns-in_err-open_graph-clause-grows
returns-in_err-open_graph-clause-grows c =
    let g4 = grows_then _ _ _ c.carry_maybe-4.ensures.grows c.carry_maybe-5.ensures.grows in
    let g3 = grows_then _ _ _ c.carry_maybe-3.ensures.grows g4 in
    let g2 = grows_then _ _ _ c.carry_maybe-2.ensures.grows g3 in
    let g1 = grows_then _ _ _ c.carry_maybe.ensures.grows g2 in
    let s3 = grows_then _ _ _ c.carry_slots-3.ensures.grows g1 in
    let s2 = grows_then _ _ _ c.carry_slots-2.ensures.grows s3 in
    grows_then _ _ _ c.carry.ensures.grows (grows_then _ _ _ c.carry_slots.ensures.grows s2)

pub returns-clause-grows : goal.returns-clause-grows
returns-clause-grows c =
    let g4 = grows_then _ _ _ c.carry_maybe-4.ensures.grows c.carry_maybe-5.ensures.grows in
    let g3 = grows_then _ _ _ c.carry_maybe-3.ensures.grows g4 in
    let g2 = grows_then _ _ _ c.carry_maybe-2.ensures.grows g3 in
    let g1 = grows_then _ _ _ c.carry_maybe.ensures.grows g2 in
    let s3 = grows_then _ _ _ c.carry_slots-3.ensures.grows g1 in
    let s2 = grows_then _ _ _ c.carry_slots-2.ensures.grows s3 in
    let s1 = grows_then _ _ _ c.carry_slots.ensures.grows s2 in
    grows_then _ _ _ c.carry.ensures.grows s1

pub returns-clause-carries : goal.returns-clause-carries
returns-clause-carries c bytes g =
    let g4 = grows_then _ _ _ c.carry_maybe-5.ensures.grows g in
    let g3 = grows_then _ _ _ c.carry_maybe-4.ensures.grows g4 in
    let g2 = grows_then _ _ _ c.carry_maybe-3.ensures.grows g3 in
    let g1 = grows_then _ _ _ c.carry_maybe-2.ensures.grows g2 in
    let s3 = grows_then _ _ _ c.carry_maybe.ensures.grows g1 in
    let s2 = grows_then _ _ _ c.carry_slots-3.ensures.grows s3 in
    let s1 = grows_then _ _ _ c.carry_slots-2.ensures.grows s2 in
    let s0 = grows_then _ _ _ c.carry_slots.ensures.grows s1 in
    let options = c.in_ok-options.ensures.carries bytes s0 in
    let names = rw c.deref.ensures.value at (c.in_ok-names.ensures.carries bytes s1) in
    let prefixes = rw c.deref-2.ensures.value at (c.in_ok-prefixes.ensures.carries bytes s2) in
    let datatypes = rw c.deref-3.ensures.value at (c.in_ok-datatypes.ensures.carries bytes s3) in
    let s = c.in_ok-subject.ensures.carries bytes g1 in
    let p = c.in_ok-predicate.ensures.carries bytes g2 in
    let o = c.in_ok-object.ensures.carries bytes g3 in
    let gr = c.in_ok-graph.ensures.carries bytes g4 in
    let og = c.in_ok-open_graph.ensures.carries bytes g in
    state_carried c.args.from.now bytes c.args.self.now _ c.requires options names prefixes datatypes s p o gr og refl refl refl refl

pub returns-clause-after : goal.returns-clause-after
returns-clause-after c =
    let from = c.args.from.now in
    let names = rw c.deref.ensures.value at c.in_ok-names.ensures.after in
    let prefixes = rw c.deref-2.ensures.value at c.in_ok-prefixes.ensures.after in
    let datatypes = rw c.deref-3.ensures.value at c.in_ok-datatypes.ensures.after in
    all_after c.args.into.now _ _ _ _ (options_seen from c.args.self.now.options) (state_seen from c.args.self.now) c.in_ok-options.ensures.after names prefixes datatypes
    _ _ _ _ _ c.in_ok-subject.ensures.after c.in_ok-predicate.ensures.after c.in_ok-object.ensures.after c.in_ok-graph.ensures.after c.in_ok-open_graph.ensures.after
