use Rattle.jl_rows.specs.Seen.{position_seen}
use Rattle.jl_state.specs.Seen.{slots_seen, ids_seen}
use Rattle.jl_state.proofs.NestedTerms.{has_nested}
use Rattle.jl_apply.proofs.Resolving.{nested_is}
use Rattle.jl_apply.proofs.lookup.Lookup.+read.Goals as goal

pub three-returns-clause-value : goal.three-returns-clause-value
three-returns-clause-value t c =
    let bytes = c.args.self.now.bytes.now in
    rw c.in_ok-new.ensures
    (nested_is bytes (slots_seen bytes c.args.self.now.tables.now) (ids_seen c.args.last.now) (ids_seen c.inner.new.last) (ids_seen c.inner-2.new.last)
    (position_seen bytes c.args.terms.now.s) (position_seen bytes c.args.terms.now.p) (position_seen bytes c.args.terms.now.o) (record { s = c.in_ok-s.s; p = c.in_ok-p.p; o = c.in_ok-o.o })
    c.in_ok-s.ensures.last c.in_ok-p.ensures.last c.in_ok-s.ensures.value c.in_ok-p.ensures.value c.in_ok-o.ensures.value)

pub three-returns-clause-sound : goal.three-returns-clause-sound
three-returns-clause-sound t c =
    rw c.in_ok-new.ensures (has_nested c.args.self.now.bytes.now (record { s = c.in_ok-s.s; p = c.in_ok-p.p; o = c.in_ok-o.o }) c.in_ok-s.ensures.sound c.in_ok-p.ensures.sound c.in_ok-o.ensures.sound)
