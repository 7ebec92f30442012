use Rattle.jl_rows.specs.Values.{Position}
use Rattle.jl_rows.specs.Seen.{options_seen, position_seen}
use Rattle.jl_state.specs.Positions.{under}
use Rattle.jl_state.specs.Seen.{slots_seen, ids_seen}
use Rattle.jl_state.specs.contracts.tables.Lookup.three.{STRICT-type}
use Rattle.jl_state.proofs.NestedTerms.{looked_nested, has_nested}
use Rattle.jl_state.proofs.tables.Lookup.+look.Goals as goal

pub three-returns-clause-exact : goal.three-returns-clause-exact
three-returns-clause-exact g t c =
    let bytes = c.args.self.now.bytes.now in
    let strict = STRICT-type (denote.Param.number g.row.STRICT) in
    let o = options_seen bytes c.args.self.now.options.now in
    rw c.in_ok-new.ensures
    (looked_nested (slots_seen bytes c.args.self.now.tables.now) bytes (ids_seen c.args.last.now) (ids_seen c.inner.new.last) (ids_seen c.inner-2.new.last) (ids_seen c.inner-3.new.last)
    (under strict o Position.Subject (position_seen bytes c.args.terms.now.s)) (under strict o Position.Predicate (position_seen bytes c.args.terms.now.p)) (under strict o Position.Object (position_seen bytes c.args.terms.now.o))
    (record { s = c.in_ok-s.s; p = c.in_ok-p.p; o = c.in_ok-o.o }) c.in_ok-s.ensures.exact c.in_ok-p.ensures.exact c.in_ok-o.ensures.exact)

pub three-returns-clause-sound : goal.three-returns-clause-sound
three-returns-clause-sound g t c =
    rw c.in_ok-new.ensures (has_nested c.args.self.now.bytes.now (record { s = c.in_ok-s.s; p = c.in_ok-p.p; o = c.in_ok-o.o }) c.in_ok-s.ensures.sound c.in_ok-p.ensures.sound c.in_ok-o.ensures.sound)
