use Rattle.std.proofs.Common.{Bool, Option}
use Rattle.std.proofs.lemmas.Result.{err_from_is_err_and}
use Rattle.jl_rows.specs.declared.row.RawTerm.{RawTerm}
use Rattle.jl_rows.specs.Written.{Term}
use Rattle.jl_rows.specs.Values.{Position}
use Rattle.jl_state.specs.Positions.{is_triple_term, under}
use Rattle.jl_state.specs.contracts.state.State.quad.{STRICT-type}
use Rattle.jl_rows.specs.Seen.{options_seen, position_seen}
use Rattle.jl_state.specs.Seen.{ids_seen}
use Rattle.jl_state.specs.Lawful.{state_seen, maybe_value}
use Rattle.jl_state.proofs.Statements.{quad_one, quad_two, quad_three, quad_four, stops_on, wants_fourth}
use Rattle.jl_state.proofs.state.State.quad.Goals as goal

pub returns-in_err-place-2-clause-exact : goal.returns-in_err-place-2-clause-exact
returns-in_err-place-2-clause-exact g c =
    let o = options_seen c.args.bytes.now c.args.self.now.options in
    let at : Position → Option RawTerm → Term = λ x t. under (STRICT-type (denote.Param.number g.row.STRICT)) o x (position_seen c.args.bytes.now t) in
    let p = err_from_is_err_and c.from_residual-in_err-place-2.result c.from_residual-in_err-place-2.ensures.1 in
    rw (p.1, p.2) (stops_on _ _ _ (λ k e. quad_one o (state_seen c.args.bytes.now c.args.self.now) (at Position.Subject c.args.t.now.s) (at Position.Predicate c.args.t.now.p) (at Position.Object c.args.t.now.o) (at Position.Graph c.args.t.now.g) (maybe_value c.args.bytes.now c.place.new.before) (ids_seen c.place.new.last) k c.in_ok-place.ensures.exact e) c.in_err-place-2.ensures.exact)

pub returns-in_err-place-3-clause-exact : goal.returns-in_err-place-3-clause-exact
returns-in_err-place-3-clause-exact g c =
    let o = options_seen c.args.bytes.now c.args.self.now.options in
    let at : Position → Option RawTerm → Term = λ x t. under (STRICT-type (denote.Param.number g.row.STRICT)) o x (position_seen c.args.bytes.now t) in
    let p = err_from_is_err_and c.from_residual-in_err-place-3.result c.from_residual-in_err-place-3.ensures.1 in
    rw (p.1, p.2) (stops_on _ _ _ (λ k e. quad_two o (state_seen c.args.bytes.now c.args.self.now) (at Position.Subject c.args.t.now.s) (at Position.Predicate c.args.t.now.p) (at Position.Object c.args.t.now.o) (at Position.Graph c.args.t.now.g) (maybe_value c.args.bytes.now c.place.new.before) (maybe_value c.args.bytes.now c.place-2.new.before) (ids_seen c.place.new.last) (ids_seen c.place-2.new.last) k c.in_ok-place.ensures.exact c.in_ok-place-2.ensures.exact e) c.in_err-place-3.ensures.exact)

pub returns-in_err-place-4-clause-exact : goal.returns-in_err-place-4-clause-exact
returns-in_err-place-4-clause-exact g c =
    let o = options_seen c.args.bytes.now c.args.self.now.options in
    let at : Position → Option RawTerm → Term = λ x t. under (STRICT-type (denote.Param.number g.row.STRICT)) o x (position_seen c.args.bytes.now t) in
    let p = err_from_is_err_and c.from_residual-in_err-place-4.result c.from_residual-in_err-place-4.ensures.1 in
    rw (p.1, p.2) (stops_on _ _ _ (λ k e. quad_three o (state_seen c.args.bytes.now c.args.self.now) (at Position.Subject c.args.t.now.s) (at Position.Predicate c.args.t.now.p) (at Position.Object c.args.t.now.o) (at Position.Graph c.args.t.now.g) (maybe_value c.args.bytes.now c.place.new.before) (maybe_value c.args.bytes.now c.place-2.new.before) (maybe_value c.args.bytes.now c.place-3.new.before) (ids_seen c.place.new.last) (ids_seen c.place-2.new.last) (ids_seen c.place-3.new.last) k c.in_ok-place.ensures.exact c.in_ok-place-2.ensures.exact c.in_ok-place-3.ensures.exact e) c.in_err-place-4.ensures.exact)

pub returns-clause-exact : goal.returns-clause-exact
returns-clause-exact g c =
    let o = options_seen c.args.bytes.now c.args.self.now.options in
    let at : Position → Option RawTerm → Term = λ x t. under (STRICT-type (denote.Param.number g.row.STRICT)) o x (position_seen c.args.bytes.now t) in
    quad_four o (state_seen c.args.bytes.now c.args.self.now) (at Position.Subject c.args.t.now.s) (at Position.Predicate c.args.t.now.p) (at Position.Object c.args.t.now.o) (at Position.Graph c.args.t.now.g) (maybe_value c.args.bytes.now c.place.new.before) (maybe_value c.args.bytes.now c.place-2.new.before) (maybe_value c.args.bytes.now c.place-3.new.before) (maybe_value c.args.bytes.now c.place-4.new.before) (ids_seen c.place.new.last) (ids_seen c.place-2.new.last) (ids_seen c.place-3.new.last) (ids_seen c.place-4.new.last) c.requires.form c.in_ok-place.ensures.exact c.in_ok-place-2.ensures.exact c.in_ok-place-3.ensures.exact c.in_ok-place-4.ensures.exact

pub returns-in_err-place-4-clause-memory : goal.returns-in_err-place-4-clause-memory
returns-in_err-place-4-clause-memory g c =
    let p = err_from_is_err_and c.from_residual-in_err-place-4.result c.from_residual-in_err-place-4.ensures.1 in
    let is : Option RawTerm → Bool = λ t. is_triple_term (position_seen c.args.bytes.now t) in
    rw (p.1, p.2) (wants_fourth (is c.args.t.now.s) (is c.args.t.now.p) (is c.args.t.now.o) (is c.args.t.now.g) _ c.in_err-place-4.ensures.memory)
