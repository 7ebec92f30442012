use Rattle.std.proofs.Common.{◌≤◌, List, Some, length, ap, sym, ◌∙◌, arith}
use Rattle.jl_base.specs.declared.term.Item as owned
use Rattle.jl_rows.specs.Seen.{options_seen}
use Rattle.jl_state.specs.Lawful.{state_seen}
use Rattle.jl_resolve.specs.Taking.{said}
use Rattle.jl_resolve.proofs.Taking.{after_ended, after_fault, after_next, has_at, said_ended, said_fault, said_next}
use Rattle.jl_resolve.proofs.resolving.resolve_tape.Goals as goal

pub take_placed-requires-clause-inside : goal.take_placed-requires-clause-inside
take_placed-requires-clause-inside c = has_at c.args.bytes.now c.args.tape.now c.loop-i.i c.at.result.now c.requires.rows c.at.ensures

pub returns-in-Some-clause-said : goal.returns-in-Some-clause-said
returns-in-Some-clause-said c =
    let took = rw (c.in-Some.is, c.loop-i.invariant.options) at c.in_ok-found.ensures.said in
    sym (c.loop-i.invariant.said
    ∙ said_fault c.args.bytes.now c.args.tape.now c.args.fault (options_seen c.args.bytes.now c.args.state.now.options) (state_seen c.args.bytes.now c.loop-i.state) c.loop-i.items c.loop-i.i c.at.result.now
    c.in-Some.found.kind c.in-Some.found.place c.at.ensures took.0 took.2
    ∙ ap (λ (items : List owned.Item). said items (Some c.in-Some.found)) (sym took.1))

pub returns-in-Some-clause-state : goal.returns-in-Some-clause-state
returns-in-Some-clause-state c =
    let took = rw (c.in-Some.is, c.loop-i.invariant.options) at c.in_ok-found.ensures.said in
    c.loop-i.invariant.after
    ∙ after_fault c.args.bytes.now c.args.tape.now c.args.fault (options_seen c.args.bytes.now c.args.state.now.options) (state_seen c.args.bytes.now c.loop-i.state) c.loop-i.items c.loop-i.i c.at.result.now
    c.in-Some.found.kind c.in-Some.found.place c.at.ensures took.0 took.2

pub loop-i-preserved : goal.loop-i-preserved
loop-i-preserved c =
    let bytes = c.args.bytes.now in
    let o = options_seen bytes c.args.state.now.options in
    let s = state_seen bytes c.loop-i.state in
    let t = state_seen bytes c.take_placed.new.state in
    let took = rw (c.in_default.is, c.loop-i.invariant.options) at c.in_ok-found.ensures.said in
    record {
      said = c.loop-i.invariant.said
          ∙ said_next bytes c.args.tape.now c.args.fault o s c.loop-i.items c.loop-i.i c.at.result.now t c.take_placed.new.items took.0 c.at.ensures took.1 took.2;
      after = c.loop-i.invariant.after
          ∙ after_next bytes c.args.tape.now c.args.fault o s c.loop-i.items c.loop-i.i c.at.result.now t took.0 c.at.ensures took.1;
      lawful = c.in_ok-found.ensures.lawful c.in_default.is;
      options = c.take_placed.ensures.options ∙ c.loop-i.invariant.options;
    }

pub returns-clause-said : goal.returns-clause-said
returns-clause-said c =
    let all : length c.args.tape.now ≤ c.loop-i.i = omega (arith, c.loop-i-test.false, c.len-i-end.ensures) in
    sym (c.loop-i.invariant.said
    ∙ said_ended c.args.bytes.now c.args.tape.now c.args.fault (options_seen c.args.bytes.now c.args.state.now.options) (state_seen c.args.bytes.now c.loop-i.state) c.loop-i.items c.loop-i.i all)

pub returns-clause-state : goal.returns-clause-state
returns-clause-state c =
    let all : length c.args.tape.now ≤ c.loop-i.i = omega (arith, c.loop-i-test.false, c.len-i-end.ensures) in
    c.loop-i.invariant.after
    ∙ after_ended c.args.bytes.now c.args.tape.now c.args.fault (options_seen c.args.bytes.now c.args.state.now.options) (state_seen c.args.bytes.now c.loop-i.state) c.loop-i.items c.loop-i.i all
