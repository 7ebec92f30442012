use Rattle.std.proofs.Common.{◌+◌, ◌≤◌, [], Option, None, length, refl, ap, ◌∙◌, arith}
use Rattle.jl_base.specs.Results.{Reading, joined, with_front}
use Rattle.jl_base.specs.declared.place.Fault.{Fault}
use Rattle.jl_rows.specs.Files.{Placed}
use Rattle.jl_rows.specs.Seen.{options_seen}
use Rattle.jl_state.specs.Lawful.{state_seen}
use Rattle.jl_state.specs.Running.{after_reading}
use Rattle.jl_tape.specs.Tapes.{placed_seen, reading_of}
use Rattle.jl_lines.specs.declared.decoding.Refused.TheVariants as refused
use Rattle.jl_lines.specs.Going.{outcome}
use Rattle.jl_lines.specs.Taped.{left_on, refusal}
use Rattle.jl_lines.proofs.GoingLemmas.{halts_read, halts_then}
use Rattle.jl_lines.proofs.Taping.{after_next, after_none, has_at, left_ended, left_next}
use Rattle.jl_lines.proofs.decoding.Decoding.taped.Goals as goal

pub loop-i-init : goal.loop-i-init
loop-i-init c = record { went = λ B. refl; state = refl; few = omega arith; kept = c.requires.kept; options = refl; writing = refl }

pub placed_row-requires-clause-inside : goal.placed_row-requires-clause-inside
placed_row-requires-clause-inside c = has_at c.args.bytes.now c.args.tape.now c.loop-i.i c.at-placed.result.now c.requires.rows c.at-placed.ensures

pub loop-i-preserved : goal.loop-i-preserved
loop-i-preserved c =
    let bytes = c.args.bytes.now in
    let tape = c.args.tape.now in
    let p = c.at-placed.result.now in
    record {
      went = λ B. (
          let rest = joined (left_on bytes tape (c.loop-i.i + 1) c.args.fault) B in
          c.loop-i.invariant.went B
          ∙ ap (outcome bytes c.loop-i.self) (left_next bytes tape c.args.fault B c.loop-i.i p c.at-placed.ensures)
          ∙ c.in-Ok.ensures.comes rest);
      state =
          (let said = rw c.loop-i.invariant.options at c.in-Ok.ensures.state in
          c.loop-i.invariant.state
          ∙ after_next bytes tape c.args.fault (options_seen bytes c.args.self.now.state.options) (state_seen bytes c.loop-i.self.state) (state_seen bytes c.placed_row.new.self.state) c.loop-i.i p c.at-placed.ensures said);
      few = let one = c.in-Ok.ensures.few in omega (arith, one, c.loop-i.invariant.few);
      kept = c.in-Ok.ensures.kept;
      options = c.in-Ok.ensures.options ∙ c.loop-i.invariant.options;
      writing = c.in-Ok.ensures.writing ∙ c.loop-i.invariant.writing;
    }

pub returns-in-Err-clause-comes : goal.returns-in-Err-clause-comes
returns-in-Err-clause-comes c B =
    let bytes = c.args.bytes.now in
    let tape = c.args.tape.now in
    let p = c.at-placed.result.now in
    let front = with_front (placed_seen bytes p) (joined (left_on bytes tape (c.loop-i.i + 1) c.args.fault) B) in
    rw c.refused.ensures
    (halts_then (outcome bytes c.args.self.now (joined (reading_of bytes tape c.args.fault) B)) (outcome bytes c.loop-i.self front) c.placed_row.new.self (refusal p.place c.in-Err.stop)
    (c.loop-i.invariant.went B ∙ ap (outcome bytes c.loop-i.self) (left_next bytes tape c.args.fault B c.loop-i.i p c.at-placed.ensures))
    (c.in-Err.ensures.comes (joined (left_on bytes tape (c.loop-i.i + 1) c.args.fault) B)))

pub returns-in-Some-clause-comes : goal.returns-in-Some-clause-comes
returns-in-Some-clause-comes c B =
    let bytes = c.args.bytes.now in
    let tape = c.args.tape.now in
    let all : length tape ≤ c.loop-i.i = omega (arith, c.loop-i-test.false, c.len-i-end.ensures) in
    let ended = ap (λ (R : Reading Placed Fault). joined R B) (left_ended bytes tape c.args.fault c.loop-i.i all) ∙ ap (λ (x : Option Fault). joined (record { items = []; fault = x }) B) c.in-Some.is in
    halts_then (outcome bytes c.args.self.now (joined (reading_of bytes tape c.args.fault) B)) (outcome bytes c.loop-i.self (joined (left_on bytes tape c.loop-i.i c.args.fault) B)) c.loop-i.self (refused.Malformed c.in-Some.fault)
    (c.loop-i.invariant.went B)
    (halts_read bytes c.loop-i.self c.loop-i.self (joined (left_on bytes tape c.loop-i.i c.args.fault) B) c.in-Some.fault ended refl refl)

pub returns-in-None-clause-comes : goal.returns-in-None-clause-comes
returns-in-None-clause-comes c B =
    let bytes = c.args.bytes.now in
    let tape = c.args.tape.now in
    let all : length tape ≤ c.loop-i.i = omega (arith, c.loop-i-test.false, c.len-i-end.ensures) in
    let ended = ap (λ (R : Reading Placed Fault). joined R B) (left_ended bytes tape c.args.fault c.loop-i.i all) ∙ ap (λ (x : Option Fault). joined (record { items = []; fault = x }) B) c.in-None.is in
    c.loop-i.invariant.went B ∙ ap (outcome bytes c.loop-i.self) ended

pub returns-in-None-clause-state : goal.returns-in-None-clause-state
returns-in-None-clause-state c =
    let bytes = c.args.bytes.now in
    let tape = c.args.tape.now in
    let o = options_seen bytes c.args.self.now.state.options in
    let s = state_seen bytes c.loop-i.self.state in
    let all : length tape ≤ c.loop-i.i = omega (arith, c.loop-i-test.false, c.len-i-end.ensures) in
    let ended = left_ended bytes tape c.args.fault c.loop-i.i all ∙ ap (λ (x : Option Fault). record { items = []; fault = x }) c.in-None.is in
    c.loop-i.invariant.state ∙ ap (after_reading o s) ended ∙ after_none o s None
