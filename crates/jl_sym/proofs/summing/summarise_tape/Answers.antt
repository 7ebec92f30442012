use Rattle.std.proofs.Common.{◌≡◌, ◌≤◌, ◌∙◌, suc, List, [], length, map, take, drop, Option, Some, None, sym, ap, subst, arith}
use Rattle.std.proofs.lemmas.List.{take_all}
use Rattle.jl_base.specs.declared.place.Fault.{Fault}
use Rattle.jl_rows.specs.Files.{Placed}
use Rattle.jl_rows.specs.Seen.{options_seen}
use Rattle.jl_sym_laws.specs.Summaries.{Summary}
use Rattle.jl_sym_laws.specs.Cutting.{IsMade}
use Rattle.jl_sym_laws.proofs.Staying.{sums_settle}
use Rattle.jl_tape.specs.declared.tape.PlacedRow.{PlacedRow}
use Rattle.jl_tape.specs.Tapes.{placed_seen, reading_of}
use Rattle.jl_sym.specs.Seen.{growing_seen, summary_seen}
use Rattle.jl_sym.proofs.SumLemmas.{SumsRows, unit_sums, sums_next, sums_refused, sums_ended, sums_on_summarise, map_next, map_around, has_at}
use Rattle.jl_sym.proofs.summing.summarise_tape.Goals as goal

pub loop-i-init : goal.loop-i-init
loop-i-init c =
    let none = c.new-growing.ensures.none c.args.bytes.now in
    let rows : c.new-growing.result.rows ≡ 0 = ap (λ (m : Summary). m.rows) none in
    record {
      sums = subst (SumsRows (options_seen c.args.bytes.now c.args.options.now) [] None) (sym none) (unit_sums (options_seen c.args.bytes.now c.args.options.now));
      fit = c.new-growing.ensures.fit c.args.bytes.now c.start.new.self c.in_ok-start.ensures;
      rows = omega (arith, rows);
    }

pub row-requires-clause-inside : goal.row-requires-clause-inside
row-requires-clause-inside c = has_at c.args.bytes.now c.args.tape.now c.loop-i.i c.at-placed.result.now c.at-placed.ensures c.requires.rows

pub loop-i-preserved : goal.loop-i-preserved
loop-i-preserved c =
    let o = options_seen c.args.bytes.now c.args.options.now in
    let here : PlacedRow = c.at-placed.result.now in
    let grew = c.in-Ok.ensures.rows in
    record {
      sums = subst (λ (rs : List Placed). SumsRows o rs None (growing_seen c.args.bytes.now c.row.new.self)) (sym (map_next (placed_seen c.args.bytes.now) c.args.tape.now c.loop-i.i here c.at-placed.ensures))
          (sums_next o (map (placed_seen c.args.bytes.now) (take c.loop-i.i c.args.tape.now)) (placed_seen c.args.bytes.now here) (growing_seen c.args.bytes.now c.loop-i.growing) (growing_seen c.args.bytes.now c.row.new.self) c.loop-i.invariant.sums c.in-Ok.ensures.grows);
      fit = c.in-Ok.ensures.fit;
      rows = omega (arith, grew, c.loop-i.invariant.rows);
    }

pub returns-in-Err-Fault-clause-acts : goal.returns-in-Err-Fault-clause-acts
returns-in-Err-Fault-clause-acts c =
    let o = options_seen c.args.bytes.now c.args.options.now in
    let bytes = c.args.bytes.now in
    let here : PlacedRow = c.at-placed.result.now in
    let rest = map (placed_seen bytes) (drop (suc c.loop-i.i) c.args.tape.now) in
    let grew = rw c.in-Err-Fault.field-0-is at c.in-Err-Fault.ensures.grows in
    let never = rw c.in-Err-Fault.kind-is at c.in_ok-refuse-in-Err-Fault.ensures.never in
    let refused = sums_refused o (map (placed_seen bytes) (take c.loop-i.i c.args.tape.now)) (placed_seen bytes here) rest c.args.fault c.in-Err-Fault.kind (growing_seen bytes c.loop-i.growing) (growing_seen bytes c.row.new.self) c.loop-i.invariant.sums grew in
    (subst (λ (rs : List Placed). SumsRows o rs c.args.fault (summary_seen bytes c.finish.result)) (sym (map_around (placed_seen bytes) c.args.tape.now c.loop-i.i here c.at-placed.ensures))
    (subst (SumsRows o _ c.args.fault) (sym (c.finish.ensures.seen bytes ∙ never)) refused))

pub returns-in-Err-Fault-clause-sums : goal.returns-in-Err-Fault-clause-sums
returns-in-Err-Fault-clause-sums c = sums_on_summarise (options_seen c.args.bytes.now c.args.options.now) (reading_of c.args.bytes.now c.args.tape.now c.args.fault) (summary_seen c.args.bytes.now c.finish.result) (returns-in-Err-Fault-clause-acts c)

pub returns-in-Err-Fault-clause-lawful : goal.returns-in-Err-Fault-clause-lawful
returns-in-Err-Fault-clause-lawful c = record {
  made = subst IsMade (sym (c.finish.ensures.seen c.args.bytes.now)) c.in_ok-refuse-in-Err-Fault.ensures.made;
  settles = sums_settle (options_seen c.args.bytes.now c.args.options.now) (reading_of c.args.bytes.now c.args.tape.now c.args.fault) (summary_seen c.args.bytes.now c.finish.result) (returns-in-Err-Fault-clause-acts c);
  held = c.finish.ensures.held c.args.bytes.now c.in_ok-refuse-in-Err-Fault.ensures.held;
}

pub returns-in_ok-refuse-in-Some-clause-acts : goal.returns-in_ok-refuse-in-Some-clause-acts
returns-in_ok-refuse-in-Some-clause-acts c =
    let o = options_seen c.args.bytes.now c.args.options.now in
    let bytes = c.args.bytes.now in
    let all : length c.args.tape.now ≤ c.loop-i.i = omega (arith, c.loop-i-test.false, c.len-i-end.ensures) in
    let whole = ap (map (placed_seen bytes)) (take_all c.loop-i.i c.args.tape.now all) in
    let ended = sums_ended o (map (placed_seen bytes) (take c.loop-i.i c.args.tape.now)) (growing_seen bytes c.loop-i.growing) c.in-Some.fault c.loop-i.invariant.sums in
    (subst (λ (f : Option Fault). SumsRows o (map (placed_seen bytes) c.args.tape.now) f (summary_seen bytes c.finish-in-Some.result)) (sym c.in-Some.is)
    (subst (λ (rs : List Placed). SumsRows o rs (Some c.in-Some.fault) (summary_seen bytes c.finish-in-Some.result)) whole
    (subst (SumsRows o _ (Some c.in-Some.fault)) (sym (c.finish-in-Some.ensures.seen bytes ∙ c.in_ok-refuse-in-Some.ensures.never)) ended)))

pub returns-in_ok-refuse-in-Some-clause-sums : goal.returns-in_ok-refuse-in-Some-clause-sums
returns-in_ok-refuse-in-Some-clause-sums c = sums_on_summarise (options_seen c.args.bytes.now c.args.options.now) (reading_of c.args.bytes.now c.args.tape.now c.args.fault) (summary_seen c.args.bytes.now c.finish-in-Some.result) (returns-in_ok-refuse-in-Some-clause-acts c)

pub returns-in_ok-refuse-in-Some-clause-lawful : goal.returns-in_ok-refuse-in-Some-clause-lawful
returns-in_ok-refuse-in-Some-clause-lawful c = record {
  made = subst IsMade (sym (c.finish-in-Some.ensures.seen c.args.bytes.now)) c.in_ok-refuse-in-Some.ensures.made;
  settles = sums_settle (options_seen c.args.bytes.now c.args.options.now) (reading_of c.args.bytes.now c.args.tape.now c.args.fault) (summary_seen c.args.bytes.now c.finish-in-Some.result) (returns-in_ok-refuse-in-Some-clause-acts c);
  held = c.finish-in-Some.ensures.held c.args.bytes.now c.in_ok-refuse-in-Some.ensures.held;
}

pub returns-in-None-clause-acts : goal.returns-in-None-clause-acts
returns-in-None-clause-acts c =
    let o = options_seen c.args.bytes.now c.args.options.now in
    let bytes = c.args.bytes.now in
    let all : length c.args.tape.now ≤ c.loop-i.i = omega (arith, c.loop-i-test.false, c.len-i-end.ensures) in
    let whole = ap (map (placed_seen bytes)) (take_all c.loop-i.i c.args.tape.now all) in
    (subst (λ (f : Option Fault). SumsRows o (map (placed_seen bytes) c.args.tape.now) f (summary_seen bytes c.finish-in-None.result)) (sym c.in-None.is)
    (subst (λ (rs : List Placed). SumsRows o rs None (summary_seen bytes c.finish-in-None.result)) whole
    (subst (SumsRows o _ None) (sym (c.finish-in-None.ensures.seen bytes)) c.loop-i.invariant.sums)))

pub returns-in-None-clause-sums : goal.returns-in-None-clause-sums
returns-in-None-clause-sums c = sums_on_summarise (options_seen c.args.bytes.now c.args.options.now) (reading_of c.args.bytes.now c.args.tape.now c.args.fault) (summary_seen c.args.bytes.now c.finish-in-None.result) (returns-in-None-clause-acts c)

pub returns-in-None-clause-lawful : goal.returns-in-None-clause-lawful
returns-in-None-clause-lawful c = record {
  made = subst IsMade (sym (c.finish-in-None.ensures.seen c.args.bytes.now)) c.loop-i.invariant.fit.made;
  settles = sums_settle (options_seen c.args.bytes.now c.args.options.now) (reading_of c.args.bytes.now c.args.tape.now c.args.fault) (summary_seen c.args.bytes.now c.finish-in-None.result) (returns-in-None-clause-acts c);
  held = c.finish-in-None.ensures.held c.args.bytes.now c.loop-i.invariant.fit.held;
}
