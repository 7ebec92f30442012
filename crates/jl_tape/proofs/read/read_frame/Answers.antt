use Rattle.std.proofs.Common.{◌≡◌, ◌∙◌, ◌+◌, List, [], ◌∷◌, Some, None, length, length-append, sym, ap, subst, arith, slice_range, take}
use Rattle.jl_base.specs.Results.{joined}
use Rattle.jl_rows.specs.Files.{fault_at, placed_on, rows}
use Rattle.jl_tape.specs.declared.tape.PlacedRow.{PlacedRow}
use Rattle.jl_tape.specs.Tapes.{HasRows, reading_of}
use Rattle.jl_tape.proofs.TapeLemmas.{has_snoc, placed_row, take_snoc, tape_next, tape_done, tape_broken}
use Rattle.jl_tape.proofs.read.read_frame.Goals as goal

pub by_row-preserved : goal.by_row-preserved
by_row-preserved c =
    let read = rw (c.in-Ok-Some.is) at c.in_ok-next.ensures.next in
    let said = rw c.in-Ok-Some.field-0-is at read in
    let bytes = c.args.bytes.now in
    let old = c.by_row.tape in
    let row = placed_row c.args.number c.by_row.count said.row in
    let rest = slice_range bytes c.by_row.place c.args.end in
    let rest' = slice_range bytes c.in-Ok-Some.next c.args.end in
    let within = said.within in
    let wide = said.wide in
    let long : length c.read_next.new.self ≡ length old + 1 = ap length said.taken ∙ length-append old (row ∷ []) in
    rw c.in-Ok-Some.next-is
    (record {
      inside = within.1;
      counted = omega (arith, wide, c.by_row.invariant.counted);
      more = omega (arith, wide, long, c.by_row.invariant.more);
      longer = omega (arith, long, c.by_row.invariant.longer);
      kept = ap (take (length c.args.tape.now)) said.taken ∙ take_snoc (length c.args.tape.now) old row c.by_row.invariant.longer ∙ c.by_row.invariant.kept;
      read = c.by_row.invariant.read ∙ tape_next bytes old c.args.number c.by_row.count rest rest' said.row said.exact
          ∙ ap (λ (ts : List PlacedRow). joined (reading_of bytes ts None) (placed_on c.args.number (c.by_row.count + 1) (rows rest'))) (sym said.taken);
      has = subst (HasRows bytes) (sym said.taken) (has_snoc bytes old row c.by_row.invariant.has within.2);
    })

pub returns-in-Ok-None-clause-read : goal.returns-in-Ok-None-clause-read
returns-in-Ok-None-clause-read c =
    let read = rw (c.in-Ok-None.is) at c.in_ok-next.ensures.next in
    let said = rw c.in-Ok-None.field-0-is at read in
    ap (λ (ts : List PlacedRow). reading_of c.args.bytes.now ts None) said.0
    ∙ sym (c.by_row.invariant.read ∙ tape_done c.args.bytes.now c.by_row.tape c.args.number c.by_row.count (slice_range c.args.bytes.now c.by_row.place c.args.end) said.1)

pub returns-in-Err-clause-read : goal.returns-in-Err-clause-read
returns-in-Err-clause-read c =
    let said = rw (c.in-Err.is) at c.in_ok-next.ensures.next in
    ap (λ (ts : List PlacedRow). reading_of c.args.bytes.now ts (Some (fault_at c.args.number (c.by_row.count + 1) c.in-Err.kind))) said.0
    ∙ sym (c.by_row.invariant.read ∙ tape_broken c.args.bytes.now c.by_row.tape c.args.number c.by_row.count (slice_range c.args.bytes.now c.by_row.place c.args.end) c.in-Err.kind said.1)
