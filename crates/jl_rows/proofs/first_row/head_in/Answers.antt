-- Each return is one lemma on frames of which the first ones have no rows.
use Rattle.std.proofs.Common.{◌≡◌, ◌∙◌, Some, None, Option, refl, ap, sym, arith, length, slice_range}
use Rattle.jl_base.specs.Results.{Reading}
use Rattle.jl_base.specs.declared.kind.Kind.{Kind}
use Rattle.jl_rows.specs.Seen.{row_seen}
use Rattle.jl_rows.specs.Heads.{head_seen}
use Rattle.jl_rows.specs.Files.{frames, rows_then}
use Rattle.jl_rows.proofs.FrameLaws.{frames_at_end}
use Rattle.jl_rows.proofs.HeadsIn.{head_on, none_then, row_then, fault_then, begins_checked, empty_then, faultless}
use Rattle.jl_rows.proofs.first_row.head_in.Goals as goal

pub frames-preserved : goal.frames-preserved
frames-preserved c =
    let frame = rw c.in-Ok-Some.field-0-is at c.in-Ok-Some.ensures in
    let within = frame.within in
    let none = rw c.in-Ok-None-next_row_at.field-0-is at c.in-Ok-None-next_row_at.ensures in
    let x = slice_range c.args.bytes.now c.frames.place c.args.end in
    let body = slice_range c.args.bytes.now c.in-Ok-Some.body.0 c.in-Ok-Some.body.1 in
    let left = slice_range c.args.bytes.now c.in-Ok-Some.body.1 c.args.end in
    record {
      start = omega (arith, within, c.frames.invariant.start);
      inside = within.2;
      counted = omega (arith, within, c.frames.invariant.counted);
      whole = faultless x body left frame.exact c.frames.invariant.whole;
      rest = λ B. c.frames.invariant.rest B ∙ empty_then c.frames.frame x B body left frame.exact none.exact;
    }

pub returns-in-Ok-None-clause-exact : goal.returns-in-Ok-None-clause-exact
returns-in-Ok-None-clause-exact c B =
    let ended = rw c.in-Ok-None.field-0-is at c.in-Ok-None.ensures.exact in
    c.frames.invariant.rest B ∙ none_then c.frames.frame (slice_range c.args.bytes.now c.frames.place c.args.end) B (frames_at_end c.args.bytes.now c.frames.place c.args.end ended)

pub returns-in-Ok-Some-next_row_at-clause-exact : goal.returns-in-Ok-Some-next_row_at-clause-exact
returns-in-Ok-Some-next_row_at-clause-exact c B =
    let frame = rw c.in-Ok-Some.field-0-is at c.in-Ok-Some.ensures in
    let found = rw c.in-Ok-Some-next_row_at.field-0-is at c.in-Ok-Some-next_row_at.ensures in
    let x = slice_range c.args.bytes.now c.frames.place c.args.end in
    let body = slice_range c.args.bytes.now c.in-Ok-Some.body.0 c.in-Ok-Some.body.1 in
    let left = slice_range c.args.bytes.now c.in-Ok-Some.body.1 c.args.end in
    begins_checked c.args.bytes.now _ B c.checked.result _ _
    (ap head_on (c.frames.invariant.rest B) ∙ row_then c.frames.frame x B body left frame.exact _ (row_seen c.args.bytes.now c.in-Ok-Some-next_row_at.row) found.exact)
    c.checked.ensures.exact

pub returns-in-Err-next_row_at-clause-exact : goal.returns-in-Err-next_row_at-clause-exact
returns-in-Err-next_row_at-clause-exact c B =
    let frame = rw c.in-Ok-Some.field-0-is at c.in-Ok-Some.ensures in
    let x = slice_range c.args.bytes.now c.frames.place c.args.end in
    let body = slice_range c.args.bytes.now c.in-Ok-Some.body.0 c.in-Ok-Some.body.1 in
    let left = slice_range c.args.bytes.now c.in-Ok-Some.body.1 c.args.end in
    rw c.bad.ensures
    (ap head_on (c.frames.invariant.rest B) ∙ fault_then c.frames.frame x B body left frame.exact c.in-Err-next_row_at.kind c.in-Err-next_row_at.ensures.exact)
