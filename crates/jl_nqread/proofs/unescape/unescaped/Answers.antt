use Rattle.std.proofs.Common.{ℕ, List, ◌+◌, ◌++◌, drop, slice_range, sym, ap, ◌∙◌, arith}
use Rattle.std.proofs.lemmas.List.{append_assoc, append-nil}
use Rattle.jl_nqread.specs.Meaning.{escaped, unescaped}
use Rattle.jl_nqread.proofs.MeaningLaws.{over, escape_done}
use Rattle.jl_nqread.proofs.unescape.unescaped.Goals as goal

pub returns-then-next-bytes : goal.returns-then-next-bytes
returns-then-next-bytes c =
    let done = escape_done c.args.bytes.now c.escapes.text c.escapes.at c.in_ok-next.next c.escapes-test.true c.escapes.invariant.1 c.in_ok-next.ensures.place c.escapes.invariant.0 in
    sym (done ∙ rw (over c.args.bytes.now c.in_ok-next.next (omega (arith, c.if-next-bytes.true)), sym c.in_ok-next.ensures.text) (append-nil _))

pub escapes-preserved : goal.escapes-preserved
escapes-preserved c =
    let done = escape_done c.args.bytes.now c.escapes.text c.escapes.at c.in_ok-next.next c.escapes-test.true c.escapes.invariant.1 c.in_ok-next.ensures.place c.escapes.invariant.0 in (
      done
          ∙ ap (λ (t : List ℕ). c.escapes.text ++ escaped (drop (c.escapes.at + 1) c.args.bytes.now) ++ t) c.plain_end-end.ensures.plain
          ∙ sym (append_assoc (c.escapes.text ++ escaped (drop (c.escapes.at + 1) c.args.bytes.now)) (slice_range c.args.bytes.now c.in_ok-next.next c.plain_end-end.result) (unescaped 0 (drop c.plain_end-end.result c.args.bytes.now)))
          ∙ ap (λ (t : List ℕ). t ++ unescaped 0 (drop c.plain_end-end.result c.args.bytes.now)) (sym (c.in_ok-append.ensures.ok ∙ ap (λ (t : List ℕ). t ++ slice_range c.args.bytes.now c.in_ok-next.next c.plain_end-end.result) c.in_ok-next.ensures.text)),
      c.plain_end-end.ensures.escape,
      c.plain_end-end.ensures.inside.1,
    )

pub returns : goal.returns
returns c = sym (c.escapes.invariant.0 ∙ rw (over c.args.bytes.now c.escapes.at (omega (arith, c.escapes-test.false))) (append-nil _))
