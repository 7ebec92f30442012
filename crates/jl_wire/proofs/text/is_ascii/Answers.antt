use Rattle.std.proofs.Common.{◌+◌, ◌-◌, ◌≤◌, length, inl, inr, arith, eq-eqb}
use Rattle.std.proofs.lemmas.Bool.{cases_lt, eqb-true}
use Rattle.jl_wire.proofs.AsciiRuns.{low_in_run, high_after_run, run_at_most}
use Rattle.jl_wire.proofs.text.is_ascii.Goals as goal

pub returns-then-ascii_run-lt16 : goal.returns-then-ascii_run-lt16
returns-then-ascii_run-lt16 c = (
  λ e. cc,
  λ ascii. absurd (high_after_run _ c.loop-at.at (omega arith) (omega (arith, c.ascii_run.ensures)) ascii),
)

pub loop-at-preserved : goal.loop-at-preserved
loop-at-preserved c = λ k below. elim (cases_lt k c.loop-at.at) [
  | inl before ↦ c.loop-at.invariant k before
  | inr from ↦ low_in_run _ c.loop-at.at 16 (omega arith) (omega (arith, c.ascii_run.ensures)) k from below
]

pub returns : goal.returns
returns c =
    let last = length c.args.text.now - 16 in
    let inside : last + 16 ≤ length c.args.text.now = omega arith in (
      λ e k lt. elim (cases_lt k c.loop-at.at) [
        | inl before ↦ c.loop-at.invariant k before
        | inr from ↦ low_in_run _ last 16 inside (omega (arith, c.ascii_run-2.ensures, eqb-true _ _ e)) k (omega arith) (omega arith)
      ],
      λ ascii. elim (cases_lt c.ascii_run-2.result 16) [
        | inl short ↦ absurd (high_after_run _ last inside (omega (arith, c.ascii_run-2.ensures)) ascii)
        | inr whole ↦ eq-eqb _ _ (omega (arith, c.ascii_run-2.ensures, run_at_most c.args.text.now last inside))
      ],
    )
