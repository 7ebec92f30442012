use Rattle.std.proofs.Common.{ℕ, List, ◌≡◌, ◌+◌, ◌++◌, ◌≤◌, ◌-◌, max, length}
use Rattle.jl_base.specs.Sources.{Reads}
use Rattle.jl_frames.proofs.feed.take_to.Given as goal

-- what was read so far stands after the old bytes of the space
abbrev pub invariant-reads : goal.invariant-reads
invariant-reads g l =
    let told = g.S.Source.told in
    record {
      taken : List ℕ;
      reads : Reads (told l.fn.source) (told l.source) taken;
      appended : l.space ≡ l.fn.space ++ taken;
      counted : l.fn.left ≡ length taken + l.left;
      within : length l.space ≤ max l.end (length l.fn.space);
      steady : (told l.source).faults ≡ (told l.fn.source).faults;
    }

abbrev pub decreases-reads : goal.decreases-reads
decreases-reads g l = l.end - length l.space
