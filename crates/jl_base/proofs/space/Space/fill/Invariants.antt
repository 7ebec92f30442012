use Rattle.std.proofs.Common.{ℕ, List, ◌≡◌, ◌++◌, ◌≤◌, ◌-◌, length}
use Rattle.jl_base.specs.Sources.{Reads}
use Rattle.jl_base.proofs.space.Space.fill.Given as goal

-- what was read so far stands after the old bytes, and is within the limit
abbrev pub invariant-pieces : goal.invariant-pieces
invariant-pieces g l =
    let told = g.S.Source.told in
    record {
      done : List ℕ;
      reads : Reads (told l.fn.source) (told l.source) done;
      appended : l.self ≡ l.fn.self ++ done;
      count : length done ≡ l.count;
      within : l.count ≤ l.limit;
      steady : (told l.source).faults ≡ (told l.fn.source).faults;
    }

abbrev pub decreases-pieces : goal.decreases-pieces
decreases-pieces g l = l.limit - l.count
