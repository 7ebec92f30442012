use Rattle.std.proofs.Common.{◌≡◌, ◌+◌}
use Rattle.jl_base.specs.SourceLists.{total}
use Rattle.jl_base.proofs.ReadingLemmas.{ReadFirst}
use Rattle.jl_top.proofs.gather.gather.Given as goal

abbrev pub invariant-loop-i : goal.invariant-loop-i
invariant-loop-i g l =
    record {
      first : ReadFirst g.S.Source.told l.i l.fn.sources.items l.sources.items l.spaces;
      used : total l.spaces + l.left ≡ l.limit;
    }
