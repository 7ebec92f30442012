use Rattle.std.proofs.Common.{◌≡◌, ◌+◌, All, vec_len}
use Rattle.jl_scan.specs.Fields.{seen}
use Rattle.jl_wave.specs.Benches.{IsBench}
use Rattle.jl_wave.proofs.seating.seated.Given as goal

abbrev pub decreases-loop-next : goal.decreases-loop-next
decreases-loop-next g l = vec_len l.kept

abbrev pub invariant-loop-next : goal.invariant-loop-next
invariant-loop-next g l = record {
  count : vec_len l.benches + vec_len l.kept ≡ vec_len l.fn.kept;
  each : All (IsBench g.F.Scanned.field (seen g.F.Scanned.field l.from) l.scan.runs l.scan.cells) l.benches.items;
}
