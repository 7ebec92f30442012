use Rattle.std.proofs.Common.{None, refl}
use Rattle.jl_windows.proofs.CountedLaws.{counts_source}
use Rattle.jl_windows.proofs.counting.count_source.Goals as goal

pub returns : goal.returns
returns g c =
    counts_source c.args.strict (g.S.Source.told c.args.source.now) (g.S.Source.told c.decode_source.new.source) c.args.left.now c.decode_source.new.left c.args.window (record { held = None; faults = 0 }) c.decode_source.result refl c.decode_source.ensures
