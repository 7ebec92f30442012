use denote.Exit.{no, yes}
use denote.Param.{param}
use denote.Param.Send.{arg_send, arg_sync, param_send, param_sync}
use Rattle.std.proofs.Crossing.{crosses}
use Rattle.std.proofs.alloc.Global.TheSendSync as heap
use Rattle.jl_scan.proofs.scan.Scan.TheSendSync as scan
use Rattle.jl_scan.specs.Fields.{seen}
use Rattle.jl_wave.proofs.Crossing.{bench_send, state_sync, wave_sync}
use Rattle.jl_wave.proofs.WaveLemmas.{is_field, fine_apart}
use Rattle.jl_wave.proofs.driving.share_out.Goals as goal

pub drive-requires-clause-apart : goal.drive-requires-clause-apart
drive-requires-clause-apart g c κs within =
    let w = g.F.Scanned.field in
    let scan = c.args.scan.now in
    fine_apart w (is_field w scan.file scan.lo scan.field c.requires.file) (seen w c.args.from.now)

pub drive-requires-send-W-Own : goal.drive-requires-send-W-Own
drive-requires-send-W-Own g c κs within = param_send 3 _ (arg_send _ no _ (bench_send (param 1 g.row.F) (param 4 g.row.M-Tools) g.F.Scanned c.type_bounds.send-M-Tools))

pub drive-requires-sync-W : goal.drive-requires-sync-W
drive-requires-sync-W g c κs within = param_sync 1 _ (arg_sync _ yes _ (wave_sync _ _ (param 1 g.row.F) (param 2 g.row.M) (param 4 g.row.M-Tools) (param 5 g.row.M-Made) g.F.Scanned c.type_bounds.sync-M))
