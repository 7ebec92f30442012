-- What a wave's workers have may cross threads.
use denote.Param.Send.{IsSend, IsSync, recorded_send, recorded_sync, sendable, struct_send, struct_sync}
use denote.RattleType.{RattleType}
use denote.Ref.{NamedLft}
use denote.Struct.Declared.{shape}
use Rattle.std.proofs.Crossing.{crosses}
use Rattle.std.proofs.option.Option.TheSendSync as option
use Rattle.std.proofs.alloc.Global.TheSendSync as heap
use Rattle.jl_rows.proofs.options.Options.TheSendSync as options
use Rattle.jl_state.specs.contracts.state.State as state
use Rattle.jl_state.proofs.known.Known.TheLaws.TheKnot as knot
use Rattle.jl_state.proofs.tables.Tables.TheSendSync as tables
use Rattle.jl_state.proofs.tables.LastIds.TheSendSync as last
use Rattle.jl_scan.specs.declared.published.Scanned.{Ghosts}
use Rattle.jl_scan.proofs.scan.Scan.TheSendSync as scan
use Rattle.jl_tape.proofs.tape.Tape.TheSendSync as tape
use Rattle.jl_cells.proofs.pass.Pass.TheSendSync as pass
use Rattle.jl_wave.specs.contracts.wave.Wave as wave
use Rattle.jl_wave.specs.contracts.bench.Bench as bench

pub state_field_send : IsSend state.the_field.row
state_field_send = struct_send (shape state.the_type) (search (sendable, crosses, options.the_field_send), (search (sendable, crosses, tables.the_field_send), (search sendable, (search sendable, (search sendable, (search (sendable, crosses, last.the_field_send), (search (sendable, crosses, option.the_field_send, knot.crosses) depth 12, (search (sendable, crosses, option.the_field_send, knot.crosses) depth 12, (search (sendable, crosses, option.the_field_send, knot.crosses) depth 12, (search (sendable, crosses, option.the_field_send, knot.crosses) depth 12, (search (sendable, crosses, option.the_field_send, knot.crosses) depth 12, tt)))))))))))

pub state_field_sync : IsSync state.the_field.row
state_field_sync = struct_sync (shape state.the_type) (search (sendable, crosses, options.the_field_sync), (search (sendable, crosses, tables.the_field_sync), (search sendable, (search sendable, (search sendable, (search (sendable, crosses, last.the_field_sync), (search (sendable, crosses, option.the_field_sync, knot.crosses) depth 12, (search (sendable, crosses, option.the_field_sync, knot.crosses) depth 12, (search (sendable, crosses, option.the_field_sync, knot.crosses) depth 12, (search (sendable, crosses, option.the_field_sync, knot.crosses) depth 12, (search (sendable, crosses, option.the_field_sync, knot.crosses) depth 12, tt)))))))))))

pub state_sync : IsSync state.the_row
state_sync = recorded_sync _ _ _ state.the_type.to_one state_field_sync

pub wave_sync : (a b : NamedLft) (F M T O : RattleType) (g : Ghosts F.Denot) → IsSync M → IsSync (wave.the_row a b F M T O g)
wave_sync a b F M T O g m =
    recorded_sync _ _ _ (wave.the_type a b F M T O g).to_one
    (struct_sync (shape (wave.the_type a b F M T O g)) (search (sendable, crosses, heap.the_field_sync), (search (sendable, crosses, scan.the_sync), (search (sendable, crosses, state_sync, state_field_sync), (search (sendable, crosses), tt)))))

pub bench_send : (F T : RattleType) (g : Ghosts F.Denot) → IsSend T → IsSend (bench.the_row F T g)
bench_send F T g t =
    recorded_send _ _ _ (bench.the_type F T g).to_one
    (struct_send (shape (bench.the_type F T g)) (search sendable, (search (sendable, state_field_send), (search (sendable, option.the_field_send), (search (sendable, crosses, tape.the_send), (search sendable, (search (sendable, crosses, pass.the_send), tt)))))))
