use Rattle.std.proofs.Common.{◌≡◌, ℕ, ◌<◌, ◌≤◌, All, length, vec_len, ◌∙◌, arith}
use Rattle.std.proofs.lemmas.List.Elements.{All-weaker}
use Rattle.jl_drive.specs.Pieces.{IsOf}
use Rattle.jl_drive.specs.declared.piece.Piece.{Piece}
use Rattle.jl_scan.specs.Fields.{seen}
use Rattle.jl_wave.specs.Benches.{KnowsWay}
use Rattle.jl_wave.specs.Waves.{IsMade}
use Rattle.jl_wave.proofs.WaveLemmas.{is_field, ran}
use Rattle.jl_wave.proofs.driving.drive_wave.Goals as goal

pub go_on-requires-clause-ran : goal.go_on-requires-clause-ran
go_on-requires-clause-ran g c =
    let w = g.F.Scanned.field in
    let scan = c.args.scan.now in
    let start = seen w c.args.state.now in
    let D = c.in_ok-pieces.ensures in
    ran w (is_field w scan.file scan.lo scan.field c.requires.file) start (IsMade w start (g.M.Making.makes c.args.maker.now)) scan.runs c.in_ok-pieces.field-0.pieces.items c.in_ok-pieces.field-0.fault D.pieces D.each

pub returns-clause-made : goal.returns-clause-made
returns-clause-made g c =
    let D = c.in_ok-pieces.ensures in
    let count : length c.in_ok-pieces.field-0.owns.items ≡ vec_len c.args.kept = D.workers ∙ c.in_ok-benches.ensures.count in
    record {
      order = D.pieces;
      each = D.each;
      workers =
          All-weaker
          (IsOf (λ b k. KnowsWay c.args.scan.now.runs b k) c.in_ok-pieces.field-0.owns.items)
          (λ (p : Piece _). p.worker < vec_len c.args.kept)
          (λ p h. let below = h.worker in omega (arith, count, below))
          c.in_ok-pieces.field-0.pieces.items
          D.of;
    }
