use Rattle.std.proofs.Common.{ℕ, List, ◌++◌, ap, sym, ◌∙◌, append_assoc}
use Rattle.std.proofs.lemmas.Result.{err_from_is_err_and}
use Rattle.jl_base.proofs.SinkLemmas.{Adds-append}
use Rattle.jl_decode.proofs.PieceGiving.{gives_fails}
use Rattle.jl_decode.specs.Pieces.{lines_of}
use Rattle.jl_lines.specs.Giving.{outlet}
use Rattle.jl_decode.proofs.driven.write_pieces.Goals as goal

pub returns-in_err-write_piece : goal.returns-in_err-write_piece
returns-in_err-write_piece g c =
    let so_far = c.by_piece.invariant in
    let given = so_far.given in
    let lines = c.in-Some.piece.now.made.page.lines in
    let rest = lines_of c.in-Some.rest.now in
    let split = so_far.lines ∙ ap (λ (x : List ℕ). given ++ x) (ap lines_of c.in-Some.ensures.cases.0) in
    let p = err_from_is_err_and c.from_residual.result c.from_residual.ensures.1 in
    rw (p.1, p.2)
    (gives_fails (lines_of c.args.pieces.now) given lines rest (outlet g.K.Sink.held g.K.Sink.faults c.args.out.now) (outlet g.K.Sink.held g.K.Sink.faults c.by_piece.out) (outlet g.K.Sink.held g.K.Sink.faults c.write_piece.new.out)
    c.in_err-write_piece.field-0.0 split so_far.adds so_far.steady c.in_err-write_piece.ensures)

pub by_piece-preserved : goal.by_piece-preserved
by_piece-preserved g c =
    let so_far = c.by_piece.invariant in
    let given = so_far.given in
    let lines = c.in-Some.piece.now.made.page.lines in
    let rest = lines_of c.in-Some.rest.now in
    let gave = c.in_ok-write_piece.ensures in
    record {
      given = given ++ lines;
      adds = Adds-append (g.K.Sink.held c.args.out.now) (g.K.Sink.held c.by_piece.out) (g.K.Sink.held c.write_piece.new.out) given lines so_far.adds gave.0;
      steady = gave.1 ∙ so_far.steady;
      lines = so_far.lines ∙ ap (λ (x : List ℕ). given ++ x) (ap lines_of c.in-Some.ensures.cases.0) ∙ sym (append_assoc given lines rest);
    }
