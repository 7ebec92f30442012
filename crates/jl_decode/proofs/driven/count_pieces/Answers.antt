use Rattle.std.proofs.Common.{◌≡◌, ap, ◌∙◌, arith}
use Rattle.jl_decode.proofs.PieceGiving.{counts_rise}
use Rattle.jl_decode.specs.Pieces.{both_counted, counts_with}
use Rattle.jl_lines.specs.declared.decoding.Counts.{Counts}
use Rattle.jl_decode.proofs.driven.count_pieces.Goals as goal

pub overflow_add-all : goal.overflow_add-all
overflow_add-all c =
    let rest = c.in-Some.rest.now in
    let next = both_counted c.to_count.all c.in-Some.piece.now.made.counts in
    let whole : counts_with c.args.counts c.args.pieces.now ≡ counts_with next rest = c.to_count.invariant ∙ ap (counts_with c.to_count.all) c.in-Some.ensures.cases.0 in
    let rise = counts_rise rest next in
    let s = ap (λ (x : Counts). x.statements) whole in
    let n = ap (λ (x : Counts). x.namespaces) whole in
    omega (arith, s, n, rise.0, rise.1, c.requires.few)

pub overflow_add-all-in-Some : goal.overflow_add-all-in-Some
overflow_add-all-in-Some c =
    let rest = c.in-Some.rest.now in
    let next = both_counted c.to_count.all c.in-Some.piece.now.made.counts in
    let whole : counts_with c.args.counts c.args.pieces.now ≡ counts_with next rest = c.to_count.invariant ∙ ap (counts_with c.to_count.all) c.in-Some.ensures.cases.0 in
    let rise = counts_rise rest next in
    let s = ap (λ (x : Counts). x.statements) whole in
    let n = ap (λ (x : Counts). x.namespaces) whole in
    omega (arith, s, n, rise.0, rise.1, c.requires.few)
