use Rattle.std.proofs.Common.{◌≡◌, ◌+◌, ◌≤◌, length, slice_range, subst, arith}
use Rattle.jl_nqscan.specs.Stretches.{IsStretch}
use Rattle.jl_nqscan.proofs.Stretching.{rest_length, none_ends}
use Rattle.jl_nqscan.proofs.piece.line_end.Goals as goal

pub returns-in-Some-clause-stretch : goal.returns-in-Some-clause-stretch
returns-in-Some-clause-stretch c =
    let found = c.in-Some.ensures.0 in
    let high = found.high in
    let long = rest_length c.args.bytes.now c.args.from in
    let order = c.requires in
    let inside : c.args.from + c.in-Some.n ≤ length c.args.bytes.now = omega (arith, high, long, order) in
    none_ends c.args.bytes.now c.args.from c.in-Some.n inside found.before

pub returns-in-None-clause-stretch : goal.returns-in-None-clause-stretch
returns-in-None-clause-stretch c =
    let bytes = c.args.bytes.now in
    let rest = length (slice_range bytes c.args.from (length bytes)) in
    let long = rest_length bytes c.args.from in
    let order = c.requires in
    let sum : c.args.from + rest ≡ length bytes = omega (arith, long, order) in
    let inside : c.args.from + rest ≤ length bytes = omega (arith, long, order) in
    subst (IsStretch bytes c.args.from) sum (none_ends bytes c.args.from rest inside c.in-None.ensures)
