use Rattle.std.proofs.Common.{arith}
use Rattle.jl_rows.proofs.UsualTerms.{datatype_ending}
use Rattle.jl_rows.proofs.usual_terms.datatype.Goals as goal

pub returns : goal.returns
returns c =
    let number = rw c.in_ok-id-2.was at c.in_ok-id.ensures in
    datatype_ending c.args.bytes.now c.args.at c.in_ok-id.next c.args.end c.in_ok-id-2.id number c.if-next-end.false (omega arith)
