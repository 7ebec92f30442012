use Rattle.std.proofs.Common.{arith}
use Rattle.jl_rows.proofs.UsualTerms.{tag_ending}
use Rattle.jl_rows.proofs.usual_terms.tag.Goals as goal

pub returns : goal.returns
returns c =
    let utf8 = c.if-not-is_text.ensures in
    tag_ending c.args.bytes.now c.args.at c.args.end c.in_ok-tag.tag c.in_ok-tag.ensures c.requires.tag (omega (arith, c.behind.ensures)) (omega arith) utf8
