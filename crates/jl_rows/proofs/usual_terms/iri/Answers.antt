use Rattle.std.proofs.Common.{◌+◌, arith}
use Rattle.jl_rows.proofs.UsualTerms.{iri_said}
use Rattle.jl_rows.proofs.usual_terms.iri.Goals as goal

pub returns : goal.returns
returns c =
    let bytes = c.args.bytes.now in
    let prefix = c.unwrap_or.ensures in
    let name = c.unwrap_or-2.ensures in
    rw (prefix, name) (iri_said bytes c.args.span.at c.in_ok-prefix.place c.in_ok-name.next (c.args.span.at + c.args.span.len) c.in_ok-prefix.prefix c.in_ok-name.name c.in_ok-prefix.ensures c.in_ok-name.ensures (omega (arith, c.behind-end.ensures)) (omega (arith, c.requires)))
