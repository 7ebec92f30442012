use Rattle.jl_encode.specs.Lasts.{lasts_of}
use Rattle.jl_encode.proofs.items.put_rows.Goals as goal

pub returns-in-Namespace-clause-puts : goal.returns-in-Namespace-clause-puts
returns-in-Namespace-clause-puts c =
    let name = c.bytes.ensures in
    let iri = c.bytes-in-Namespace.ensures in
    let said = rw (name, iri) at (c.put_namespace.ensures (lasts_of c.args.lasts.now)) in
    let e = c.in-Namespace.is in
    rw e said
