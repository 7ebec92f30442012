use Rattle.std.proofs.Common.{◌∙◌, arith}
use Rattle.jl_wire.specs.Seen.{content_seen}
use Rattle.jl_rows.specs.Reading as spec
use Rattle.jl_rows.specs.Seen.{parts_seen}
use Rattle.jl_rows.proofs.Taking.{took, kept, known_taken}
use Rattle.jl_rows.proofs.read.take_plain.Goals as goal

pub returns-clause-exact : goal.returns-clause-exact
returns-clause-exact c =
    known_taken spec.plain c.in-Some.known _ (content_seen c.args.bytes.now c.args.field.value) (parts_seen c.args.bytes.now c.args.found.now) c.in-Some.ensures.exact
    ∙ took spec.plain c.args.bytes.now c.in-Some.known c.args.field.value c.args.found.now c.in_ok-group.group c.in_ok-part.part (c.in_ok-group.ensures c.args.bytes.now) c.in_ok-part.ensures.exact

pub returns-clause-parts : goal.returns-clause-parts
returns-clause-parts c =
    let free = c.in_ok-group.ensures c.args.bytes.now in
    let small = c.in-Some.ensures.small in
    kept c.args.bytes.now c.args.found.now c.in_ok-group.group c.in_ok-part.part c.requires.parts (omega (arith, small, free.2)) c.in_ok-part.ensures.inside
