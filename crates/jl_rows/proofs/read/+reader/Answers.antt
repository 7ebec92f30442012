use Rattle.std.proofs.Common.{ap, ◌∙◌, ◌-◌, arith, Ok, Result}
use Rattle.std.proofs.lemmas.Result.{err_from_is_err_and}
use Rattle.jl_base.specs.Results.{◌>>=◌}
use Rattle.jl_base.specs.Spans.{text_of}
use Rattle.jl_base.specs.declared.kind.Kind.{Kind}
use Rattle.jl_wire.specs.Seen.{content_seen}
use Rattle.jl_rows.specs.Written.{Term}
use Rattle.jl_rows.specs.Reading.{Part, Parts, content_said, nested}
use Rattle.jl_rows.specs.Seen.{parts_seen}
use Rattle.jl_rows.proofs.Walking.{read_end, read_fault, read_took, read_refused}
use Rattle.jl_rows.proofs.Taking.{took, kept, known_taken}
use Rattle.jl_rows.proofs.Nesting.{not_nested, too_deep, one_deeper, read_anywhere}
use Rattle.jl_rows.proofs.read.+reader.Goals as goal

pub content-returns-in_default : goal.content-returns-in_default
content-returns-in_default t c = record {
  exact = rw (not_nested c.args.bytes.now c.args.depth c.args.shape c.args.value c.in_default.ensures) c.shallow.ensures.exact;
  inside = c.shallow.ensures.inside;
}

pub content-returns-then-depth-eq0-clause-exact : goal.content-returns-then-depth-eq0-clause-exact
content-returns-then-depth-eq0-clause-exact t c = too_deep c.args.bytes.now c.in-Some.span c.args.depth c.args.shape c.args.value c.if-depth-eq0.true c.in-Some.ensures

pub content-returns-in_err-read-clause-exact : goal.content-returns-in_err-read-clause-exact
content-returns-in_err-read-clause-exact t c =
    let p = err_from_is_err_and c.from_residual.result c.from_residual.ensures.1 in
    rw (p.1, p.2) (one_deeper c.args.bytes.now c.in-Some.span c.args.depth c.args.shape c.args.value c.if-depth-eq0.false c.in-Some.ensures
    ∙ ap (λ (r : Result Parts Kind). r >>= λ (ps : Parts). Ok (Part.Said (nested ps))) c.in_err-read.ensures.exact)

pub content-returns-clause-exact : goal.content-returns-clause-exact
content-returns-clause-exact t c =
    let within = c.requires.depth in
    one_deeper c.args.bytes.now c.in-Some.span c.args.depth c.args.shape c.args.value c.if-depth-eq0.false c.in-Some.ensures
    ∙ ap (λ (r : Result Parts Kind). r >>= λ (ps : Parts). Ok (Part.Said (nested ps))) c.in_ok-read.ensures.exact
    ∙ ap (λ (t : Term). Ok (Part.Said t)) (read_anywhere (c.args.depth - 1) (text_of c.args.bytes.now c.in-Some.span) (parts_seen c.args.bytes.now c.in_ok-read.field-0) (omega arith) c.in_ok-read.ensures.exact)

pub take-returns-clause-exact : goal.take-returns-clause-exact
take-returns-clause-exact t c =
    known_taken (content_said c.args.depth) c.in-Some.known _ (content_seen c.args.bytes.now c.args.field.value) (parts_seen c.args.bytes.now c.args.found.now) c.in-Some.ensures.exact
    ∙ took (content_said c.args.depth) c.args.bytes.now c.in-Some.known c.args.field.value c.args.found.now c.in_ok-group.group c.in_ok-part.part (c.in_ok-group.ensures c.args.bytes.now) c.in_ok-part.ensures.exact

pub take-returns-clause-parts : goal.take-returns-clause-parts
take-returns-clause-parts t c =
    let free = c.in_ok-group.ensures c.args.bytes.now in
    let small = c.in-Some.ensures.small in
    kept c.args.bytes.now c.args.found.now c.in_ok-group.group c.in_ok-part.part c.requires.parts (omega (arith, small, free.2)) c.in_ok-part.ensures.inside

pub read-returns-in_err-field-clause-exact : goal.read-returns-in_err-field-clause-exact
read-returns-in_err-field-clause-exact t c =
    let p = err_from_is_err_and c.from_residual.result c.from_residual.ensures.1 in
    rw (p.1, p.2) (c.fields.invariant.rest ∙ read_fault (content_said c.args.depth) c.args.m c.args.bytes.now c.fields.place c.args.end (parts_seen c.args.bytes.now c.fields.found) c.in_err-field.field-0.0 c.requires.inside c.in_err-field.ensures.exact)

pub read-returns-in_err-take-clause-exact : goal.read-returns-in_err-take-clause-exact
read-returns-in_err-take-clause-exact t c =
    let said = rw c.in-Some.is at c.in_ok-field.ensures.exact in
    let within = rw c.in-Some.is at c.in_ok-field.ensures.within in
    let p = err_from_is_err_and c.from_residual-in_err-take.result c.from_residual-in_err-take.ensures.1 in
    rw (p.1, p.2) (c.fields.invariant.rest ∙ read_refused (content_said c.args.depth) c.args.m c.args.bytes.now c.fields.place c.args.end (parts_seen c.args.bytes.now c.fields.found) c.in-Some.field said within c.in_err-take.field-0.0 c.in_err-take.ensures.exact)

pub read-fields-preserved : goal.read-fields-preserved
read-fields-preserved t c =
    let said = rw c.in-Some.is at c.in_ok-field.ensures.exact in
    let within = rw c.in-Some.is at c.in_ok-field.ensures.within in
    record {
      before = within.before;
      after = omega (arith, within.after, c.fields.invariant.after);
      parts = c.in_ok-take.ensures.parts;
      rest = c.fields.invariant.rest ∙ read_took (content_said c.args.depth) c.args.m c.args.bytes.now c.fields.place c.args.end (parts_seen c.args.bytes.now c.fields.found) c.in-Some.field said within (parts_seen c.args.bytes.now c.take.new.found) c.in_ok-take.ensures.exact;
    }

pub read-returns-clause-exact : goal.read-returns-clause-exact
read-returns-clause-exact t c =
    let ended = rw c.in_default.is at c.in_ok-field.ensures.exact in
    c.fields.invariant.rest ∙ read_end (content_said c.args.depth) c.args.m c.args.bytes.now c.fields.place c.args.end (parts_seen c.args.bytes.now c.fields.found) ended
