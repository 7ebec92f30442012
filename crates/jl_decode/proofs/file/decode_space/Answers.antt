use Rattle.std.proofs.Common.{ap}
use Rattle.jl_rows.specs.Decoder as decoder
use Rattle.jl_rows.specs.Decoder.{decode}
use Rattle.jl_rows.specs.Heads.{head_seen}
use Rattle.jl_rows.specs.Seen.{options_seen}
use Rattle.jl_lines.specs.Counts.{none_counted}
use Rattle.jl_lines.specs.Going.{Outcome, all_of, at_end}
use Rattle.jl_lines.specs.Giving.{outlet}
use Rattle.jl_lines.specs.Writings.{written}
use Rattle.jl_decode.proofs.Endings.{decode_empty, decode_bad, decode_first, head_under}
use Rattle.jl_lines.proofs.GivingLemmas.{breaks_fault, passes_none}
use Rattle.jl_decode.proofs.file.decode_space.Goals as goal

pub returns-in-Empty : goal.returns-in-Empty
returns-in-Empty g c =
    let bytes = c.args.space.now in
    let head = head_under bytes c.args.strict (head_seen bytes c.head.result) decoder.Nothing c.head.ensures.exact (c.in-Empty.ensures.exact bytes) in
    let said = decode_empty bytes c.args.strict head in
    passes_none (all_of (written c.args.writing) (decode c.args.strict bytes)) (at_end none_counted) (outlet g.K.Sink.held g.K.Sink.faults c.args.out.now)
    (ap (all_of (written c.args.writing)) said)

pub returns-in-Bad : goal.returns-in-Bad
returns-in-Bad g c =
    let bytes = c.args.space.now in
    let head = head_under bytes c.args.strict (head_seen bytes c.head.result) (decoder.Bad c.in-Bad.fault) c.head.ensures.exact (c.in-Bad.ensures.exact bytes) in
    let said = ap (all_of (written c.args.writing)) (decode_bad bytes c.args.strict c.in-Bad.fault head) in
    breaks_fault (all_of (written c.args.writing) (decode c.args.strict bytes)) (outlet g.K.Sink.held g.K.Sink.faults c.args.out.now) c.in-Bad.fault (ap (λ (x : Outcome). x.fault) said) (ap (λ (x : Outcome). x.lines) said)

pub returns-in-First : goal.returns-in-First
returns-in-First g c =
    let bytes = c.args.space.now in
    let o = options_seen bytes c.in-First.options in
    let head = head_under bytes c.args.strict (head_seen bytes c.head.result) (decoder.First o c.in-First.field-1) c.head.ensures.exact (c.in-First.ensures.exact bytes) in
    rw (decode_first bytes c.args.strict o c.in-First.field-1 head) c.decode_under.ensures
