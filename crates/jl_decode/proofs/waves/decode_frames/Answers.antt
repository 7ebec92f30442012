use Rattle.std.proofs.Common.{◌≡◌, [], ◌∙◌, Option, Some, None, sym, ap}
use Rattle.std.proofs.lemmas.Result.{err_from_is_err_and}
use Rattle.jl_base.specs.declared.place.Fault.{Fault}
use Rattle.jl_rows.specs.Files.{all_rows}
use Rattle.jl_lines.specs.declared.giving.Broken.TheVariants as broken
use Rattle.jl_lines.specs.Going.{Outcome, at_end, outcome}
use Rattle.jl_lines.specs.Giving.{outlet}
use Rattle.jl_decode.proofs.Endings.{outcome_none}
use Rattle.jl_lines.proofs.GivingLemmas.{breaks_fault, passes_breaks, passes_on}
use Rattle.jl_frames.proofs.Stretches.{whole_between}
use Rattle.jl_decode.proofs.waves.decode_frames.Goals as goal

pub returns-in_err-all_waves : goal.returns-in_err-all_waves
returns-in_err-all_waves g c =
    let broke = rw (whole_between c.args.file.now.space.now c.args.file.now.frames.now c.requires.indexed) at (c.in_err-all_waves.ensures.comes (record { items = []; fault = c.args.file.now.frames.now.tail })) in
    let p = err_from_is_err_and c.from_residual.result c.from_residual.ensures.1 in
    rw (p.1, p.2) broke

pub returns-in-Some : goal.returns-in-Some
returns-in-Some g c =
    let bytes = c.args.file.now.space.now in
    let rest = outcome bytes c.all_waves.new.decoding (record { items = []; fault = c.args.file.now.frames.now.tail }) in
    let went = rw (whole_between bytes c.args.file.now.frames.now c.requires.indexed) at (c.in_ok-all_waves.ensures.comes (record { items = []; fault = c.args.file.now.frames.now.tail })) in
    let none = outcome_none bytes c.all_waves.new.decoding c.args.file.now.frames.now.tail c.in_ok-all_waves.ensures.empty in
    let tail : c.args.file.now.frames.now.tail ≡ Some c.in-Some.fault = sym c.tail.ensures ∙ c.in-Some.is in
    let k = outlet g.K.Sink.held g.K.Sink.faults c.args.out.now in
    let k' = outlet g.K.Sink.held g.K.Sink.faults c.all_waves.new.out in
    passes_breaks (outcome bytes c.args.decoding.now (all_rows bytes)) rest k k' went k' (broken.Malformed c.in-Some.fault)
    (breaks_fault rest k' c.in-Some.fault (ap (λ (x : Outcome). x.fault) none ∙ tail) (ap (λ (x : Outcome). x.lines) none))

pub returns-in-None : goal.returns-in-None
returns-in-None g c =
    let bytes = c.args.file.now.space.now in
    let rest = outcome bytes c.all_waves.new.decoding (record { items = []; fault = c.args.file.now.frames.now.tail }) in
    let went = rw (whole_between bytes c.args.file.now.frames.now c.requires.indexed) at (c.in_ok-all_waves.ensures.comes (record { items = []; fault = c.args.file.now.frames.now.tail })) in
    let none = outcome_none bytes c.all_waves.new.decoding c.args.file.now.frames.now.tail c.in_ok-all_waves.ensures.empty in
    let tail : c.args.file.now.frames.now.tail ≡ None = sym c.tail.ensures ∙ c.in-None.is in
    let k = outlet g.K.Sink.held g.K.Sink.faults c.args.out.now in
    let k' = outlet g.K.Sink.held g.K.Sink.faults c.all_waves.new.out in
    passes_on (outcome bytes c.args.decoding.now (all_rows bytes)) rest k k' went (at_end c.all_waves.new.decoding.counts)
    (none ∙ ap (λ (f : Option Fault). record { lines = []; counts = c.all_waves.new.decoding.counts; fault = f }) tail)
