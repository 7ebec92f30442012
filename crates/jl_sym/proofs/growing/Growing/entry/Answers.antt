use Rattle.std.proofs.Common.{◌≡◌, ◌∙◌, [], ◌∷◌, true, Ok, Err, refl, sym, ap, subst}
use Rattle.std.proofs.lemmas.Result.{err_from_is_err_and}
use Rattle.jl_base.specs.Spans.{text_of}
use Rattle.jl_rows.specs.Decoder.{size_of}
use Rattle.jl_sym_laws.specs.RelativeIds.{Id, following, entry_written}
use Rattle.jl_sym_laws.specs.Summaries.{Need, Summary, entry_in}
use Rattle.jl_sym_laws.specs.SmallSteps.{Small, demand, small_step}
use Rattle.jl_base.specs.declared.kind.Kind.TheVariants.{BadEntry}
use Rattle.jl_sym_laws.specs.Cutting.{IsMade, is_id_in}
use Rattle.jl_sym.specs.declared.relative_id.RelativeId.{RelativeId}
use Rattle.jl_sym.specs.Asking.{Asks, Grows}
use Rattle.jl_sym.specs.Held.{AreTexts}
use Rattle.jl_sym.specs.Checked.{options_of}
use Rattle.jl_sym.specs.Earlier.{earlier_in}
use Rattle.jl_sym.specs.Seen.{id_seen, demands_seen, growing_seen}
use Rattle.jl_sym.proofs.EntryLemmas.{asked_before, entry_grows, entry_stopped, entry_made, entry_marked, entry_done, entry_fit, fit_unwritten, texts_push, last_seen, small_in, small_sizes}
use Rattle.jl_sym.proofs.growing.Growing.entry.Goals as goal

pub returns-in_err-fits-clause-grows : goal.returns-in_err-fits-clause-grows
returns-in_err-fits-clause-grows c =
    let bytes = c.args.here.now.bytes.now in
    let m = growing_seen bytes c.args.self.now in
    let o = options_of c.args.here.now in
    let same : id_seen c.entry-id.result ≡ following (entry_in m c.args.table) (entry_written c.args.written)
    = c.entry-id.ensures ∙ ap (λ (x : RelativeId). following (id_seen x) (entry_written c.args.written)) c.last_entry.ensures ∙ ap (λ (i : Id). following i (entry_written c.args.written)) (last_seen bytes c.args.self.now c.args.table) in
    let asked = c.in_err-fits.ensures.good c.args.marks.now (asked_before bytes c.args.self.now c.args.marks.now c.requires.fit) in
    let q = err_from_is_err_and c.from_residual.result c.from_residual.ensures.1 in
    rw (q.1, q.2)
    (entry_stopped o m c.args.here.now.place.now c.args.table c.args.written (text_of bytes c.args.text) c.requires.fit.made (demands_seen c.fits.new.demands.items) c.in_err-fits.field-0.0 asked.good
    (subst (λ (i : Id). Asks o (earlier_in m) c.args.here.now.place.now m.demands (demand c.args.here.now.place.now BadEntry (Need.Fits c.args.table i) ∷ []) (demands_seen c.fits.new.demands.items) (Err c.in_err-fits.field-0.0)) same c.in_err-fits.ensures.asks))

pub returns-in_err-fits-clause-fit : goal.returns-in_err-fits-clause-fit
returns-in_err-fits-clause-fit c =
    let bytes = c.args.here.now.bytes.now in
    let old = c.args.self.now in
    fit_unwritten bytes old c.args.marks.now c.requires.fit c.fits.new.demands old.writes refl (c.in_err-fits.ensures.good c.args.marks.now (asked_before bytes old c.args.marks.now c.requires.fit))

pub returns-in_err-push-clause-fit : goal.returns-in_err-push-clause-fit
returns-in_err-push-clause-fit c =
    let bytes = c.args.here.now.bytes.now in
    let old = c.args.self.now in
    fit_unwritten bytes old c.args.marks.now c.requires.fit c.fits.new.demands c.push.new.self c.in_err-push.ensures.items (c.in_ok-fits.ensures.good c.args.marks.now (asked_before bytes old c.args.marks.now c.requires.fit))

pub returns-clause-grows : goal.returns-clause-grows
returns-clause-grows c =
    let m = growing_seen c.args.here.now.bytes.now c.args.self.now in
    let o = options_of c.args.here.now in
    let same : id_seen c.entry-id.result ≡ following (entry_in m c.args.table) (entry_written c.args.written)
    = c.entry-id.ensures ∙ ap (λ (x : RelativeId). following (id_seen x) (entry_written c.args.written)) c.last_entry.ensures ∙ ap (λ (i : Id). following i (entry_written c.args.written)) (last_seen c.args.here.now.bytes.now c.args.self.now c.args.table) in
    subst (λ (n : Summary). Grows o c.args.here.now.place.now (small_step (Small.Entry c.args.table c.args.written (text_of c.args.here.now.bytes.now c.args.text))) m n (Ok tt))
    (sym (entry_done c.args.here.now.bytes.now c.args.self.now c.fits.new.demands c.push.new.self c.args.table c.args.written c.args.text c.marked.result c.entry-id.result c.set_entry.new.self c.set_entry.ensures o c.args.here.now.place.now c.requires.fit.made same c.marked.ensures.text c.in_ok-push.ensures.items))
    (entry_grows o m c.args.here.now.place.now c.args.table c.args.written (text_of c.args.here.now.bytes.now c.args.text) c.requires.fit.made (demands_seen c.fits.new.demands.items) (rw same at c.in_ok-fits.ensures.asks))

pub returns-clause-fit : goal.returns-clause-fit
returns-clause-fit c =
    let bytes = c.args.here.now.bytes.now in
    let old = c.args.self.now in
    let m = growing_seen bytes old in
    let o = options_of c.args.here.now in
    let same : id_seen c.entry-id.result ≡ following (entry_in m c.args.table) (entry_written c.args.written)
    = c.entry-id.ensures ∙ ap (λ (x : RelativeId). following (id_seen x) (entry_written c.args.written)) c.last_entry.ensures ∙ ap (λ (i : Id). following i (entry_written c.args.written)) (last_seen bytes old c.args.table) in
    let inside : is_id_in (size_of o c.args.table) (id_seen c.entry-id.result) ≡ true = c.in_ok-fits.ensures.fits in
    let asked = c.in_ok-fits.ensures.good c.args.marks.now (asked_before bytes old c.args.marks.now c.requires.fit) in
    let done = entry_done bytes old c.fits.new.demands c.push.new.self c.args.table c.args.written c.args.text c.marked.result c.entry-id.result c.set_entry.new.self c.set_entry.ensures o c.args.here.now.place.now c.requires.fit.made same c.marked.ensures.text c.in_ok-push.ensures.items in
    entry_fit bytes old c.fits.new.demands c.push.new.self c.args.table c.args.written c.args.text c.marked.result c.entry-id.result c.set_entry.new.self c.set_entry.ensures c.args.marks.now c.mark_entry.new.self
    (small_in (size_of o c.args.table) c.entry-id.result inside (small_sizes bytes c.args.here.now.options.now c.args.table c.requires.here.options)) c.requires.fit
    (entry_marked bytes old c.args.marks.now c.requires.fit c.fits.new.demands c.push.new.self.items c.args.table c.entry-id.result c.marked.result c.mark_entry.new.self c.in_ok-push.ensures.items c.mark_entry.ensures asked)
    (subst (AreTexts bytes) (sym c.in_ok-push.ensures.items) (texts_push bytes old.writes.items _ c.requires.fit.held.writes c.marked.ensures.sound c.marked.ensures.filled))
    (subst IsMade (sym done) (entry_made o m c.args.here.now.place.now c.args.table c.args.written (text_of bytes c.args.text) c.requires.fit.made (demands_seen c.fits.new.demands.items) asked.good))
