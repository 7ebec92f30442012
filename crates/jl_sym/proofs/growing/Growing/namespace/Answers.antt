use Rattle.std.proofs.Common.{◌≡◌, false, Ok, Err, Option, Some, sym, subst}
use Rattle.std.specs.Option.{option_map}
use Rattle.std.proofs.lemmas.Bool.{ne_eqb}
use Rattle.std.proofs.lemmas.Result.{err_from_is_err_and}
use Rattle.jl_rows.specs.declared.row.RawIri.{RawIri}
use Rattle.jl_rows.specs.Written.{Row}
use Rattle.jl_rows.specs.Seen.{ids_seen}
use Rattle.jl_state.specs.Steps.{step}
use Rattle.jl_sym_laws.specs.SmallSteps.{Small, small_step}
use Rattle.jl_state.specs.Running.{state_of}
use Rattle.jl_sym.specs.Asking.{Grows}
use Rattle.jl_sym.specs.Checked.{options_of}
use Rattle.jl_sym.specs.RowSteps.{last_step, namespace_on}
use Rattle.jl_sym.specs.Seen.{growing_seen}
use Rattle.jl_sym.proofs.GrowLemmas.{grows_then, grows_stopped, grows_ext}
use Rattle.jl_sym.proofs.RowSteps.{is_early, late_version, late_profile, namespace_is}
use Rattle.jl_sym.proofs.growing.Growing.namespace.Goals.{else-here-via-then-here+else-here-eq1, else-here-via-else-here}
use Rattle.jl_sym.proofs.growing.Growing.namespace.Goals as goal

pub returns-in_err-reads-clause-grows : goal.returns-in_err-reads-clause-grows
returns-in_err-reads-clause-grows c name =
    let here = c.args.here.now in
    let o = options_of here in
    let i = ids_seen c.in-Some.iri in
    let late : is_early o ≡ false = elim c.else-here.branch [
      | else-here-via-then-here+else-here-eq1 w ↦ late_version o (ne_eqb here.options.now.version 1 w.if-here-eq1.false)
      | else-here-via-else-here w ↦ late_profile o w.if-here.false
    ] in
    let q = err_from_is_err_and c.from_residual.result c.from_residual.ensures.1 in
    let stop = c.in_err-reads.field-0.0 in
    let m0 = growing_seen here.bytes.now c.args.self.now in
    let m1 = growing_seen here.bytes.now c.reads.new.self in
    rw (q.1, q.2)
    (subst (λ (x : Option RawIri). Grows o here.place.now (λ s. state_of (step o (Row.Namespace name (option_map ids_seen x)) s)) m0 m1 (Err stop)) (sym c.in-Some.is)
    (grows_ext o here.place.now (namespace_on i) (λ s. state_of (step o (Row.Namespace name (Some i)) s)) m0 m1 (Err stop) (namespace_is o name i late)
    (grows_stopped o here.place.now (small_step (Small.Reads i)) last_step m0 m1 stop c.in_err-reads.ensures.grows)))

pub returns-clause-grows : goal.returns-clause-grows
returns-clause-grows c name =
    let here = c.args.here.now in
    let o = options_of here in
    let i = ids_seen c.in-Some.iri in
    let late : is_early o ≡ false = elim c.else-here.branch [
      | else-here-via-then-here+else-here-eq1 w ↦ late_version o (ne_eqb here.options.now.version 1 w.if-here-eq1.false)
      | else-here-via-else-here w ↦ late_profile o w.if-here.false
    ] in
    let m0 = growing_seen here.bytes.now c.args.self.now in
    let m1 = growing_seen here.bytes.now c.reads.new.self in
    let m2 = growing_seen here.bytes.now c.end_row.new.self in
    subst (λ (x : Option RawIri). Grows o here.place.now (λ s. state_of (step o (Row.Namespace name (option_map ids_seen x)) s)) m0 m2 (Ok tt)) (sym c.in-Some.is)
    (grows_ext o here.place.now (namespace_on i) (λ s. state_of (step o (Row.Namespace name (Some i)) s)) m0 m2 (Ok tt) (namespace_is o name i late)
    (grows_then o here.place.now (small_step (Small.Reads i)) last_step m0 m1 m2 (Ok tt) c.in_ok-reads.ensures.grows c.end_row.ensures.grows))
