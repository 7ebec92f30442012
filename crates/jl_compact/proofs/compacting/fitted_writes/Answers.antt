use Rattle.std.proofs.Common.{◌≡◌, ◌≤◌, ◌-◌, ◌^◌, List, sym, subst, ap, ◌∙◌, arith}
use Rattle.jl_rows.specs.Seen.{options_seen}
use Rattle.jl_sym_laws.specs.Composing.{AreBefore}
use Rattle.jl_sym_laws.specs.Cutting.{cut_writes}
use Rattle.jl_sym_laws.proofs.Cuts.{cut_is_in}
use Rattle.jl_sym.specs.declared.summary.Write.{Write}
use Rattle.jl_sym.specs.Seen.{summary_seen}
use Rattle.jl_compact.specs.Marks.{AreMarkable, AreUpTo}
use Rattle.jl_compact.specs.Parts.{writes_seen}
use Rattle.jl_compact.proofs.Addresses.{markable}
use Rattle.jl_compact.proofs.Fitting.{up_to_moments, before_top}
use Rattle.jl_compact.proofs.Inside.{cut_before}
use Rattle.jl_compact.proofs.compacting.fitted_writes.Goals as goal

pub needed_writes-requires-clause-room : goal.needed_writes-requires-clause-room
needed_writes-requires-clause-room c =
    let bytes = c.args.bytes.now in
    let o = options_seen bytes c.args.options.now in
    let m = summary_seen bytes c.args.summary.now in
    let is : writes_seen bytes c.deref-2.result.now ≡ cut_writes o m.writes
    = ap (writes_seen bytes) c.deref-2.ensures.value ∙ c.in_ok-writes.ensures.exact ∙ ap (λ (ws : List Write). cut_writes o (writes_seen bytes ws)) c.deref.ensures.value in
    subst (AreMarkable c.room_for-room.result 0) (sym is) (markable o c.room_for-room.result 0 (cut_writes o m.writes) (c.room_for-room.ensures.room bytes) (cut_is_in o m c.requires.made).0)

pub needed_writes-requires-clause-early : goal.needed_writes-requires-clause-early
needed_writes-requires-clause-early c =
    let bytes = c.args.bytes.now in
    let o = options_seen bytes c.args.options.now in
    let m = summary_seen bytes c.args.summary.now in
    let is : writes_seen bytes c.deref-2.result.now ≡ cut_writes o m.writes
    = ap (writes_seen bytes) c.deref-2.ensures.value ∙ c.in_ok-writes.ensures.exact ∙ ap (λ (ws : List Write). cut_writes o (writes_seen bytes ws)) c.deref.ensures.value in
    let few : m.rows ≤ 2 ^ 32 - 1 = (let e = c.rows_of-rows.ensures in let fits = c.rows_of-rows.type_inv in omega (arith, e, fits)) in
    subst (AreBefore (2 ^ 32 - 1)) (sym is) (before_top m.rows (2 ^ 32 - 1) (cut_writes o m.writes) few (cut_before o m.rows m.writes c.requires.made.timed.writes))

pub needed_writes-requires-clause-moments : goal.needed_writes-requires-clause-moments
needed_writes-requires-clause-moments c =
    let m = summary_seen c.args.bytes.now c.args.summary.now in
    let few : m.rows ≤ 2 ^ 32 - 1 = (let e = c.rows_of-rows.ensures in let fits = c.rows_of-rows.type_inv in omega (arith, e, fits)) in
    subst (AreUpTo (2 ^ 32 - 1)) (sym (c.deref-3.ensures.value ∙ c.in_ok-moments.ensures c.args.bytes.now)) (up_to_moments (2 ^ 32 - 1) m few c.requires.made.timed)
