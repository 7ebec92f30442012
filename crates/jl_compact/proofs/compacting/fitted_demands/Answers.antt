use Rattle.std.proofs.Common.{◌≡◌, ◌*◌, ◌+◌, List, sym, subst, ap, ◌∙◌}
use Rattle.jl_rows.specs.Seen.{options_seen}
use Rattle.jl_sym_laws.specs.Cutting.{cut_demands}
use Rattle.jl_sym_laws.proofs.Cuts.{cut_is_in}
use Rattle.jl_sym.specs.declared.demand.Demand as code
use Rattle.jl_sym.specs.Seen.{demands_seen, summary_seen}
use Rattle.jl_compact.specs.Marks.{AreAskable}
use Rattle.jl_compact.proofs.Needs.{askable}
use Rattle.jl_compact.proofs.compacting.fitted_demands.Goals as goal

pub first_demands-requires : goal.first_demands-requires
first_demands-requires c =
    let bytes = c.args.bytes.now in
    let o = options_seen bytes c.args.options.now in
    let m = summary_seen bytes c.args.summary.now in
    let is : demands_seen c.deref-2.result.now ≡ cut_demands o m.demands
    = ap demands_seen c.deref-2.ensures.value ∙ c.in_ok-demands.ensures bytes ∙ ap (λ (ds : List code.Demand). cut_demands o (demands_seen ds)) c.deref.ensures.value in
    record { room = subst (AreAskable (12 + 2 * c.room_for-room.result) 0) (sym is) (askable o c.room_for-room.result 0 (cut_demands o m.demands) (c.room_for-room.ensures.room bytes) (cut_is_in o m c.requires.made).1) }
