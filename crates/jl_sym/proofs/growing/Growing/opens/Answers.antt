use Rattle.jl_rows.specs.Seen.{position_seen}
use Rattle.jl_rows.specs.Values.{Position}
use Rattle.jl_sym_laws.specs.Summaries.{Kept}
use Rattle.jl_sym.specs.Checked.{checked, options_of}
use Rattle.jl_sym.specs.Seen.{growing_seen, last_seen, demands_seen, words_seen}
use Rattle.jl_sym.specs.Lays.{set_left}
use Rattle.jl_sym.proofs.FitLemmas.{fit_kept, at_most}
use Rattle.jl_sym.proofs.GrowLemmas.{opens_grows}
use Rattle.jl_sym.proofs.growing.Growing.opens.Goals as goal

pub returns-clause-grows : goal.returns-clause-grows
returns-clause-grows c =
    let here = c.args.here.now in
    let bytes = here.bytes.now in
    let o = options_of here in
    opens_grows o (growing_seen bytes c.args.self.now) here.place.now c.requires.fit.made (checked o Position.Graph (position_seen bytes c.args.raw.now))
    (last_seen bytes c.start.new.left) (demands_seen c.start.new.demands.items) (words_seen c.start.new.last) c.start.result c.start.ensures.asks c.start.ensures.ids c.start.ensures.left c.start.ensures.good.good.within

pub returns-clause-fit : goal.returns-clause-fit
returns-clause-fit c =
    let here = c.args.here.now in
    let bytes = here.bytes.now in
    let old = c.args.self.now in
    let t = checked (options_of here) Position.Graph (position_seen bytes c.args.raw.now) in
    fit_kept bytes old c.args.marks.now c.start.new.marks c.requires.fit Kept.OpenGraph c.start.new.left c.start.new.demands c.start.new.last c.start.result
    (set_left old.rows (words_seen old.ids) t) (at_most old.rows) c.start.ensures.good c.start.ensures.last c.start.ensures.held c.start.ensures.same c.start.ensures.left
