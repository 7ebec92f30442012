use Rattle.jl_rows.specs.Seen.{position_seen}
use Rattle.jl_rows.specs.Values.{Position}
use Rattle.jl_sym_laws.specs.Summaries.{Kept}
use Rattle.jl_sym.specs.Checked.{checked, options_of}
use Rattle.jl_sym.specs.Lays.{laid}
use Rattle.jl_sym.specs.Seen.{growing_seen, last_seen, demands_seen, words_seen}
use Rattle.jl_sym.proofs.FitLemmas.{fit_kept, laid_within}
use Rattle.jl_sym.proofs.GrowLemmas.{placed_grows}
use Rattle.jl_sym.proofs.growing.Growing.put_object_later.Goals as goal

pub returns-clause-grows : goal.returns-clause-grows
returns-clause-grows c =
    let here = c.args.here.now in
    let bytes = here.bytes.now in
    let o = options_of here in
    placed_grows o (growing_seen bytes c.args.self.now) here.place.now Position.Object (checked o Position.Object (position_seen bytes c.args.raw.now)) c.requires.fit.made
    (last_seen bytes c.place.new.left) (demands_seen c.place.new.demands.items) (words_seen c.place.new.last) c.place.result c.place.ensures.asks c.place.ensures.ids c.place.ensures.left c.place.ensures.good.good.within

pub returns-clause-fit : goal.returns-clause-fit
returns-clause-fit c =
    let here = c.args.here.now in
    let bytes = here.bytes.now in
    let old = c.args.self.now in
    let before = last_seen bytes old.object in
    let t = checked (options_of here) Position.Object (position_seen bytes c.args.raw.now) in
    fit_kept bytes old c.args.marks.now c.place.new.marks c.requires.fit (Kept.LastAt Position.Object) c.place.new.left c.place.new.demands c.place.new.last c.place.result
    (laid old.rows (words_seen old.ids) t before) (laid_within old.rows (words_seen old.ids) t before c.requires.fit.made.timed.object) c.place.ensures.good c.place.ensures.last c.place.ensures.held c.place.ensures.same c.place.ensures.left
