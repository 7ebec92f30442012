use Rattle.std.proofs.Common.{Ok, Err}
use Rattle.jl_base.proofs.SourceListLemmas.{length-ReadsEach}
use Rattle.jl_top.proofs.Statuses.{exact, complete, sources_steady, shelf_steady}
use Rattle.jl_top.proofs.top.serve.Goals as goal

pub returns-in-Ok-clause-number : goal.returns-in-Ok-clause-number
returns-in-Ok-clause-number g c = (length-ReadsEach _ _ _ _ c.run.ensures.each).0

pub returns-in-Err-clause-number : goal.returns-in-Err-clause-number
returns-in-Err-clause-number g c = (length-ReadsEach _ _ _ _ c.run.ensures.each).0

pub returns-in-Ok-clause-exact : goal.returns-in-Ok-clause-exact
returns-in-Ok-clause-exact g c job files asks left below = exact _ _ _ _ job files asks left _ _ _ _ (Ok tt) c.in-Ok.ensures below

pub returns-in-Ok-clause-complete : goal.returns-in-Ok-clause-complete
returns-in-Ok-clause-complete g c job files asks left none = complete _ _ _ _ job files asks left _ _ _ _ (Ok tt) c.in-Ok.ensures none

pub returns-in-Err-clause-exact : goal.returns-in-Err-clause-exact
returns-in-Err-clause-exact g c job files asks left below =
    rw c.status.ensures (exact _ _ _ _ job files asks left _ _ _ _ (Err c.in-Err.notice) c.in-Err.ensures (rw c.status.ensures at below))

pub returns-in-Err-clause-complete : goal.returns-in-Err-clause-complete
returns-in-Err-clause-complete g c job files asks left none =
    rw c.status.ensures (complete _ _ _ _ job files asks left _ _ _ _ (Err c.in-Err.notice) c.in-Err.ensures none)

pub returns-in-Ok-clause-sources_steady : goal.returns-in-Ok-clause-sources_steady
returns-in-Ok-clause-sources_steady g c other = sources_steady _ _ _ _ _ _ _ _ (Ok tt) c.in-Ok.ensures other

pub returns-in-Ok-clause-shelf_steady : goal.returns-in-Ok-clause-shelf_steady
returns-in-Ok-clause-shelf_steady g c other = shelf_steady _ _ _ _ _ _ _ _ (Ok tt) c.in-Ok.ensures other

pub returns-in-Err-clause-sources_steady : goal.returns-in-Err-clause-sources_steady
returns-in-Err-clause-sources_steady g c other = sources_steady _ _ _ _ _ _ _ _ (Err c.in-Err.notice) c.in-Err.ensures (rw c.status.ensures at other)

pub returns-in-Err-clause-shelf_steady : goal.returns-in-Err-clause-shelf_steady
returns-in-Err-clause-shelf_steady g c other = shelf_steady _ _ _ _ _ _ _ _ (Err c.in-Err.notice) c.in-Err.ensures (rw c.status.ensures at other)
