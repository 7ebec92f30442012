use Rattle.std.proofs.Common.{◌≡◌, ◌++◌, take, ◌∙◌, ap, arith, append_assoc}
use Rattle.jl_frames.specs.Index.{from}
use Rattle.jl_frames.specs.Feeding.{Feeding}
use Rattle.jl_frames.proofs.FeedLemmas.{from_after, front_one, has_window}
use Rattle.jl_frames.proofs.feed.Feed.window.Goals as goal

pub returns-in-Ok-part : goal.returns-in-Ok-part
returns-in-Ok-part g c =
    let t = c.in-Ok.ensures in
    let feed = c.args.self.now in
    let old = c.args.space.now in
    let all = feed.held ++ t.taken in
    let first = t.cause.0 in
    let here : c.take_in.new.space ≡ old ++ all = first.appended ∙ append_assoc old feed.held t.taken in
    let same : from c.take_in.new.space c.len-start.result ≡ all = from_after old all c.take_in.new.space c.len-start.result c.len-start.ensures here in
    let front : take c.len-start.result c.take_in.new.space ≡ old = ap (λ n. take n c.take_in.new.space) c.len-start.ensures ∙ front_one old all c.take_in.new.space here in
    let p = rw (same, front) at c.in-Ok-part.ensures.ok in
    let window = ap (λ (f : Feeding). f.window) c.self.view_is in
    record {
      taken = t.taken;
      reads = t.reads;
      cause = has_window feed c.part.new.self _ _ _ _ t.taken old _ c.in-Ok-part.window c.in-Ok.at_end (omega (arith, window, c.self.invariant.0)) t.cause.1 first.counted first.steady p.0 p.1;
    }
