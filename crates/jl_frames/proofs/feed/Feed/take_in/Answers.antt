use Rattle.std.proofs.Common.{◌≡◌, ◌++◌, length, ◌∙◌, ap, arith, append_assoc, List, ℕ}
use Rattle.jl_frames.specs.Index.{from}
use Rattle.jl_frames.specs.Feeding.{Feeding}
use Rattle.jl_frames.specs.Windows.{first_size}
use Rattle.jl_frames.proofs.FeedLemmas.{took_more, from_after}
use Rattle.jl_frames.proofs.feed.Feed.take_in.Goals as goal

pub returns : goal.returns
returns g c =
    let t = c.in_ok-take_to.ensures in
    let feed = c.args.self.now in
    let old = c.args.space.now in
    let cause = rw c.if-branch.false at t.cause in
    let first = cause.0 in
    let put : c.append.new.self ≡ old ++ feed.held = c.in-Ok.ensures.ok ∙ ap (λ (x : List ℕ). old ++ x) c.deref.ensures.value ∙ ap (λ (f : Feeding). old ++ f.held) c.self.view_is in
    let here : c.take_to.new.space ≡ old ++ (feed.held ++ t.taken) = first.appended ∙ ap (λ (x : List ℕ). x ++ t.taken) put ∙ append_assoc old feed.held t.taken in
    let size : c.first_size.result ≡ first_size (feed.held ++ t.taken) = c.first_size.ensures ∙ ap (λ (x : List ℕ). first_size (from x c.len-start.result)) c.bytes.ensures.all ∙ ap first_size (from_after old (feed.held ++ t.taken) c.take_to.new.space c.len-start.result c.len-start.ensures here) in
    let window : c.self.inside.window ≡ feed.window = ap (λ (f : Feeding). f.window) c.self.view_is in
    let held : length c.self.inside.held.items ≡ length feed.held = ap (λ (f : Feeding). length f.held) c.self.view_is in
    let small = c.self.invariant.1 (ap (λ (f : Feeding). f.ended) c.self.view_is ∙ c.requires.going) in
    took_more feed _ _ _ _ c.take_to.new.left _ old c.append.new.self c.take_to.new.space _ t.taken c.in-Some-checked_add.end put
    (omega (arith, window, c.self.invariant.0)) (omega (arith, window, held, small, c.self.inside.held.ok.0)) t.reads first
    (omega (arith, cause.1, c.in-Some.ensures.1, c.len-start.ensures, window))
    (omega (arith, c.in-Some-checked_add.ensures.1, c.len-start.ensures, size))
    c.take_to-2.result c.take_to-2.ensures
