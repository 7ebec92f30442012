use Rattle.std.proofs.Common.{◌≡◌, ◌+◌, ◌<◌, ◌++◌, length, take, refl, ◌∙◌, ap, arith, length-append, length-take-le, List, ℕ}
use Rattle.jl_base.proofs.SourceLemmas.{Reads-append}
use Rattle.jl_frames.proofs.FeedLemmas.{front_kept}
use Rattle.jl_frames.proofs.feed.take_to.Goals as goal

-- one byte more was read than might be
pub returns-then-got-left : goal.returns-then-got-left
returns-then-got-left g c =
    let sofar = c.reads.invariant in
    let r = c.in_ok-got.ensures in
    let old = c.args.space.now in
    let all = sofar.taken ++ r.bytes in
    let size : length all ≡ c.args.left.now + 1 = omega (arith, length-append sofar.taken r.bytes, r.count, r.few, c.ask-most.ensures.left, c.if-got-left.true, sofar.counted) in
    let here : length c.reads.space ≡ length old + length sofar.taken = ap length sofar.appended ∙ length-append old sofar.taken in
    let counts : length (take c.args.left.now all) ≡ c.args.left.now = length-take-le c.args.left.now all (omega (arith, size)) in
    let few : length old + length (take c.args.left.now all) < c.args.end =
    omega (arith, counts, size, here, length-append sofar.taken r.bytes, r.few, c.ask-most.ensures.missing, c.len-in-reads.ensures, c.len.ensures, c.reads-test.true) in
    record {
      taken = all;
      reads = Reads-append _ _ _ _ _ sofar.reads r.reads;
      cause = (front_kept old sofar.taken r.bytes _ (r.appended ∙ ap (λ (x : List ℕ). x ++ r.bytes) sofar.appended), (refl, size, r.steady ∙ sofar.steady, few));
    }
