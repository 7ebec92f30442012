use Rattle.std.proofs.Common.{◌≡◌, ℕ, ◌+◌, length, refl, ◌∙◌, ap, arith}
use Rattle.jl_rows.specs.Files.{ends_at}
use Rattle.jl_frames.specs.Index.{from}
use Rattle.jl_frames.specs.Feeding.{Feeding}
use Rattle.jl_frames.specs.Windows.{kept_if}
use Rattle.jl_frames.proofs.FeedLemmas.{window_small}
use Rattle.jl_frames.proofs.WalkLemmas.{parted, walk_last}
use Rattle.jl_frames.proofs.feed.Feed.part.Goals as goal

-- what is held is no longer than a window, where the window isn't the last one
pub invariant_of-self-2 : goal.invariant_of-self-2
invariant_of-self-2 c = (
  c.self.invariant.0,
  λ none. (
      let walked = rw c.bytes.ensures.all at c.in_ok-walked.ensures in
      let held = rw c.bytes-2.ensures.all at c.in_ok-hold.ensures.ok in
      let w = c.in_ok-walked.walked in
      let all = from c.args.space.now c.args.start in
      let window : c.self.inside.window ≡ c.args.self.now.window = ap (λ (f : Feeding). f.window) c.self.view_is in
      let last = walk_last c.args.space.now c.args.start w.bodies.items w.end w.fault c.args.at_end c.are_last-last.result walked c.are_last-last.ensures in
      let small = window_small c.args.self.now.window all (omega (arith, window, c.self.invariant.0)) c.args.at_end c.are_last-last.result c.requires.whole last none in
      omega (arith, window, small.0, ap length walked.rest, ap length held, c.hold.new.held.ok.0)),
)

pub returns-clause-ok : goal.returns-clause-ok
returns-clause-ok c =
    let walked = rw c.bytes.ensures.all at c.in_ok-walked.ensures in
    let held = rw c.bytes-2.ensures.all at c.in_ok-hold.ensures.ok in
    let w = c.in_ok-walked.walked in
    let given : c.self.inside.given ≡ c.args.self.now.given = ap (λ (f : Feeding). f.given) c.self.view_is in
    let window : c.self.inside.window ≡ c.args.self.now.window = ap (λ (f : Feeding). f.window) c.self.view_is in
    rw c.cut.ensures
    (parted c.args.self.now _ c.args.space.now c.args.start w.bodies.items w.end w.fault c.args.at_end c.are_last-last.result c.of_window-frames.result
    walked c.requires.inside c.are_last-last.ensures c.of_window-frames.ensures.bodies
    (c.of_window-frames.ensures.tail ∙ ap (λ (n : ℕ). ends_at (n + 1 + length w.bodies.items) 0 (kept_if c.are_last-last.result w.fault)) given)
    c.of_window-frames.ensures.lo (c.of_window-frames.ensures.first ∙ ap (λ (n : ℕ). n + 1) given)
    held window (omega (arith, given, c.count.ensures.exact)) refl)
