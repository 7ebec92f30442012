use Rattle.std.proofs.Common.{◌≡◌, ℕ, ◌+◌, ◌-◌, ◌<◌, ◌≤◌, ◌^◌, List, [], ◌∷◌, ◌++◌, All, refl, sym, subst, ◌∙◌, arith}
use Rattle.jl_scan.specs.Blocks.{Block}
use Rattle.jl_scan.specs.Walk.{walk}
use Rattle.jl_scan.specs.Costs.{cost_of, through}
use Rattle.jl_scan.specs.Fields.{frames_of}
use Rattle.jl_scan.specs.Reaching.{block_of, IsKnown, is_at_hand}
use Rattle.jl_scan.proofs.AskedLemmas.{cost_is_within}
use Rattle.jl_scan.proofs.BlockLemmas.{edge_rises}
use Rattle.jl_scan.proofs.CostLemmas.{cost_weight}
use Rattle.jl_scan.proofs.KnownLemmas.{later}
use Rattle.jl_scan.proofs.ReachLemmas.{room_over, room_after, done_step, done_all, known_more, ticks_step}
use Rattle.jl_scan.proofs.reaching.know_walk.Goals as goal

pub by_block-init : goal.by_block-init
by_block-init g c =
    record {
      order = c.requires.order;
      cells = c.requires.cells;
      kept = λ i x h. h;
      done = ([], refl, λ k d less. absurd (omega (arith, less)));
      ticks = omega arith;
      room = c.requires.room;
    }

pub know_block-requires-clause-room : goal.know_block-requires-clause-room
know_block-requires-clause-room g c =
    let I = c.by_block.invariant in
    let at = c.block_at-at.result in
    room_over (frames_of g.F.Scanned.field) at.level at.k c.by_block.a c.args.to c.by_block.steps (2 ^ 63) c.block_at-at.ensures.begin c.block_at-at.ensures.within I.room

pub returns-in_err-know_block-clause-ticks : goal.returns-in_err-know_block-clause-ticks
returns-in_err-know_block-clause-ticks g c =
    let frames = frames_of g.F.Scanned.field in
    let n = c.args.scan.now.runs in
    let I = c.by_block.invariant in
    let at = c.block_at-at.result in
    let is = c.block_at-at.ensures.is c.args.to (omega arith) in
    let has = is_at_hand n c.args.pass.now.known in
    let has' = is_at_hand n c.by_block.pass.known in
    let more = later c.args.pass.now.known c.by_block.pass.known I.kept n in
    let step = ticks_step frames has has' more c.by_block.a c.args.to (block_of at) c.by_block.steps c.know_block.new.steps (c.args.steps.now + cost_of has frames (walk c.args.from c.args.to)) is c.by_block-test.true c.know_block.ensures.ticks I.ticks in
    omega (arith, step)

pub returns-in_err-know_block-clause-within : goal.returns-in_err-know_block-clause-within
returns-in_err-know_block-clause-within g c =
    let frames = frames_of g.F.Scanned.field in
    let has = is_at_hand c.args.scan.now.runs c.args.pass.now.known in
    let ticks = returns-in_err-know_block-clause-ticks g c in
    let most = cost_is_within has frames c.args.from c.args.to c.requires.order in
    omega (arith, ticks, most)

pub by_block-smaller : goal.by_block-smaller
by_block-smaller g c =
    let at = c.block_at-at.result in
    let begin = c.block_at-at.ensures.begin in
    let within = c.block_at-at.ensures.within in
    let end = c.edge_after-a.ensures in
    let goes : c.args.to - c.edge_after-a.result < c.args.to - c.by_block.a = omega (arith, begin, within, end, c.by_block-test.true, edge_rises at.level at.k) in
    goes

pub by_block-preserved : goal.by_block-preserved
by_block-preserved g c =
    let frames = frames_of g.F.Scanned.field in
    let n = c.args.scan.now.runs in
    let I = c.by_block.invariant in
    let at = c.block_at-at.result in
    let begin = c.block_at-at.ensures.begin in
    let within = c.block_at-at.ensures.within in
    let is = c.block_at-at.ensures.is c.args.to (omega arith) in
    let end = c.edge_after-a.ensures in
    let has = is_at_hand n c.args.pass.now.known in
    let has' = is_at_hand n c.by_block.pass.known in
    let more = later c.args.pass.now.known c.by_block.pass.known I.kept n in
    let t = c.args.steps.now + cost_of has frames (walk c.args.from c.args.to) in
    let step = ticks_step frames has has' more c.by_block.a c.args.to (block_of at) c.by_block.steps c.know_block.new.steps t is c.by_block-test.true c.know_block.ensures.ticks I.ticks in
    let room = room_after frames at.level at.k c.by_block.a c.args.to c.by_block.steps c.know_block.new.steps _ (2 ^ 63) begin I.room c.know_block.ensures.ticks (cost_weight frames has' at.level at.k) in
    record {
      order = omega (arith, within, end);
      cells = c.know_block.ensures.cells ∙ I.cells;
      kept = λ i x h. c.know_block.ensures.kept i x (I.kept i x h);
      done = (
        I.done.0 ++ block_of at ∷ [],
        subst (λ (x : ℕ). (I.done.0 ++ block_of at ∷ []) ++ walk x c.args.to ≡ walk c.args.from c.args.to) (sym end) (done_step I.done.0 (walk c.args.from c.args.to) c.by_block.a c.args.to (block_of at) is c.by_block-test.true I.done.1),
        known_more n c.by_block.pass.known c.know_block.new.pass.known c.know_block.ensures.kept I.done.0 (block_of at) I.done.2 c.in_ok-know_block.ensures.known,
      );
      ticks = subst (λ (x : ℕ). c.know_block.new.steps + cost_of has frames (walk x c.args.to) ≤ t) (sym end) step;
      room = subst (λ (x : ℕ). c.know_block.new.steps + through frames c.args.to ≤ 2 ^ 63 + through frames x) (sym end) room;
    }

pub returns-clause-known : goal.returns-clause-known
returns-clause-known g c =
    let I = c.by_block.invariant in
    subst (λ (bs : List Block). All (IsKnown c.args.scan.now.runs c.by_block.pass.known) bs) (done_all I.done.0 (walk c.args.from c.args.to) c.by_block.a c.args.to c.by_block-test.false I.done.1) I.done.2

pub returns-clause-within : goal.returns-clause-within
returns-clause-within g c =
    let frames = frames_of g.F.Scanned.field in
    let has = is_at_hand c.args.scan.now.runs c.args.pass.now.known in
    let ticks = c.by_block.invariant.ticks in
    let most = cost_is_within has frames c.args.from c.args.to c.requires.order in
    omega (arith, ticks, most)
