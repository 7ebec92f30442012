use Rattle.std.proofs.Common.{◌≡◌, ℕ, ◌+◌, ◌-◌, ◌<◌, ◌≤◌, ◌^◌, List, [], ◌∷◌, ◌++◌, All, Ok, Err, refl, sym, subst, ◌∙◌, arith}
use Rattle.jl_scan.specs.Blocks.{Block, edge}
use Rattle.jl_scan.specs.Walk.{walk}
use Rattle.jl_scan.specs.Costs.{cost_of, through}
use Rattle.jl_scan.specs.Fields.{IsField, after, frames_of, seen}
use Rattle.jl_scan.specs.Reaching.{block_of, IsFaulty, IsKnown, is_at_hand}
use Rattle.jl_scan.proofs.AskedLemmas.{cost_is_within}
use Rattle.jl_scan.proofs.BlockLemmas.{edge_rises}
use Rattle.jl_scan.proofs.CostLemmas.{cost_weight}
use Rattle.jl_scan.proofs.FieldLemmas.{field_is, goes, starts, stops}
use Rattle.jl_scan.proofs.KnownLemmas.{later}
use Rattle.jl_scan.proofs.ReachLemmas.{room_over, room_after, split_step, done_step, done_all, known_more, ticks_step}
use Rattle.jl_scan.proofs.scan.Scan.reach.Goals as goal

pub by_block-init : goal.by_block-init
by_block-init g c =
    let le : c.args.from ≤ c.args.from = omega arith in
    record {
      first = le;
      order = c.requires.order;
      cells = c.requires.cells;
      kept = λ i x h. h;
      state = c.requires.state;
      leads = starts g.F.Scanned.field c.args.from (seen g.F.Scanned.field c.args.state.now);
      done = ([], refl, λ k d less. absurd (omega (arith, less)));
      ticks = omega arith;
      room = c.requires.room;
    }

pub over-requires-clause-room : goal.over-requires-clause-room
over-requires-clause-room g c =
    let I = c.by_block.invariant in
    let at = c.block_at-at.result in
    room_over (frames_of g.F.Scanned.field) at.level at.k c.by_block.a c.args.to c.by_block.steps (2 ^ 63) c.block_at-at.ensures.begin c.block_at-at.ensures.within I.room

pub returns-in_err-fault-clause-ticks : goal.returns-in_err-fault-clause-ticks
returns-in_err-fault-clause-ticks g c =
    let frames = frames_of g.F.Scanned.field in
    let n = c.args.self.now.runs in
    let I = c.by_block.invariant in
    let at = c.block_at-at.result in
    let is = c.block_at-at.ensures.is c.args.to (omega arith) in
    let has = is_at_hand n c.args.pass.now.known in
    let has' = is_at_hand n c.by_block.pass.known in
    let more = later c.args.pass.now.known c.by_block.pass.known I.kept n in
    let step = ticks_step frames has has' more c.by_block.a c.args.to (block_of at) c.by_block.steps c.over.new.steps (c.args.steps.now + cost_of has frames (walk c.args.from c.args.to)) is c.by_block-test.true c.over.ensures.ticks I.ticks in
    omega (arith, step)

pub returns-in_err-fault-clause-within : goal.returns-in_err-fault-clause-within
returns-in_err-fault-clause-within g c =
    let frames = frames_of g.F.Scanned.field in
    let has = is_at_hand c.args.self.now.runs c.args.pass.now.known in
    let ticks = returns-in_err-fault-clause-ticks g c in
    let most = cost_is_within has frames c.args.from c.args.to c.requires.order in
    omega (arith, ticks, most)

pub returns-in-Some-clause-reaches : goal.returns-in-Some-clause-reaches
returns-in-Some-clause-reaches g c =
    let w = g.F.Scanned.field in
    let field = subst IsField (sym c.args.self.now.field) (field_is c.args.self.now.file c.args.self.now.lo c.requires.file) in
    let n = c.args.self.now.runs in
    let I = c.by_block.invariant in
    let at = c.block_at-at.result in
    let begin = c.block_at-at.ensures.begin in
    let within = c.block_at-at.ensures.within in
    let is = c.block_at-at.ensures.is c.args.to (omega arith) in
    let s = seen w c.args.state.now in
    let came = subst (λ (x : ℕ). after w c.args.from x s ≡ Ok (seen w c.by_block.state)) (sym begin) I.leads in
    let said = rw c.in-Some.is at c.in_ok-fault.ensures.leads in
    let first = I.first in
    let rises = edge_rises at.level at.k in
    let err = goes w field c.args.from (edge at.level at.k) (edge at.level (at.k + 1)) s (seen w c.by_block.state) (Err c.in-Some.fault) (omega (arith, first, begin)) (omega (arith, rises)) came said in
    let stop = stops w field c.args.from (edge at.level (at.k + 1)) c.args.to s c.in-Some.fault (omega (arith, first, begin, rises)) (omega (arith, within)) err in
    let faulty : IsFaulty w n c.over.new.pass.known c.args.from c.args.to s c.in-Some.fault = record {
      done = I.done.0;
      last = block_of at;
      rest = walk (edge at.level (at.k + 1)) c.args.to;
      mid = seen w c.by_block.state;
      is_walk = split_step I.done.0 (walk c.args.from c.args.to) c.by_block.a c.args.to (block_of at) is c.by_block-test.true I.done.1;
      is_known = known_more n c.by_block.pass.known c.over.new.pass.known c.over.ensures.kept I.done.0 (block_of at) I.done.2 c.in_ok-fault.ensures.known;
      before_it = came;
      in_it = said;
    } in
    (stop, faulty)

pub returns-in-Some-clause-ticks : goal.returns-in-Some-clause-ticks
returns-in-Some-clause-ticks g c =
    let frames = frames_of g.F.Scanned.field in
    let n = c.args.self.now.runs in
    let I = c.by_block.invariant in
    let at = c.block_at-at.result in
    let is = c.block_at-at.ensures.is c.args.to (omega arith) in
    let has = is_at_hand n c.args.pass.now.known in
    let has' = is_at_hand n c.by_block.pass.known in
    let more = later c.args.pass.now.known c.by_block.pass.known I.kept n in
    let step = ticks_step frames has has' more c.by_block.a c.args.to (block_of at) c.by_block.steps c.over.new.steps (c.args.steps.now + cost_of has frames (walk c.args.from c.args.to)) is c.by_block-test.true c.over.ensures.ticks I.ticks in
    omega (arith, step)

pub returns-in-Some-clause-within : goal.returns-in-Some-clause-within
returns-in-Some-clause-within g c =
    let frames = frames_of g.F.Scanned.field in
    let has = is_at_hand c.args.self.now.runs c.args.pass.now.known in
    let ticks = returns-in-Some-clause-ticks g c in
    let most = cost_is_within has frames c.args.from c.args.to c.requires.order in
    omega (arith, ticks, most)

pub by_block-smaller : goal.by_block-smaller
by_block-smaller g c =
    let at = c.block_at-at.result in
    let begin = c.block_at-at.ensures.begin in
    let within = c.block_at-at.ensures.within in
    let end = c.edge_after-a.ensures in
    let goes : c.args.to - c.edge_after-a.result < c.args.to - c.by_block.a = omega (arith, begin, within, end, c.by_block-test.true, edge_rises at.level at.k) in
    goes

pub by_block-preserved : goal.by_block-preserved
by_block-preserved g c =
    let w = g.F.Scanned.field in
    let field = subst IsField (sym c.args.self.now.field) (field_is c.args.self.now.file c.args.self.now.lo c.requires.file) in
    let frames = frames_of w in
    let n = c.args.self.now.runs in
    let I = c.by_block.invariant in
    let at = c.block_at-at.result in
    let begin = c.block_at-at.ensures.begin in
    let within = c.block_at-at.ensures.within in
    let is = c.block_at-at.ensures.is c.args.to (omega arith) in
    let s = seen w c.args.state.now in
    let came = subst (λ (x : ℕ). after w c.args.from x s ≡ Ok (seen w c.by_block.state)) (sym begin) I.leads in
    let end = c.edge_after-a.ensures in
    let said = rw c.in_default.is at c.in_ok-fault.ensures.leads in
    let order = I.first in
    let rises = edge_rises at.level at.k in
    let on = goes w field c.args.from (edge at.level at.k) (edge at.level (at.k + 1)) s (seen w c.by_block.state) (Ok (seen w c.over.new.state)) (omega (arith, order, begin)) (omega (arith, rises)) came said.1 in
    let has = is_at_hand n c.args.pass.now.known in
    let has' = is_at_hand n c.by_block.pass.known in
    let more = later c.args.pass.now.known c.by_block.pass.known I.kept n in
    let t = c.args.steps.now + cost_of has frames (walk c.args.from c.args.to) in
    let step = ticks_step frames has has' more c.by_block.a c.args.to (block_of at) c.by_block.steps c.over.new.steps t is c.by_block-test.true c.over.ensures.ticks I.ticks in
    let room = room_after frames at.level at.k c.by_block.a c.args.to c.by_block.steps c.over.new.steps _ (2 ^ 63) begin I.room c.over.ensures.ticks (cost_weight frames has' at.level at.k) in
    record {
      first = omega (arith, begin, end, order, rises);
      order = omega (arith, within, end);
      cells = c.over.ensures.cells ∙ I.cells;
      kept = λ i x h. c.over.ensures.kept i x (I.kept i x h);
      state = said.0;
      leads = subst (λ (x : ℕ). after w c.args.from x s ≡ Ok (seen w c.over.new.state)) (sym end) on;
      done = (
        I.done.0 ++ block_of at ∷ [],
        subst (λ (x : ℕ). (I.done.0 ++ block_of at ∷ []) ++ walk x c.args.to ≡ walk c.args.from c.args.to) (sym end) (done_step I.done.0 (walk c.args.from c.args.to) c.by_block.a c.args.to (block_of at) is c.by_block-test.true I.done.1),
        known_more n c.by_block.pass.known c.over.new.pass.known c.over.ensures.kept I.done.0 (block_of at) I.done.2 c.in_ok-fault.ensures.known,
      );
      ticks = subst (λ (x : ℕ). c.over.new.steps + cost_of has frames (walk x c.args.to) ≤ t) (sym end) step;
      room = subst (λ (x : ℕ). c.over.new.steps + through frames c.args.to ≤ 2 ^ 63 + through frames x) (sym end) room;
    }

pub returns-clause-reaches : goal.returns-clause-reaches
returns-clause-reaches g c =
    let w = g.F.Scanned.field in
    let I = c.by_block.invariant in
    let order = I.order in
    let past = c.by_block-test.false in
    let all : c.by_block.a ≡ c.args.to = omega (arith, order, past) in (
      I.state,
      subst (λ (x : ℕ). after w c.args.from x (seen w c.args.state.now) ≡ Ok (seen w c.by_block.state)) all I.leads,
      subst (λ (bs : List Block). All (IsKnown c.args.self.now.runs c.by_block.pass.known) bs) (done_all I.done.0 (walk c.args.from c.args.to) c.by_block.a c.args.to past I.done.1) I.done.2,
    )

pub returns-clause-within : goal.returns-clause-within
returns-clause-within g c =
    let frames = frames_of g.F.Scanned.field in
    let has = is_at_hand c.args.self.now.runs c.args.pass.now.known in
    let ticks = c.by_block.invariant.ticks in
    let most = cost_is_within has frames c.args.from c.args.to c.requires.order in
    omega (arith, ticks, most)
