use Rattle.std.proofs.Common.{◌≡◌, ℕ, ◌+◌, ◌-◌, ◌*◌, ◌<◌, ◌≤◌, ◌^◌, ap, sym, subst, ◌∙◌, rules, arith}
use Rattle.jl_scan.specs.Blocks.{cell_of, edge}
use Rattle.jl_scan.specs.Costs.{cost, weight}
use Rattle.jl_scan.specs.Fields.{frames_of}
use Rattle.jl_scan.specs.Reaching.{is_at_hand}
use Rattle.jl_scan.proofs.CostLemmas.{ticks_left, ticks_both, room_right}
use Rattle.jl_scan.proofs.KnownLemmas.{both_are, later, some_kept}
use Rattle.jl_scan.proofs.block.+block.Goals as goal

pub returns-in_err-left-clause-ticks : goal.returns-in_err-left-clause-ticks
returns-in_err-left-clause-ticks g t c =
    let frames = frames_of g.F.Scanned.field in
    let n = c.args.scan.now.runs in
    let has = is_at_hand n c.args.pass.now.known in
    let has' = is_at_hand n c.at_hand.new.pass.known in
    let more = later c.args.pass.now.known c.at_hand.new.pass.known c.at_hand.ensures.kept n in
    let first : c.halves-first.result.0 ≡ 2 * c.args.k = ap (λ (p : ℕ × ℕ). p.0) c.halves-first.ensures.is in
    let second : c.halves-first.result.1 ≡ 2 * c.args.k + 1 = ap (λ (p : ℕ × ℕ). p.1) c.halves-first.ensures.is in
    let some : 0 < c.args.level = omega (arith, c.if-level-eq0.false) in
    let ticks1 = subst (λ (j : ℕ). c.block.new.steps ≤ c.args.steps.now + cost has' frames (c.args.level - 1) j) first c.block.ensures.ticks in
    ticks_left frames has has' more c.args.level c.args.k c.args.steps.now c.block.new.steps some c.in_default.ensures.found ticks1

pub block-requires-2 : goal.block-requires-2
block-requires-2 g t c =
    let frames = frames_of g.F.Scanned.field in
    let n = c.args.scan.now.runs in
    let has = is_at_hand n c.args.pass.now.known in
    let has' = is_at_hand n c.at_hand.new.pass.known in
    let more = later c.args.pass.now.known c.at_hand.new.pass.known c.at_hand.ensures.kept n in
    let first : c.halves-first.result.0 ≡ 2 * c.args.k = ap (λ (p : ℕ × ℕ). p.0) c.halves-first.ensures.is in
    let second : c.halves-first.result.1 ≡ 2 * c.args.k + 1 = ap (λ (p : ℕ × ℕ). p.1) c.halves-first.ensures.is in
    let some : 0 < c.args.level = omega (arith, c.if-level-eq0.false) in
    let ticks1 = subst (λ (j : ℕ). c.block.new.steps ≤ c.args.steps.now + cost has' frames (c.args.level - 1) j) first c.block.ensures.ticks in
    let cells = c.block.ensures.cells ∙ (c.at_hand.ensures.cells ∙ c.requires.cells) in
    let within = subst (λ (j : ℕ). edge (c.args.level - 1) (j + 1) ≤ n) (sym second) c.halves-first.ensures.second in
    let room = subst (λ (j : ℕ). c.block.new.steps + weight frames (c.args.level - 1) j ≤ 2 ^ 63) (sym second) (room_right frames has' c.args.level c.args.k c.args.steps.now c.block.new.steps (2 ^ 63) some c.requires.room ticks1) in
    search rules

pub returns-in_err-right-clause-ticks : goal.returns-in_err-right-clause-ticks
returns-in_err-right-clause-ticks g t c =
    let frames = frames_of g.F.Scanned.field in
    let n = c.args.scan.now.runs in
    let has = is_at_hand n c.args.pass.now.known in
    let has' = is_at_hand n c.at_hand.new.pass.known in
    let more = later c.args.pass.now.known c.at_hand.new.pass.known c.at_hand.ensures.kept n in
    let first : c.halves-first.result.0 ≡ 2 * c.args.k = ap (λ (p : ℕ × ℕ). p.0) c.halves-first.ensures.is in
    let second : c.halves-first.result.1 ≡ 2 * c.args.k + 1 = ap (λ (p : ℕ × ℕ). p.1) c.halves-first.ensures.is in
    let some : 0 < c.args.level = omega (arith, c.if-level-eq0.false) in
    let ticks1 = subst (λ (j : ℕ). c.block.new.steps ≤ c.args.steps.now + cost has' frames (c.args.level - 1) j) first c.block.ensures.ticks in
    let has'' = is_at_hand n c.block.new.pass.known in
    let more' = later c.at_hand.new.pass.known c.block.new.pass.known c.block.ensures.kept n in
    let ticks2 = subst (λ (j : ℕ). c.block-2.new.steps ≤ c.block.new.steps + cost has'' frames (c.args.level - 1) j) second c.block-2.ensures.ticks in
    ticks_both frames has has' has'' more more' c.args.level c.args.k c.args.steps.now c.block.new.steps c.block-2.new.steps some c.in_default.ensures.found ticks1 ticks2

pub returns-in_err-both-clause-ticks : goal.returns-in_err-both-clause-ticks
returns-in_err-both-clause-ticks g t c =
    let frames = frames_of g.F.Scanned.field in
    let n = c.args.scan.now.runs in
    let has = is_at_hand n c.args.pass.now.known in
    let has' = is_at_hand n c.at_hand.new.pass.known in
    let more = later c.args.pass.now.known c.at_hand.new.pass.known c.at_hand.ensures.kept n in
    let first : c.halves-first.result.0 ≡ 2 * c.args.k = ap (λ (p : ℕ × ℕ). p.0) c.halves-first.ensures.is in
    let second : c.halves-first.result.1 ≡ 2 * c.args.k + 1 = ap (λ (p : ℕ × ℕ). p.1) c.halves-first.ensures.is in
    let some : 0 < c.args.level = omega (arith, c.if-level-eq0.false) in
    let ticks1 = subst (λ (j : ℕ). c.block.new.steps ≤ c.args.steps.now + cost has' frames (c.args.level - 1) j) first c.block.ensures.ticks in
    let has'' = is_at_hand n c.block.new.pass.known in
    let more' = later c.at_hand.new.pass.known c.block.new.pass.known c.block.ensures.kept n in
    let ticks2 = subst (λ (j : ℕ). c.block-2.new.steps ≤ c.block.new.steps + cost has'' frames (c.args.level - 1) j) second c.block-2.ensures.ticks in
    ticks_both frames has has' has'' more more' c.args.level c.args.k c.args.steps.now c.block.new.steps c.block-2.new.steps some c.in_default.ensures.found ticks1 ticks2

pub returns-in_err-new-2-clause-ticks : goal.returns-in_err-new-2-clause-ticks
returns-in_err-new-2-clause-ticks g t c =
    let frames = frames_of g.F.Scanned.field in
    let n = c.args.scan.now.runs in
    let has = is_at_hand n c.args.pass.now.known in
    let has' = is_at_hand n c.at_hand.new.pass.known in
    let more = later c.args.pass.now.known c.at_hand.new.pass.known c.at_hand.ensures.kept n in
    let first : c.halves-first.result.0 ≡ 2 * c.args.k = ap (λ (p : ℕ × ℕ). p.0) c.halves-first.ensures.is in
    let second : c.halves-first.result.1 ≡ 2 * c.args.k + 1 = ap (λ (p : ℕ × ℕ). p.1) c.halves-first.ensures.is in
    let some : 0 < c.args.level = omega (arith, c.if-level-eq0.false) in
    let ticks1 = subst (λ (j : ℕ). c.block.new.steps ≤ c.args.steps.now + cost has' frames (c.args.level - 1) j) first c.block.ensures.ticks in
    let has'' = is_at_hand n c.block.new.pass.known in
    let more' = later c.at_hand.new.pass.known c.block.new.pass.known c.block.ensures.kept n in
    let ticks2 = subst (λ (j : ℕ). c.block-2.new.steps ≤ c.block.new.steps + cost has'' frames (c.args.level - 1) j) second c.block-2.ensures.ticks in
    ticks_both frames has has' has'' more more' c.args.level c.args.k c.args.steps.now c.block.new.steps c.block-2.new.steps some c.in_default.ensures.found ticks1 ticks2

pub returns-clause-ticks : goal.returns-clause-ticks
returns-clause-ticks g t c =
    let frames = frames_of g.F.Scanned.field in
    let n = c.args.scan.now.runs in
    let has = is_at_hand n c.args.pass.now.known in
    let has' = is_at_hand n c.at_hand.new.pass.known in
    let more = later c.args.pass.now.known c.at_hand.new.pass.known c.at_hand.ensures.kept n in
    let first : c.halves-first.result.0 ≡ 2 * c.args.k = ap (λ (p : ℕ × ℕ). p.0) c.halves-first.ensures.is in
    let second : c.halves-first.result.1 ≡ 2 * c.args.k + 1 = ap (λ (p : ℕ × ℕ). p.1) c.halves-first.ensures.is in
    let some : 0 < c.args.level = omega (arith, c.if-level-eq0.false) in
    let ticks1 = subst (λ (j : ℕ). c.block.new.steps ≤ c.args.steps.now + cost has' frames (c.args.level - 1) j) first c.block.ensures.ticks in
    let has'' = is_at_hand n c.block.new.pass.known in
    let more' = later c.at_hand.new.pass.known c.block.new.pass.known c.block.ensures.kept n in
    let ticks2 = subst (λ (j : ℕ). c.block-2.new.steps ≤ c.block.new.steps + cost has'' frames (c.args.level - 1) j) second c.block-2.ensures.ticks in
    ticks_both frames has has' has'' more more' c.args.level c.args.k c.args.steps.now c.block.new.steps c.block-2.new.steps some c.in_default.ensures.found ticks1 ticks2

pub give-requires-2-clause-known : goal.give-requires-2-clause-known
give-requires-2-clause-known g t c shared = some_kept c.block-2.new.pass.known c.give.new.pass.known c.give.ensures.kept (cell_of c.args.scan.now.runs (c.args.level - 1) c.halves-first.result.1) c.cell-2.result c.cell-2.ensures.is (c.in_ok-right.ensures.known shared)

pub returns-in_err-new-2-clause-kept : goal.returns-in_err-new-2-clause-kept
returns-in_err-new-2-clause-kept g t c = λ i x h. c.give-2.ensures.kept i x (c.give.ensures.kept i x (c.block-2.ensures.kept i x (c.block.ensures.kept i x (c.at_hand.ensures.kept i x h))))

pub returns-clause-kept : goal.returns-clause-kept
returns-clause-kept g t c = λ i x h. c.give-2.ensures.kept i x (c.give.ensures.kept i x (c.block-2.ensures.kept i x (c.block.ensures.kept i x (c.at_hand.ensures.kept i x h))))

pub give-requires-clause-known : goal.give-requires-clause-known
give-requires-clause-known g t c shared = some_kept c.block.new.pass.known c.block-2.new.pass.known c.block-2.ensures.kept (cell_of c.args.scan.now.runs (c.args.level - 1) c.halves-first.result.0) c.cell.result c.cell.ensures.is (c.in_ok-left.ensures.known shared)

pub returns-clause-sums : goal.returns-clause-sums
returns-clause-sums g t c =
    let first : c.halves-first.result.0 ≡ 2 * c.args.k = ap (λ (p : ℕ × ℕ). p.0) c.halves-first.ensures.is in
    let second : c.halves-first.result.1 ≡ 2 * c.args.k + 1 = ap (λ (p : ℕ × ℕ). p.1) c.halves-first.ensures.is in
    let some : 0 < c.args.level = omega (arith, c.if-level-eq0.false) in
    let both = both_are c.args.level c.args.k c.halves-first.result.0 c.halves-first.result.1 c.get.result.now c.get-2.result.now c.in_ok-both.both some first second (c.get.ensures ∙ c.in_ok-left.ensures.sums) (c.get-2.ensures ∙ c.in_ok-right.ensures.sums) c.in_ok-both.ensures.is in
    c.in_ok-new-2.ensures.ok ∙ both
