-- One block more of a walk.
use Rattle.std.proofs.Common.{◌≡◌, ℕ, ◌+◌, ◌<◌, ◌≤◌, Bool, true, List, [], ◌∷◌, ◌++◌, All, Some, refl, ap, sym, subst, ◌∙◌, append_assoc, arith}
use Rattle.std.proofs.lemmas.List.{append-nil}
use Rattle.std.proofs.lemmas.List.Elements.{All-push, All-weaker}
use Rattle.std.specs.FinMap.{get}
use Rattle.jl_scan.specs.Blocks.{edge, cell_of, Block, end_of}
use Rattle.jl_scan.specs.Walk.{walk, block_at}
use Rattle.jl_scan.specs.Costs.{weight, through, cost, cost_of}
use Rattle.jl_scan.specs.Reaching.{Known, IsKnown}
use Rattle.jl_scan.proofs.BlockLemmas.{walk_on, walk_done}
use Rattle.jl_scan.proofs.CostLemmas.{weight_through, through_mono, cost_later}
use Rattle.jl_scan.proofs.KnownLemmas.{some_kept}

pub room_over : (frames : ℕ → ℕ) (l k a to s m : ℕ) → edge l k ≡ a → edge l (k + 1) ≤ to → s + through frames to ≤ m + through frames a → s + weight frames l k ≤ m
room_over frames l k a to s m begins within room =
    let e : through frames (edge l k) ≡ through frames a = ap (through frames) begins in
    omega (arith, e, weight_through frames l k, through_mono frames (edge l (k + 1)) to within, room)

pub room_after : (frames : ℕ → ℕ) (l k a to s s' c m : ℕ) → edge l k ≡ a → s + through frames to ≤ m + through frames a → s' ≤ s + c → c ≤ weight frames l k → s' + through frames to ≤ m + through frames (edge l (k + 1))
room_after frames l k a to s s' c m begins room ticks less =
    let e : through frames (edge l k) ≡ through frames a = ap (through frames) begins in
    omega (arith, e, weight_through frames l k, room, ticks, less)

pub walk_step : (a to : ℕ) (at : Block) → at ≡ block_at a to → a < to → walk a to ≡ at ∷ walk (end_of at) to
walk_step a to at is less = let P : Block → Type 0 = λ b. walk a to ≡ b ∷ walk (end_of b) to in subst P (sym is) (walk_on a to less)

pub split_step : (bs whole : List Block) (a to : ℕ) (at : Block) → at ≡ block_at a to → a < to → bs ++ walk a to ≡ whole → whole ≡ bs ++ at ∷ walk (end_of at) to
split_step bs whole a to at is less done = sym done ∙ ap (λ ws. bs ++ ws) (walk_step a to at is less)

pub done_step : (bs whole : List Block) (a to : ℕ) (at : Block) → at ≡ block_at a to → a < to → bs ++ walk a to ≡ whole → (bs ++ at ∷ []) ++ walk (end_of at) to ≡ whole
done_step bs whole a to at is less done = append_assoc bs (at ∷ []) (walk (end_of at) to) ∙ sym (split_step bs whole a to at is less done)

pub done_all : (bs whole : List Block) (a to : ℕ) → to ≤ a → bs ++ walk a to ≡ whole → bs ≡ whole
done_all bs whole a to past done = sym (append-nil bs) ∙ (ap (λ ws. bs ++ ws) (sym (walk_done a to past)) ∙ done)

pub known_more : (n : ℕ) (known known' : Known) (keeps : (i : ℕ) (x : ℕ × ℕ) → get known i ≡ Some x → get known' i ≡ Some x) (bs : List Block) (at : Block) → All (IsKnown n known) bs → IsKnown n known' at → All (IsKnown n known') (bs ++ at ∷ [])
known_more n known known' keeps bs at all here =
    All-push (IsKnown n known') bs at (All-weaker (IsKnown n known) (IsKnown n known') (λ b h. some_kept known known' keeps (cell_of n b.level b.k) (cell_of n b.level b.k) refl h) bs all) here

pub ticks_step : (frames : ℕ → ℕ) (has has' : ℕ → ℕ → Bool) (more : (l k : ℕ) → has l k ≡ true → has' l k ≡ true) (a to : ℕ) (at : Block) (s s' t : ℕ) → at ≡ block_at a to → a < to
    → s' ≤ s + cost has' frames at.level at.k → s + cost_of has frames (walk a to) ≤ t → s' + cost_of has frames (walk (end_of at) to) ≤ t
ticks_step frames has has' more a to at s s' t is less le sum =
    let e : cost_of has frames (walk a to) ≡ cost has frames at.level at.k + cost_of has frames (walk (end_of at) to) = ap (cost_of has frames) (walk_step a to at is less) in
    omega (arith, e, cost_later frames has has' more at.level at.k, le, sum)
