-- How a plan grows by a run.
use Rattle.std.proofs.Common.{◌≡◌, ℕ, zero, suc, ◌+◌, ◌-◌, ◌*◌, ◌/◌, ◌<◌, ◌≤◌, min, List, [], ◌∷◌, ◌++◌, length, take, slice_get, Some, refl, sym, ◌∙◌, ap, subst, arith, length-append, inl, inr}
use Rattle.std.proofs.Math.Nat.{suc-mul}
use Rattle.std.proofs.lemmas.Bool.{cases_lt}
use Rattle.std.proofs.lemmas.Nat.{div-mul-add}
use Rattle.jl_base.specs.declared.place.Run.{Run}
use Rattle.jl_base.specs.declared.place.Span.{Span}
use Rattle.jl_frames.specs.Index.{Index, behind, end_of, last_end}
use Rattle.jl_frames.specs.Runs.{Cover, IsCut, before_run, frames_before, run_behind, run_of}

-- behind the first frames stands the end of the last of them
last_of : (at : ℕ) (bodies : List Span) (k : ℕ) (body : Span) → slice_get bodies k ≡ Some body → last_end at (take (suc k) bodies) ≡ end_of body
last_of at [] k body e = absurd (let none = e in (cc))
last_of at (b ∷ bodies) zero body e = let same : b ≡ body = (cc) in ap end_of same
last_of at (b ∷ bodies) (suc k) body e = last_of (end_of b) bodies k body e

pub behind_last : (index : Index) (k n : ℕ) (body : Span) → 0 < n → slice_get index.bodies (k + n - 1) ≡ Some body → behind index (k + n) ≡ end_of body
behind_last index k n body some e =
    let next : k + n ≡ suc (k + n - 1) = omega arith in
    ap (behind index) next ∙ last_of index.lo index.bodies (k + n - 1) body e

pub cover-snoc : (index : Index) (k : ℕ) (runs : List Run) (m : ℕ) (run : Run) → Cover index k runs m → run ≡ run_behind index m run.frames → 0 < run.frames → Cover index k (runs ++ run ∷ []) (m + run.frames)
cover-snoc index k [] m run same is some = (subst (λ (n : ℕ). run ≡ run_behind index n run.frames) (sym same) is, some, ap (λ (n : ℕ). n + run.frames) same)
cover-snoc index k (r ∷ runs) m run all is some = (all.0, all.1, cover-snoc index (k + r.frames) runs m run all.2 is some)

get-left : (runs more : List Run) (i : ℕ) → i < length runs → slice_get (runs ++ more) i ≡ slice_get runs i
get-left [] more i below = absurd (omega arith)
get-left (r ∷ runs) more zero below = refl
get-left (r ∷ runs) more (suc i) below = get-left runs more i (omega arith)

get-seam : (runs : List Run) (run : Run) → slice_get (runs ++ run ∷ []) (length runs) ≡ Some run
get-seam [] run = refl
get-seam (r ∷ runs) run = get-seam runs run

one_more_run : (per n : ℕ) → (n + 1) * per ≡ n * per + per
one_more_run per n = let next : n + 1 ≡ suc n = omega arith in ap (λ (m : ℕ). m * per) next ∙ suc-mul n per

-- A plan's runs so far, when so many frames stand before the next one.
pub record Runs (index : Index) (per : ℕ) (runs : List Run) (before lo : ℕ) : Type 0 where
  pub before_is : before ≡ before_run (length index.bodies) per (length runs)
  pub begun : length runs * per < length index.bodies + per
  pub lo_is : lo ≡ behind index before
  pub each : (i : ℕ) → i < length runs → slice_get runs i ≡ Some (run_of index per i)
  pub cover : Cover index 0 runs before

pub no_runs : (index : Index) (per : ℕ) → 0 < per → Runs index per [] 0 index.lo
no_runs index per some = record {
  before_is = omega arith;
  begun = omega arith;
  lo_is = refl;
  each = λ i below. absurd (omega arith);
  cover = refl;
}

module _ (index : Index) (per : ℕ) (runs : List Run) (before lo : ℕ) (some : 0 < per) (so_far : Runs index per runs before lo) where
  -- the last run has been cut
  pub is_cut : length index.bodies ≤ before → IsCut index per runs
  is_cut whole =
      let n = length runs in
      let all : length index.bodies ≤ n * per = omega (arith, so_far.before_is) in
      let rest = length index.bodies + per - 1 - n * per in
      let under : rest < per = omega (arith, all, some) in
      let sum : length index.bodies + per - 1 ≡ n * per + rest = omega (arith, so_far.begun, some) in
      record {
        count = sym (ap (λ (m : ℕ). m / per) sum ∙ div-mul-add n per rest under);
        each = so_far.each;
      }

  pub covered : length index.bodies ≤ before → Cover index 0 runs (length index.bodies)
  covered whole =
      let same : before ≡ length index.bodies = omega (arith, so_far.before_is) in
      subst (λ (m : ℕ). Cover index 0 runs m) same so_far.cover

  module _ (below : before < length index.bodies) (n : ℕ) (least : n ≡ min per (length index.bodies - before)) (body : Span) (last : slice_get index.bodies (before + n - 1) ≡ Some body) where
    abbrev next : Run
    next = record { lo = lo; hi = end_of body; first_frame = index.first + before; frames = n }

    full : length runs * per ≡ before
    full = omega (arith, so_far.before_is, below)

    after : before + n ≡ before_run (length index.bodies) per (length runs + 1)
    after = let more : (length runs + 1) * per ≡ length runs * per + per = one_more_run per (length runs) in omega (arith, least, full, more)

    positive : 0 < n
    positive = omega (arith, least, below, some)

    is_behind : next ≡ run_behind index before n
    is_behind = rw (so_far.lo_is, behind_last index before n body positive last) refl

    is_next : next ≡ run_of index per (length runs)
    is_next =
        let k : before ≡ before_run (length index.bodies) per (length runs) = so_far.before_is in
        let size : n ≡ before_run (length index.bodies) per (length runs + 1) - before_run (length index.bodies) per (length runs) = omega (arith, after, k) in
        is_behind ∙ ap (λ (m : ℕ). run_behind index before m) size ∙ ap (λ (m : ℕ). run_behind index m (before_run (length index.bodies) per (length runs + 1) - before_run (length index.bodies) per (length runs))) k

    pub one_more : Runs index per (runs ++ next ∷ []) (before + n) (end_of body)
    one_more =
        let size : length (runs ++ next ∷ []) ≡ length runs + 1 = length-append runs (next ∷ []) in
        record {
          before_is = after ∙ ap (before_run (length index.bodies) per) (sym size);
          begun = let more : (length runs + 1) * per ≡ length runs * per + per = one_more_run per (length runs) in subst (λ (m : ℕ). m * per < length index.bodies + per) (sym size) (omega (arith, more, full, below));
          lo_is = sym (behind_last index before n body positive last);
          each = λ i below_i. elim (cases_lt i (length runs)) [
            | inl earlier ↦ get-left runs (next ∷ []) i earlier ∙ so_far.each i earlier
            | inr last_one ↦ (let here : i ≡ length runs = omega (arith, size, below_i, last_one) in rw here (get-seam runs next ∙ ap Some is_next))
          ];
          cover = cover-snoc index 0 runs before next so_far.cover is_behind positive;
        }

-- Run i of a cover begins behind the frames of those before it.
pub record IsRunOf (index : Index) (k : ℕ) (runs : List Run) (n i : ℕ) (run : Run) : Type 0 where
  pub begins : run ≡ run_behind index (k + frames_before runs i) run.frames
  pub some : 0 < run.frames
  pub next : frames_before runs (i + 1) ≡ frames_before runs i + run.frames
  pub within : k + frames_before runs i + run.frames ≤ n

cover_above : (index : Index) (k : ℕ) (runs : List Run) (n : ℕ) → Cover index k runs n → k ≤ n
cover_above index k [] n same = omega (arith, same)
cover_above index k (r ∷ runs) n all = omega (arith, cover_above index (k + r.frames) runs n all.2)

frames_next : (r : Run) (runs : List Run) (i : ℕ) → frames_before (r ∷ runs) (i + 1) ≡ r.frames + frames_before runs i
frames_next r runs i = let next : i + 1 ≡ suc i = omega arith in ap (frames_before (r ∷ runs)) next

pub run_in_cover : (index : Index) (k : ℕ) (runs : List Run) (n i : ℕ) (run : Run) → Cover index k runs n → slice_get runs i ≡ Some run → IsRunOf index k runs n i run
run_in_cover index k [] n i run all e = absurd (let none = e in (cc))
run_in_cover index k (r ∷ runs) n zero run all e =
    let same : r ≡ run = (cc) in
    let here : k + 0 ≡ k = omega arith in
    let above : k + r.frames ≤ n = cover_above index (k + r.frames) runs n all.2 in
    subst (λ (x : Run). IsRunOf index k (r ∷ runs) n 0 x) same (record {
      begins = all.0 ∙ ap (λ (m : ℕ). run_behind index m r.frames) (sym here);
      some = all.1;
      next = omega (arith, frames_next r runs 0);
      within = omega (arith, above);
    })
run_in_cover index k (r ∷ runs) n (suc i) run all e =
    let rest = run_in_cover index (k + r.frames) runs n i run all.2 e in
    let here : k + r.frames + frames_before runs i ≡ k + frames_before (r ∷ runs) (suc i) = omega arith in
    let next : frames_before (r ∷ runs) (suc i + 1) ≡ r.frames + frames_before runs (i + 1) = (let n : suc i + 1 ≡ suc (i + 1) = omega arith in ap (frames_before (r ∷ runs)) n) in
    record {
      begins = rest.begins ∙ ap (λ (m : ℕ). run_behind index m run.frames) here;
      some = rest.some;
      next = next ∙ omega (arith, rest.next);
      within = omega (arith, rest.within);
    }

-- and behind the last one all frames are read
pub whole_cover : (index : Index) (k : ℕ) (runs : List Run) (n i : ℕ) → Cover index k runs n → length runs ≤ i → k + frames_before runs i ≡ n
whole_cover index k [] n i all whole = let none : frames_before [] i ≡ 0 = take_none i in omega (arith, all, none)
  where
    take_none : (i : ℕ) → frames_before [] i ≡ 0
    take_none zero = refl
    take_none (suc i) = refl
whole_cover index k (r ∷ runs) n zero all whole = absurd (omega arith)
whole_cover index k (r ∷ runs) n (suc i) all whole = omega (arith, whole_cover index (k + r.frames) runs n i all.2 (omega arith))
