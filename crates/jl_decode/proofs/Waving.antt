-- The frames of a plan's waves.
use Rattle.std.proofs.Common.{◌≡◌, ℕ, zero, suc, ◌+◌, ◌-◌, ◌≤◌, ◌<◌, List, [], ◌∷◌, slice_get, Some, ap, ◌∙◌, arith}
use Rattle.jl_base.specs.declared.place.Run.{Run}
use Rattle.jl_frames.specs.Index.{Index}
use Rattle.jl_frames.specs.Runs.{Cover, frames_before}
use Rattle.jl_frames.proofs.RunLemmas.{run_in_cover}

-- more runs have more frames
before_order : (runs : List Run) (i k : ℕ) → i ≤ k → frames_before runs i ≤ frames_before runs k
before_order runs zero zero le = omega arith
before_order runs (suc i) zero le = absurd (omega (arith, le))
before_order [] zero (suc k) le = omega arith
before_order (r ∷ runs) zero (suc k) le = omega arith
before_order [] (suc i) (suc k) le = omega arith
before_order (r ∷ runs) (suc i) (suc k) le = omega (arith, before_order runs i k (omega (arith, le)))

-- The end of a wave, by its last run.
pub record EndsWave (runs : List Run) (number n done next : ℕ) (last : Run) : Type 0 where
  pub end : last.first_frame - number + last.frames ≡ frames_before runs next
  pub first : number ≤ last.first_frame
  pub order : done ≤ frames_before runs next
  pub within : frames_before runs next ≤ n

pub ends_wave : (index : Index) (runs : List Run) (number n i next done : ℕ) (last : Run) → number ≡ index.first → Cover index 0 runs n → slice_get runs (next - 1) ≡ Some last → i < next → done ≡ frames_before runs i
    → EndsWave runs number n done next last
ends_wave index runs number n i next done last from cover e lt sofar =
    let is = run_in_cover index 0 runs n (next - 1) last cover e in
    let one : next - 1 + 1 ≡ next = omega (arith, lt) in
    let first : last.first_frame ≡ index.first + (0 + frames_before runs (next - 1)) = ap (λ (r : Run). r.first_frame) is.begins in
    let all : frames_before runs next ≡ frames_before runs (next - 1) + last.frames = ap (frames_before runs) (omega (arith, one)) ∙ is.next in
    let order = before_order runs i next (omega (arith, lt)) in
    let within = is.within in
    record {
      end = omega (arith, from, first, all);
      first = omega (arith, from, first);
      order = omega (arith, sofar, order);
      within = omega (arith, within, all);
    }
