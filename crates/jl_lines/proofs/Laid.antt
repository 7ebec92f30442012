-- Where the frames of an index lie, and stands in them.
use Rattle.std.proofs.Common.{◌≡◌, ℕ, ◌+◌, ◌<◌, ◌≤◌, slice_get, Some, arith}
use Rattle.jl_base.specs.declared.place.Span.{Span}
use Rattle.jl_frames.specs.Index.{Index, AreLaid, behind, end_of}
use Rattle.jl_frames.proofs.Stretches.{body_of, laid_order}
use Rattle.jl_lines.specs.declared.stretch.Stand.{Stand}
use Rattle.jl_lines.specs.Stretches.{IsStand, stand_at}

-- A stand before the end of a stretch, and the body that it is in.
pub record IsStandIn (index : Index) (last : ℕ) (stand : Stand) (body : Span) : Type 0 where
  pub above : behind index stand.frame < body.at
  pub next : behind index (stand.frame + 1) ≡ end_of body
  pub within : end_of body ≤ last
  pub inside : stand.place ≤ body.len

pub stand_in : (index : Index) (last end : ℕ) (stand : Stand) (body : Span) → AreLaid index.lo index.bodies last → slice_get index.bodies stand.frame ≡ Some body → IsStand index stand end → IsStandIn index last stand body
stand_in index last end stand body laid e is =
    let here = body_of index.lo index.bodies last stand.frame body laid e in
    record { above = here.above; next = here.next; within = here.within; inside = is.inside body e }

-- the beginning of a frame is a stand
pub begins_stand : (index : Index) (last i end : ℕ) → AreLaid index.lo index.bodies last → i ≤ end → IsStand index (stand_at i) end
begins_stand index last i end laid le =
    let order : behind index i ≤ behind index end = laid_order index.lo index.bodies last i end laid le in
    record {
      reached = le;
      inside = λ body e. omega arith;
      counted = omega arith;
      within = omega (arith, order);
    }
