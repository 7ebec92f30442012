-- Laws of the rows of a file, as a loop over its frames and over their rows meets them.
use Rattle.std.proofs.Common.{◌≡◌, ℕ, zero, suc, ◌+◌, ◌-◌, ◌<◌, ◌≤◌, ◌^◌, List, [], ◌∷◌, length, slice_range, Option, Some, None, Result, Ok, Err, refl, ◌∙◌, ap, subst, arith}
use Rattle.std.proofs.lemmas.List.{take_all}
use Rattle.std.specs.List.{AllByRecursion}
use Rattle.jl_base.specs.Results.{Reading, led, followed, joined, with_front}
use Rattle.jl_base.specs.declared.kind.Kind.{Kind}
use Rattle.jl_base.specs.declared.place.Fault.{Fault}
use Rattle.jl_wire.proofs.Ranges.{length-range}
use Rattle.jl_rows.specs.Written.{StreamOptions, Row}
use Rattle.jl_rows.specs.Files.{body, frames_after, frames, rows, Placed, place_at, fault_at, placed, placed_on, frame_rows, rows_from, rows_on}
use Rattle.jl_rows.specs.History.{History}
use Rattle.jl_rows.specs.Decoder.{meaning, led_at, decoded, decoded_on}
use Rattle.jl_rows.proofs.FrameLaws.{frame_size}

-- what follows no items and no fault
pub after_nothing : {A E : Type 0} (R : Reading A E) → followed [] None R ≡ R
after_nothing R = refl

-- one item in front of two readings
front_joined : {A E : Type 0} (x : A) (xs : List A) (fault : Option E) (R : Reading A E) → followed (x ∷ xs) fault R ≡ with_front x (followed xs fault R)
front_joined x xs None R = refl
front_joined x xs (Some e) R = refl

-- a row at its place
abbrev pub row_at : ℕ → ℕ → Row → Placed
row_at n before row = record { place = place_at n (before + 1); row = row }

pub placed_next : (n before : ℕ) (row : Row) (rs : List Row) (fault : Option Kind) → placed n before (row ∷ rs) fault ≡ with_front (row_at n before row) (placed n (before + 1) rs fault)
unfolding placed
placed_next n before row rs fault = refl

-- the rows of a frame from a place in it on, and then those of the frames behind it
module _ (n before : ℕ) (rest : List ℕ) (R : Reading Placed Fault) where
  pub rows_next : (rest' : List ℕ) (row : Row) → rows rest ≡ with_front row (rows rest')
      → joined (placed_on n before (rows rest)) R ≡ with_front (row_at n before row) (joined (placed_on n (before + 1) (rows rest')) R)
  unfolding placed
  rows_next rest' row e =
      let after = placed_on n (before + 1) (rows rest') in
      ap (λ (r : Reading Row Kind). joined (placed_on n before r) R) e ∙ front_joined (row_at n before row) after.items after.fault R

  pub rows_done : rows rest ≡ record { items = []; fault = None } → joined (placed_on n before (rows rest)) R ≡ R
  unfolding placed
  rows_done e = ap (λ (r : Reading Row Kind). joined (placed_on n before r) R) e

  pub rows_broken : (k : Kind) → rows rest ≡ record { items = []; fault = Some k }
      → joined (placed_on n before (rows rest)) R ≡ record { items = []; fault = Some (fault_at n (before + 1) k) }
  unfolding placed
  rows_broken k e = ap (λ (r : Reading Row Kind). joined (placed_on n before r) R) e

-- the rows of a file from a frame on
module _ (n : ℕ) (rest : List ℕ) where
  pub file_next : (rest' : List ℕ) (body : List ℕ) → frames rest ≡ with_front body (frames rest') → rows_on n (frames rest) ≡ joined (frame_rows n body) (rows_on (n + 1) (frames rest'))
  unfolding rows_from
  file_next rest' body e = ap (rows_on n) e

  pub file_done : frames rest ≡ record { items = []; fault = None } → rows_on n (frames rest) ≡ record { items = []; fault = None }
  unfolding rows_from
  file_done e = ap (rows_on n) e

  pub file_broken : (k : Kind) → frames rest ≡ record { items = []; fault = Some k } → rows_on n (frames rest) ≡ record { items = []; fault = Some (fault_at n 0 k) }
  unfolding rows_from
  file_broken k e = ap (rows_on n) e

-- the decoder, one row on, and at the end
module _ (o : StreamOptions) (H : History) where
  pub decoded_next : (p : Placed) (R : Reading Placed Fault) → decoded_on o H (with_front p R) ≡ led_at p.place (meaning o p.row H) (decoded_on o (p.row ∷ H) R)
  unfolding decoded
  decoded_next p R = refl

  pub decoded_end : (fault : Option Fault) → decoded_on o H (record { items = []; fault = fault }) ≡ record { items = []; fault = fault }
  unfolding decoded
  decoded_end fault = refl

-- the whole of some bytes
pub whole_range : (bytes : List ℕ) (end : ℕ) → end ≡ length bytes → slice_range bytes 0 end ≡ bytes
whole_range bytes end e = let all : length bytes ≤ end - 0 = omega arith in take_all (end - 0) bytes all
