-- What whole frames begin with, whatever follows them.
use Rattle.std.proofs.Common.{◌≡◌, ℕ, ◌+◌, List, [], ◌∷◌, slice_range, Some, None, Result, Ok, Err, refl, sym, ◌∙◌, ap}
use Rattle.jl_base.specs.Results.{Reading, with_front, joined}
use Rattle.jl_base.specs.declared.kind.Kind.{Kind}
use Rattle.jl_base.specs.declared.place.Fault.{Fault}
use Rattle.jl_base.specs.declared.place.Place.{Place}
use Rattle.jl_rows.specs.Written.{Row, StreamOptions}
use Rattle.jl_rows.specs.declared.first_row.Head as code
use Rattle.jl_rows.specs.declared.first_row.Head.TheVariants.{Empty, First, Bad}
use Rattle.jl_rows.specs.Heads.{BeginsWith, head_seen}
use Rattle.jl_rows.specs.Files.{Placed, fault_at, frame_rows, frames, place_at, rows, rows_then}
use Rattle.jl_rows.specs.Decoder.{Head, first_row_checked, head_checked, head_of}
use Rattle.jl_rows.proofs.FileLaws.{rows_next, rows_done, rows_broken}
use Rattle.jl_rows.proofs.FrameLaws.{frames_at_end}

-- the head of these rows
abbrev pub head_on : Reading Placed Fault → Head
head_on R = head_of R.items R.fault

module _ (n : ℕ) (x : List ℕ) (B : Reading Placed Fault) where
  abbrev pub then_rows : List ℕ → ℕ → Reading Placed Fault
  then_rows y k = rows_then k (frames y).items B

  pub none_then : frames x ≡ record { items = []; fault = None } → then_rows x n ≡ B
  none_then e = ap (λ (R : Reading (List ℕ) Kind). rows_then n R.items B) e

  module _ (body rest : List ℕ) (frame : frames x ≡ with_front body (frames rest)) where
    one_then : then_rows x n ≡ joined (frame_rows n body) (then_rows rest (n + 1))
    one_then = ap (λ (R : Reading (List ℕ) Kind). rows_then n R.items B) frame

    pub row_then : (left : List ℕ) (row : Row) → rows body ≡ with_front row (rows left) → head_on (then_rows x n) ≡ head_checked (place_at n 1) (first_row_checked row)
    row_then left row e = ap head_on (one_then ∙ rows_next n 0 body (then_rows rest (n + 1)) left row e)

    pub fault_then : (k : Kind) → rows body ≡ record { items = []; fault = Some k } → head_on (then_rows x n) ≡ Head.Bad (fault_at n 1 k)
    fault_then k e = ap head_on (one_then ∙ rows_broken n 0 body (then_rows rest (n + 1)) k e)

    pub empty_then : rows body ≡ record { items = []; fault = None } → then_rows x n ≡ then_rows rest (n + 1)
    empty_then e = one_then ∙ rows_done n 0 body (then_rows rest (n + 1)) e

pub faultless : (x body rest : List ℕ) → frames x ≡ with_front body (frames rest) → (frames x).fault ≡ None → (frames rest).fault ≡ None
faultless x body rest frame none = sym (ap (λ (R : Reading (List ℕ) Kind). R.fault) frame) ∙ none

-- the head that the code checked
pub begins_checked : (bytes : List ℕ) (R B : Reading Placed Fault) (h : code.Head) (place : Place) (r : Result StreamOptions Kind) → head_on R ≡ head_checked place r → head_seen bytes h ≡ head_checked place r → BeginsWith bytes R B h
begins_checked bytes R B Empty place (Ok o) e said = absurd (cc)
begins_checked bytes R B Empty place (Err k) e said = absurd (cc)
begins_checked bytes R B (First o p) place r e said = e ∙ sym said
begins_checked bytes R B (Bad fault) place r e said = e ∙ sym said
