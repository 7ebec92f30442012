-- How a tape grows by a row, and by a frame's rows.
use Rattle.std.proofs.Common.{◌≡◌, ℕ, zero, suc, ◌+◌, ◌≤◌, List, [], ◌∷◌, ◌++◌, length, map, take, Option, Some, None, refl, sym, ◌∙◌, ap, append_assoc, append-nil, arith}
use Rattle.jl_base.specs.Results.{Reading, followed, joined, with_front}
use Rattle.jl_base.specs.declared.kind.Kind.{Kind}
use Rattle.jl_rows.specs.declared.row.Row.{Row}
use Rattle.jl_rows.specs.Written as written
use Rattle.jl_rows.specs.Files.{Placed, place_at, placed, placed_on, fault_at, rows}
use Rattle.jl_rows.specs.Seen.{row_seen, HasRow}
use Rattle.jl_rows.proofs.FileLaws.{placed_next}
use Rattle.jl_tape.specs.declared.tape.PlacedRow.{PlacedRow}
use Rattle.jl_tape.specs.Tapes.{placed_seen, reading_of, HasRows}

map-snoc : {A B : Type 0} (f : A → B) (xs : List A) (x : A) → map f (xs ++ x ∷ []) ≡ map f xs ++ f x ∷ []
map-snoc f [] x = refl
map-snoc f (y ∷ xs) x = ap (λ ys. f y ∷ ys) (map-snoc f xs x)

-- what stood before a further row stays
pub take_snoc : (n : ℕ) (ts : List PlacedRow) (t : PlacedRow) → n ≤ length ts → take n (ts ++ t ∷ []) ≡ take n ts
take_snoc zero ts t le = refl
take_snoc (suc n) [] t le = absurd (omega (arith, le))
take_snoc (suc n) (u ∷ ts) t le = ap (λ (xs : List PlacedRow). u ∷ xs) (take_snoc n ts t (omega (arith, le)))

pub has_snoc : (bytes : List ℕ) (ts : List PlacedRow) (t : PlacedRow) → HasRows bytes ts → HasRow bytes t.row → HasRows bytes (ts ++ t ∷ [])
has_snoc bytes [] t all has = (has, tt)
has_snoc bytes (u ∷ ts) t all has = (all.0, has_snoc bytes ts t all.1 has)

-- nothing after a reading, and two readings after one
pub joined_nothing : {A E : Type 0} (xs : List A) (fault : Option E) → followed xs fault (record { items = []; fault = None }) ≡ record { items = xs; fault = fault }
joined_nothing xs None = ap (λ ys. record { items = ys; fault = None }) (append-nil xs)
joined_nothing xs (Some e) = refl

pub joined_assoc : {A E : Type 0} (xs : List A) (f : Option E) (ys : List A) (g : Option E) (R : Reading A E) → followed xs f (followed ys g R) ≡ joined (followed xs f (record { items = ys; fault = g })) R
joined_assoc xs (Some e) ys g R = refl
joined_assoc xs None ys (Some e) R = refl
joined_assoc xs None ys None R = ap (λ zs. record { items = zs; fault = R.fault }) (sym (append_assoc xs ys R.items))

abbrev pub placed_row : ℕ → ℕ → Row → PlacedRow
placed_row n before row = record { place = place_at n (before + 1); row = row }

-- a frame's rows from a place on, after the rows of a tape
module _ (bytes : List ℕ) (ts : List PlacedRow) (n before : ℕ) (rest : List ℕ) where
  pub tape_next : (rest' : List ℕ) (row : Row) → rows rest ≡ with_front (row_seen bytes row) (rows rest')
      → joined (reading_of bytes ts None) (placed_on n before (rows rest)) ≡ joined (reading_of bytes (ts ++ placed_row n before row ∷ []) None) (placed_on n (before + 1) (rows rest'))
  tape_next rest' row e =
      let after = placed_on n (before + 1) (rows rest') in
      let here = placed_seen bytes (placed_row n before row) in
      ap (λ (r : Reading written.Row Kind). joined (reading_of bytes ts None) (placed_on n before r)) e
      ∙ ap (joined (reading_of bytes ts None)) (placed_next n before (row_seen bytes row) (rows rest').items (rows rest').fault)
      ∙ ap (λ (xs : List Placed). record { items = xs; fault = after.fault }) (sym (append_assoc (map (placed_seen bytes) ts) (here ∷ []) after.items))
      ∙ ap (λ (xs : List Placed). followed xs None after) (sym (map-snoc (placed_seen bytes) ts (placed_row n before row)))

  pub tape_done : rows rest ≡ record { items = []; fault = None } → joined (reading_of bytes ts None) (placed_on n before (rows rest)) ≡ reading_of bytes ts None
  unfolding placed
  tape_done e =
      ap (λ (r : Reading written.Row Kind). joined (reading_of bytes ts None) (placed_on n before r)) e ∙ joined_nothing (map (placed_seen bytes) ts) None

  pub tape_broken : (k : Kind) → rows rest ≡ record { items = []; fault = Some k } → joined (reading_of bytes ts None) (placed_on n before (rows rest)) ≡ reading_of bytes ts (Some (fault_at n (before + 1) k))
  unfolding placed
  tape_broken k e =
      ap (λ (r : Reading written.Row Kind). joined (reading_of bytes ts None) (placed_on n before r)) e
      ∙ ap (λ (xs : List Placed). record { items = xs; fault = Some (fault_at n (before + 1) k) }) (append-nil (map (placed_seen bytes) ts))
