-- A tape, row by row.
use Rattle.std.proofs.Common.{◌≡◌, ℕ, zero, suc, ◌+◌, ◌≤◌, List, [], ◌∷◌, length, drop, slice_get, Option, Some, None, Result, Ok, Err, OnOk, refl, ◌∙◌, ap, subst, arith}
use Rattle.std.proofs.lemmas.List.{drop_all}
use Rattle.jl_base.specs.Results.{◌>>=◌, Reading, followed, with_front, joined}
use Rattle.jl_base.specs.declared.kind.Kind.{Kind}
use Rattle.jl_base.specs.declared.place.Fault.{Fault}
use Rattle.jl_rows.specs.Written.{StreamOptions}
use Rattle.jl_rows.specs.Files.{Placed}
use Rattle.jl_rows.specs.Seen.{options_seen, HasRow}
use Rattle.jl_state.specs.States.{State}
use Rattle.jl_state.specs.declared.stop.Stop.{Stop}
use Rattle.jl_state.specs.declared.stop.Stop.TheVariants as stops
use Rattle.jl_state.specs.Lawful.{state_seen}
use Rattle.jl_state.specs.Steps.{Stepped, step}
use Rattle.jl_state.specs.Running.{after_rows, after_reading, at_place, settled, state_of}
use Rattle.jl_tape.specs.declared.tape.PlacedRow.{PlacedRow}
use Rattle.jl_tape.specs.Tapes.{placed_seen, reading_of, HasRows}
use Rattle.jl_lines.specs.declared.decoding.Decoding.{Decoding}
use Rattle.jl_lines.specs.Going.{TakesRow, outcome}
use Rattle.jl_lines.specs.Taped.{left_on, LeadsAt}
use Rattle.jl_lines.proofs.GoingLemmas.{goes_row, halts_row}

drop_get : {A : Type 0} (xs : List A) (i : ℕ) (x : A) → slice_get xs i ≡ Some x → drop i xs ≡ x ∷ drop (suc i) xs
drop_get [] i x e = cc
drop_get (y ∷ xs) zero x e = let same : y ≡ x = cc in ap (λ z. z ∷ xs) same
drop_get (y ∷ xs) (suc i) x e = drop_get xs i x e

front_joined : {A E : Type 0} (x : A) (xs : List A) (fault : Option E) (R : Reading A E) → followed (x ∷ xs) fault R ≡ with_front x (followed xs fault R)
front_joined x xs None R = refl
front_joined x xs (Some e) R = refl

-- a row of a tape lies in the bytes
pub has_at : (bytes : List ℕ) (tape : List PlacedRow) (i : ℕ) (p : PlacedRow) → HasRows bytes tape → slice_get tape i ≡ Some p → HasRow bytes p.row
has_at bytes [] i p all e = absurd cc
has_at bytes (q ∷ tape) zero p all e =
    let same : q ≡ p = cc in
    subst (λ (x : PlacedRow). HasRow bytes x.row) same all.0
has_at bytes (q ∷ tape) (suc i) p all e = has_at bytes tape i p all.1 e

module _ (bytes : List ℕ) (tape : List PlacedRow) (fault : Option Fault) where
  left_row : (i : ℕ) (p : PlacedRow) → slice_get tape i ≡ Some p → left_on bytes tape i fault ≡ with_front (placed_seen bytes p) (left_on bytes tape (i + 1) fault)
  left_row i p e =
      let next : suc i ≡ i + 1 = omega arith in
      ap (λ (ps : List PlacedRow). reading_of bytes ps fault) (drop_get tape i p e)
      ∙ ap (λ (n : ℕ). with_front (placed_seen bytes p) (left_on bytes tape n fault)) next

  -- the next row of those that are left, whatever follows
  pub left_next : (B : Reading Placed Fault) (i : ℕ) (p : PlacedRow) → slice_get tape i ≡ Some p → joined (left_on bytes tape i fault) B ≡ with_front (placed_seen bytes p) (joined (left_on bytes tape (i + 1) fault) B)
  left_next B i p e =
      let rest = left_on bytes tape (i + 1) fault in
      ap (λ (R : Reading Placed Fault). joined R B) (left_row i p e) ∙ front_joined (placed_seen bytes p) rest.items rest.fault B

  -- at the end only the fault is left
  pub left_ended : (i : ℕ) → length tape ≤ i → left_on bytes tape i fault ≡ record { items = []; fault = fault }
  left_ended i le = ap (λ (ps : List PlacedRow). reading_of bytes ps fault) (drop_all i tape le)

  -- the state after those that are left, past the next one
  pub after_next : (o : StreamOptions) (s t : State) (i : ℕ) (p : PlacedRow) → slice_get tape i ≡ Some p → state_of (step o (placed_seen bytes p).row s) ≡ Ok t
      → after_reading o s (left_on bytes tape i fault) ≡ after_reading o t (left_on bytes tape (i + 1) fault)
  unfolding after_rows
  after_next o s t i p e said =
      let rest = left_on bytes tape (i + 1) fault in
      ap (after_reading o s) (left_row i p e)
      ∙ ap (λ (x : Result State Kind). at_place p.place x >>= λ u. after_rows o u rest.items rest.fault) said

-- no rows are left, and no fault
pub after_none : (o : StreamOptions) (s : State) (fault : Option Fault) → after_reading o s (record { items = []; fault = fault }) ≡ settled fault s
unfolding after_rows
after_none o s fault = refl

-- a row at its place, by its step
pub takes_leads : (bytes : List ℕ) (d d' : Decoding) (p : Placed) (B : Reading Placed Fault) (result : Result (Unit {0}) Stop)
    → TakesRow bytes (step (options_seen bytes d.state.options) p.row (state_seen bytes d.state)) d d' result → d'.state.options ≡ d.state.options → d'.writing ≡ d.writing
    → LeadsAt p.place (outcome bytes d (with_front p B)) (outcome bytes d' B) d' result
takes_leads bytes d d' p B (Ok _) took options writing = goes_row bytes d d' (with_front p B) p B took.0 refl options writing took.1 took.2 took.3
takes_leads bytes d d' p B (Err (stops.Fault kind)) took options writing = halts_row bytes d d' (with_front p B) p B kind refl took.0 took.1 took.2
takes_leads bytes d d' p B (Err stops.NoMemory) took options writing = tt

pub takes_state : (bytes : List ℕ) (said : Stepped) (d d' : Decoding) (result : Result (Unit {0}) Stop) → TakesRow bytes said d d' result → OnOk result (state_of said ≡ Ok (state_seen bytes d'.state))
takes_state bytes said d d' (Ok _) took = ap state_of took.1
takes_state bytes said d d' (Err stop) took = tt
