-- Rows of a tape, resolved one after another.
use Rattle.std.proofs.Common.{◌≡◌, ℕ, zero, suc, ◌+◌, ◌≤◌, List, [], ◌∷◌, ◌++◌, length, drop, slice_get, Option, Some, None, Result, Ok, Err, refl, sym, ◌∙◌, ap, subst, append_assoc, append-nil, arith}
use Rattle.std.proofs.lemmas.List.{drop_all}
use Rattle.jl_base.specs.Items.{items_of}
use Rattle.jl_base.specs.Results.{◌>>=◌, Reading, joined, with_front}
use Rattle.jl_base.specs.Terms.{Item}
use Rattle.jl_base.specs.declared.kind.Kind.{Kind}
use Rattle.jl_base.specs.declared.place.Fault.{Fault}
use Rattle.jl_base.specs.declared.place.Place.{Place}
use Rattle.jl_base.specs.declared.term.Item as owned
use Rattle.jl_rows.specs.Written.{StreamOptions}
use Rattle.jl_rows.specs.Files.{Placed}
use Rattle.jl_rows.specs.Seen.{HasRow}
use Rattle.jl_state.specs.States.{State}
use Rattle.jl_state.specs.Steps.{Stepped, step}
use Rattle.jl_state.specs.Running.{after_reading, after_rows, at_place, run, run_on, settled, state_of, stepped}
use Rattle.jl_tape.specs.declared.tape.PlacedRow.{PlacedRow}
use Rattle.jl_tape.specs.Tapes.{placed_seen, reading_of, HasRows}
use Rattle.jl_resolve.specs.Taking.{said, left_on}

drop_get : {A : Type 0} (xs : List A) (i : ℕ) (x : A) → slice_get xs i ≡ Some x → drop i xs ≡ x ∷ drop (suc i) xs
drop_get [] i x e = cc
drop_get (y ∷ xs) zero x e = let same : y ≡ x = cc in ap (λ z. z ∷ xs) same
drop_get (y ∷ xs) (suc i) x e = drop_get xs i x e

-- a row of a tape lies in the bytes
pub has_at : (bytes : List ℕ) (tape : List PlacedRow) (i : ℕ) (p : PlacedRow) → HasRows bytes tape → slice_get tape i ≡ Some p → HasRow bytes p.row
has_at bytes [] i p all e = absurd cc
has_at bytes (q ∷ tape) zero p all e =
    let same : q ≡ p = cc in
    subst (λ (x : PlacedRow). HasRow bytes x.row) same all.0
has_at bytes (q ∷ tape) (suc i) p all e = has_at bytes tape i p all.1 e

-- one row in front of a reading
run_front : (o : StreamOptions) (s : State) (p : Placed) (R : Reading Placed Fault) → run_on o s (with_front p R) ≡ stepped p.place (step o p.row s) (λ t. run_on o t R)
unfolding run
run_front o s p R = refl

after_front : (o : StreamOptions) (s : State) (p : Placed) (R : Reading Placed Fault) → after_reading o s (with_front p R) ≡ (at_place p.place (state_of (step o p.row s)) >>= λ t. after_reading o t R)
unfolding after_rows
after_front o s p R = refl

run_none : (o : StreamOptions) (s : State) (fault : Option Fault) → run_on o s (record { items = []; fault = fault }) ≡ record { items = []; fault = fault }
unfolding run
run_none o s fault = refl

after_none : (o : StreamOptions) (s : State) (fault : Option Fault) → after_reading o s (record { items = []; fault = fault }) ≡ settled fault s
unfolding after_rows
after_none o s fault = refl

-- What a run comes to after these items.
abbrev pub so_far : List owned.Item → StreamOptions → State → Reading Placed Fault → Reading Item Fault
so_far items o s R = joined (said items None) (run_on o s R)

module _ (bytes : List ℕ) (tape : List PlacedRow) (fault : Option Fault) where
  left_row : (i : ℕ) (p : PlacedRow) → slice_get tape i ≡ Some p → left_on bytes tape i fault ≡ with_front (placed_seen bytes p) (left_on bytes tape (i + 1) fault)
  left_row i p e =
      let next : suc i ≡ i + 1 = omega arith in
      ap (λ (ps : List PlacedRow). reading_of bytes ps fault) (drop_get tape i p e)
      ∙ ap (λ (n : ℕ). with_front (placed_seen bytes p) (left_on bytes tape n fault)) next

  left_none : (i : ℕ) → length tape ≤ i → left_on bytes tape i fault ≡ record { items = []; fault = fault }
  left_none i le = ap (λ (ps : List PlacedRow). reading_of bytes ps fault) (drop_all i tape le)

  module _ (o : StreamOptions) (s : State) (old : List owned.Item) (i : ℕ) where
    -- the next row is taken
    pub said_next : (p : PlacedRow) (t : State) (new : List owned.Item) (items : List Item) → slice_get tape i ≡ Some p → step o (placed_seen bytes p).row s ≡ Ok (t, items) → items_of new ≡ items_of old ++ items
        → so_far old o s (left_on bytes tape i fault) ≡ so_far new o t (left_on bytes tape (i + 1) fault)
    said_next p t new items e stepped_to more =
        let rest = left_on bytes tape (i + 1) fault in
        let after = run_on o t rest in
        ap (so_far old o s) (left_row i p e)
        ∙ ap (joined (said old None)) (run_front o s (placed_seen bytes p) rest ∙ ap (λ (x : Stepped). stepped p.place x (λ u. run_on o u rest)) stepped_to)
        ∙ ap (λ (xs : List Item). record { items = xs; fault = after.fault }) (sym (append_assoc (items_of old) items after.items) ∙ ap (λ (xs : List Item). xs ++ after.items) (sym more))

    pub after_next : (p : PlacedRow) (t : State) (items : List Item) → slice_get tape i ≡ Some p → step o (placed_seen bytes p).row s ≡ Ok (t, items)
        → after_reading o s (left_on bytes tape i fault) ≡ after_reading o t (left_on bytes tape (i + 1) fault)
    after_next p t items e stepped_to =
        let rest = left_on bytes tape (i + 1) fault in
        ap (after_reading o s) (left_row i p e)
        ∙ after_front o s (placed_seen bytes p) rest
        ∙ ap (λ (x : Stepped). at_place p.place (state_of x) >>= λ u. after_reading o u rest) stepped_to

    -- the next row has a fault
    pub said_fault : (p : PlacedRow) (kind : Kind) (place : Place) → slice_get tape i ≡ Some p → step o (placed_seen bytes p).row s ≡ Err kind → place ≡ p.place
        → so_far old o s (left_on bytes tape i fault) ≡ said old (Some (record { place = place; kind = kind }))
    said_fault p kind place e stopped same =
        let rest = left_on bytes tape (i + 1) fault in
        ap (so_far old o s) (left_row i p e)
        ∙ ap (joined (said old None)) (run_front o s (placed_seen bytes p) rest ∙ ap (λ (x : Stepped). stepped p.place x (λ u. run_on o u rest)) stopped)
        ∙ ap (λ (xs : List Item). record { items = xs; fault = Some (record { place = p.place; kind = kind }) }) (append-nil (items_of old))
        ∙ ap (λ (at : Place). said old (Some (record { place = at; kind = kind }))) (sym same)

    pub after_fault : (p : PlacedRow) (kind : Kind) (place : Place) → slice_get tape i ≡ Some p → step o (placed_seen bytes p).row s ≡ Err kind → place ≡ p.place
        → after_reading o s (left_on bytes tape i fault) ≡ Err (record { place = place; kind = kind })
    after_fault p kind place e stopped same =
        let rest = left_on bytes tape (i + 1) fault in
        ap (after_reading o s) (left_row i p e)
        ∙ after_front o s (placed_seen bytes p) rest
        ∙ ap (λ (x : Stepped). at_place p.place (state_of x) >>= λ u. after_reading o u rest) stopped
        ∙ ap (λ (at : Place). let r : Result State Fault = Err (record { place = at; kind = kind }) in r) (sym same)

    -- no row is left
    pub said_ended : length tape ≤ i → so_far old o s (left_on bytes tape i fault) ≡ said old fault
    said_ended le =
        ap (λ (R : Reading Placed Fault). joined (said old None) (run_on o s R)) (left_none i le)
        ∙ ap (joined (said old None)) (run_none o s fault)
        ∙ ap (λ (xs : List Item). record { items = xs; fault = fault }) (append-nil (items_of old))

    pub after_ended : length tape ≤ i → after_reading o s (left_on bytes tape i fault) ≡ settled fault s
    after_ended le = ap (after_reading o s) (left_none i le) ∙ after_none o s fault
