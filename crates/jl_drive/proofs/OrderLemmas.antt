-- Pieces that are taken in order.
use Rattle.std.proofs.Common.{◌≡◌, ℕ, ◌+◌, ◌<◌, ◌≤◌, ◌⊎◌, inl, inr, true, false, List, [], ◌∷◌, ◌++◌, length, get_or, set, All, Option, Some, None, is_some, IfSome, MatchOption, refl, subst, sym, ◌∙◌, ⊎_elim, arith}
use Rattle.std.proofs.lemmas.List.{get_or_read}
use Rattle.std.proofs.lemmas.List.Elements.{All-push}
use Rattle.std.proofs.lemmas.Bool.{false≢true, cases_lt}
use Rattle.jl_base.specs.declared.place.Fault.{Fault}
use Rattle.jl_drive.specs.declared.piece.Piece.{Piece}
use Rattle.jl_drive.specs.Pieces.{Skipped, EndsSo, AreInOrder}
use Rattle.jl_drive.specs.Working.{AtEach}
use Rattle.jl_drive.specs.Placing.{IsPlaced, IsRight, IsFilled}
use Rattle.jl_drive.proofs.Lists.{each_push, filled_else}

-- what a slot was found to have
pub slot_is : {X : Type 0} (slots : List (Option X)) (k : ℕ) (was : Option X) (x : X) → k < length slots → was ≡ get_or slots k was → Some x ≡ was → get_or slots k None ≡ Some x
slot_is slots k was x within at is = sym (is ∙ get_or_read slots k was within at None)

no_fault : (fault : Option Fault) → is_some fault ≡ false → fault ≡ None
no_fault None none = refl
no_fault (Some f) none = absurd (false≢true (sym none))

module _ {M : Type 0} where
  ends_with : (n : ℕ) (ps before : List (Piece M)) (last : Piece M) (fault : Option Fault) → last.fault ≡ fault → ps ≡ before ++ last ∷ [] → length before < n → All (λ p. p.fault ≡ None) before → is_some fault ≡ true
      → MatchOption fault ((length ps ≡ n) × All (λ p. p.fault ≡ None) ps) (λ f. (before : List (Piece M)) × (last : Piece M) × (ps ≡ before ++ last ∷ []) × (length before < n) × All (λ p. p.fault ≡ None) before × (last.fault ≡ Some f))
  ends_with n ps before last None same are less none some = absurd (false≢true some)
  ends_with n ps before last (Some f) same are less none some = (before, last, are, less, none, same)

  pub ends_in_order : (n : ℕ) (ps before : List (Piece M)) (last : Piece M) → ps ≡ before ++ last ∷ [] → length before ≡ last.run → last.run < n → AtEach (λ i p. p.run ≡ i) before → All (λ p. p.fault ≡ None) before → is_some last.fault ≡ true → AreInOrder n ps last.fault
  ends_in_order n ps before last are count less runs none some = record {
    runs = subst (λ (qs : List (Piece M)). AtEach (λ i p. p.run ≡ i) qs) (sym are) (each_push (λ i p. p.run ≡ i) before last last.run count runs refl);
    ends = ends_with n ps before last last.fault refl are (omega (arith, count)) none some;
  }

  pub runs_push : (ps before : List (Piece M)) (last : Piece M) → ps ≡ before ++ last ∷ [] → length before ≡ last.run → AtEach (λ i p. p.run ≡ i) before → AtEach (λ i p. p.run ≡ i) ps
  runs_push ps before last are count runs = subst (λ (qs : List (Piece M)). AtEach (λ i p. p.run ≡ i) qs) (sym are) (each_push (λ i p. p.run ≡ i) before last last.run count runs refl)

  pub all_push : (P : Piece M → Type 0) (ps before : List (Piece M)) (last : Piece M) → ps ≡ before ++ last ∷ [] → All P before → P last → All P ps
  all_push P ps before last are all here = subst (λ (qs : List (Piece M)). All P qs) (sym are) (All-push P before last all here)

  pub none_push : (ps before : List (Piece M)) (last : Piece M) → ps ≡ before ++ last ∷ [] → All (λ p. p.fault ≡ None) before → is_some last.fault ≡ false → All (λ p. p.fault ≡ None) ps
  none_push ps before last are all none = all_push (λ p. p.fault ≡ None) ps before last are all (no_fault last.fault none)

module _ (fine : ℕ → Type 0) (faulty : ℕ → Fault → Type 0) where
  ends_fine : (k : ℕ) (fault : Option Fault) → EndsSo fine faulty k fault → is_some fault ≡ false → fine k
  ends_fine k None ends none = ends
  ends_fine k (Some f) ends none = absurd (false≢true (sym none))

  pub fine_more : {M : Type 0} (p : Piece M) (n m : ℕ) → p.run ≡ n → m ≡ n + 1 → EndsSo fine faulty p.run p.fault → is_some p.fault ≡ false → ((j : ℕ) → j < n → fine j) → (j : ℕ) → j < m → fine j
  fine_more p n m at more ends none before j less =
      ⊎_elim
      (λ earlier. before j earlier)
      (λ here. let same : p.run ≡ j = omega (arith, at) in subst fine same (ends_fine p.run p.fault ends none))
      (cases_lt j n)

  pub covered_else : {X : Type 0} (slots : List (Option X)) (k m n : ℕ) (left : Option X) → left ≡ None → m ≡ k + 1 → ((j : ℕ) → k ≤ j → j < n → IsFilled slots j ⊎ Skipped fine j) → (j : ℕ) → m ≤ j → j < n → IsFilled (set slots k left) j ⊎ Skipped fine j
  covered_else {X} slots k m n left is more covered j from below =
      ⊎_elim
      (λ filled. inl (subst (λ (o : Option X). IsFilled (set slots k o) j) (sym is) (filled_else slots k j (λ same. omega arith) filled)))
      (λ skipped. inr skipped)
      (covered j (omega arith) below)

module _ {O M : Type 0} (knows : O → ℕ → Type 0) (makes : ℕ → M → Type 0) (fine : ℕ → Type 0) (faulty : ℕ → Fault → Type 0) (owns : List O) where
  pub placed_at : (slots : List (Option (Piece M))) (k n : ℕ) (was : Option (Piece M)) (p : Piece M) → n ≡ length slots → k < n → IsRight (IsPlaced knows makes fine faulty owns) slots → was ≡ get_or slots k was → Some p ≡ was
      → IsPlaced knows makes fine faulty owns k p
  placed_at slots k n was p len within right at is =
      subst (λ (o : Option (Piece M)). IfSome o (λ q. IsPlaced knows makes fine faulty owns k q)) (slot_is slots k was p (omega (arith, len)) at is) (right k)
