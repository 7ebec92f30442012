-- Lists with a fact of each place, and lists of places that are filled.
use Rattle.std.proofs.Common.{◌≡◌, ◌≢◌, ℕ, zero, suc, ◌<◌, ◌⊎◌, inl, inr, List, [], ◌∷◌, ◌++◌, length, get_or, set, replicate, Contains, Option, Some, None, is_some, IfSome, option_to_list, refl, subst, sym, ap, ◌∙◌, ⊎_elim, arith}
use Rattle.std.proofs.lemmas.Bool.{cases_lt, cases_eq}
use Rattle.std.proofs.lemmas.List.{get_or_append_left, get_or_push, length_push, get_or-set_same, get_or-set_other, get_or_past, length-set, length-map, length-replicate, map_push, append-nil}
use Rattle.std.proofs.lemmas.List.Elements.{Contains-push_cases}
use Rattle.jl_drive.specs.declared.piece.Piece.{Piece}
use Rattle.jl_drive.specs.Working.{AtEach}
use Rattle.jl_drive.specs.Pieces.{Skipped, runs_of}
use Rattle.jl_drive.specs.Placing.{IsRight, IsFilled}

module _ {X : Type 0} (P : ℕ → X → Type 0) where
  pub each_nil : AtEach P []
  each_nil i d within = absurd (omega arith)

  pub each_push : (xs : List X) (y : X) (n : ℕ) → length xs ≡ n → AtEach P xs → P n y → AtEach P (xs ++ y ∷ [])
  each_push xs y n len each here i d within =
      ⊎_elim
      (λ before. subst (λ (x : X). P i x) (sym (get_or_append_left xs (y ∷ []) d i before)) (each i d before))
      (λ last.
      let at : n ≡ i = omega (arith, length_push xs y, len) in
      subst (λ (j : ℕ). P j (get_or (xs ++ y ∷ []) j d)) at (subst (λ (x : X). P n x) (sym (get_or_push xs y d n len)) here))
      (cases_lt i (length xs))

  pub each_front : (xs : List X) (y : X) → AtEach P (xs ++ y ∷ []) → AtEach P xs
  each_front xs y each i d within = subst (λ (x : X). P i x) (get_or_append_left xs (y ∷ []) d i within) (each i d (omega (arith, length_push xs y)))

  pub each_last : (xs : List X) (y : X) → AtEach P (xs ++ y ∷ []) → P (length xs) y
  each_last xs y each = subst (λ (x : X). P (length xs) x) (get_or_push xs y y (length xs) refl) (each (length xs) y (omega (arith, length_push xs y)))

  pub each_pop : (xs ys : List X) (r : Option X) → xs ≡ ys ++ option_to_list r → AtEach P xs → AtEach P ys × IfSome r (P (length ys))
  each_pop xs ys None same each = (subst (λ (zs : List X). AtEach P zs) (same ∙ append-nil ys) each, tt)
  each_pop xs ys (Some y) same each =
      let all : AtEach P (ys ++ y ∷ []) = subst (λ (zs : List X). AtEach P zs) same each in (each_front ys y all, each_last ys y all)

pub each_weaker : {X : Type 0} (P Q : ℕ → X → Type 0) (xs : List X) → ((i : ℕ) (x : X) → P i x → Q i x) → AtEach P xs → AtEach Q xs
each_weaker P Q xs less each i d within = less i (get_or xs i d) (each i d within)

module _ {X : Type 0} where
  none_there : (n k : ℕ) → ◌≡◌ {A = Option X} (get_or (replicate n None) k None) None
  none_there zero k = refl
  none_there (suc n) zero = refl
  none_there (suc n) (suc k) = none_there n k

  pub slots_count : (n : ℕ) (slots : List (Option X)) → slots ≡ replicate n None → length slots ≡ n
  slots_count n slots are = ap length are ∙ length-replicate {A = Option X} n None

  pub filled_set : (slots : List (Option X)) (i k : ℕ) (x : X) → i < length slots → IsFilled slots k → IsFilled (set slots i (Some x)) k
  filled_set slots i k x within filled =
      ⊎_elim
      (λ same. let P : ℕ → Type 0 = λ j. IsFilled (set slots i (Some x)) j in subst P (sym same) (ap (λ (o : Option X). is_some o) (get_or-set_same slots i (Some x) None within)))
      (λ apart. ap (λ (o : Option X). is_some o) (get_or-set_other slots i k (Some x) None apart) ∙ filled)
      (cases_eq k i)

  pub filled_here : (slots : List (Option X)) (i : ℕ) (x : X) → i < length slots → IsFilled (set slots i (Some x)) i
  filled_here slots i x within = ap (λ (o : Option X). is_some o) (get_or-set_same slots i (Some x) None within)

  pub filled_else : (slots : List (Option X)) (i k : ℕ) → k ≢ i → IsFilled slots k → IsFilled (set slots i None) k
  filled_else slots i k apart filled = ap (λ (o : Option X). is_some o) (get_or-set_other slots i k None None apart) ∙ filled

  module _ (R : ℕ → X → Type 0) where
    pub right_none : (n : ℕ) → IsRight R (replicate n None)
    right_none n k = subst (λ (o : Option X). IfSome o (λ p. R k p)) (sym (none_there n k)) tt

    pub right_set : (slots : List (Option X)) (i : ℕ) (x : X) → i < length slots → R i x → IsRight R slots → IsRight R (set slots i (Some x))
    right_set slots i x within here right k =
        ⊎_elim
        (λ same.
        let Q : ℕ → Type 0 = λ j. IfSome (get_or (set slots i (Some x)) j None) (λ p. R j p) in
        subst Q (sym same) (subst (λ (o : Option X). IfSome o (λ p. R i p)) (sym (get_or-set_same slots i (Some x) None within)) here))
        (λ apart. subst (λ (o : Option X). IfSome o (λ p. R k p)) (sym (get_or-set_other slots i k (Some x) None apart)) (right k))
        (cases_eq k i)

    none_set : (slots : List (Option X)) (i : ℕ) → get_or (set slots i None) i None ≡ None
    none_set slots i =
        ⊎_elim
        (λ within. get_or-set_same slots i None None within)
        (λ past. get_or_past (set slots i None) i None (omega (arith, length-set slots i None)))
        (cases_lt i (length slots))

    pub right_unset : (slots : List (Option X)) (i : ℕ) → IsRight R slots → IsRight R (set slots i None)
    right_unset slots i right k =
        ⊎_elim
        (λ same.
        let Q : ℕ → Type 0 = λ j. IfSome (get_or (set slots i None) j None) (λ p. R j p) in
        subst Q (sym same) (subst (λ (o : Option X). IfSome o (λ p. R i p)) (sym (none_set slots i)) tt))
        (λ apart. subst (λ (o : Option X). IfSome o (λ p. R k p)) (sym (get_or-set_other slots i k None None apart)) (right k))
        (cases_eq k i)

module _ {M : Type 0} (fine : ℕ → Type 0) where
  -- a run's piece in its place, or still to be placed, or none
  abbrev pub Covered : List (Option (Piece M)) → List (Piece M) → ℕ → Type 0
  Covered slots rest k = IsFilled slots k ⊎ (Contains (runs_of rest) k ⊎ Skipped fine k)

  covered_at : (slots : List (Option (Piece M))) (rest : List (Piece M)) (p : Piece M) (k : ℕ) → p.run < length slots → Covered slots (rest ++ p ∷ []) k → Covered (set slots p.run (Some p)) rest k
  covered_at slots rest p k within (inl filled) = inl (filled_set slots p.run k p within filled)
  covered_at slots rest p k within (inr (inr skipped)) = inr (inr skipped)
  covered_at slots rest p k within (inr (inl has)) =
      ⊎_elim
      (λ there. inr (inl there))
      (λ here. inl (subst (λ (j : ℕ). IsFilled (set slots p.run (Some p)) j) here (filled_here slots p.run p within)))
      (Contains-push_cases (runs_of rest) p.run k (subst (λ (xs : List ℕ). Contains xs k) (map_push (λ (q : Piece M). q.run) rest p) has))

  pub covered_step : (n : ℕ) (slots : List (Option (Piece M))) (all rest : List (Piece M)) (p : Piece M) → all ≡ rest ++ p ∷ [] → p.run < length slots → ((k : ℕ) → k < n → Covered slots all k)
      → (k : ℕ) → k < n → Covered (set slots p.run (Some p)) rest k
  covered_step n slots all rest p same within covered k below = covered_at slots rest p k within (subst (λ (ps : List (Piece M)). Covered slots ps k) same (covered k below))

  pub no_more : (slots : List (Option (Piece M))) (rest : List (Piece M)) (k : ℕ) → length rest ≡ 0 → Covered slots rest k → IsFilled slots k ⊎ Skipped fine k
  no_more slots rest k none (inl filled) = inl filled
  no_more slots rest k none (inr (inr skipped)) = inr skipped
  no_more slots rest k none (inr (inl has)) = absurd (let within = has.1 in omega (arith, length-map rest (λ (p : Piece M). p.run)))
