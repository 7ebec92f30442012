-- Adding to what a sink holds.
use Rattle.std.proofs.Common.{◌≡◌, ℕ, List, [], ◌++◌, ◌-◌, length, take, drop, Option, Some, None, Result, Ok, Err, refl, subst, sym, ◌∙◌, ap, append_assoc, take-append-drop}
use Rattle.std.proofs.lemmas.List.{append-nil, take_rest}
use Rattle.jl_base.specs.Sinks.{Held, added, Adds, AddsFront}

-- adding no bytes changes nothing
pub added-nil : (h : Held) → added h [] ≡ h
added-nil h = ap (λ (bytes : List ℕ). record h { under_way = bytes }) (append-nil h.under_way)

-- bytes that are added after others
pub added-append : (h : Held) (xs ys : List ℕ) → added (added h xs) ys ≡ added h (xs ++ ys)
added-append h xs ys = ap (λ (bytes : List ℕ). record h { under_way = bytes }) (append_assoc h.under_way xs ys)

pub Adds-nil : (h : Option Held) → Adds h h []
Adds-nil None = tt
Adds-nil (Some h) = sym (added-nil h)

pub Adds-append : (a b c : Option Held) (xs ys : List ℕ) → Adds a b xs → Adds b c ys → Adds a c (xs ++ ys)
Adds-append None b c xs ys p q = tt
Adds-append (Some h) None c xs ys p q = absurd p
Adds-append (Some h) (Some k) None xs ys p q = absurd q
Adds-append (Some h) (Some k) (Some m) xs ys p q = q ∙ ap (λ (x : Held). added x ys) p ∙ added-append h xs ys

-- a front that grows by the next n bytes, and what is left behind it
pub split_more : (piece done rest : List ℕ) (n : ℕ) → piece ≡ done ++ rest → piece ≡ (done ++ take n rest) ++ take (length rest - n) (drop n rest)
split_more piece done rest n split =
    split ∙ ap (λ (bytes : List ℕ). done ++ bytes) (sym (take-append-drop n rest)) ∙ sym (append_assoc done (take n rest) (drop n rest))
    ∙ ap (λ (bytes : List ℕ). (done ++ take n rest) ++ bytes) (sym (take_rest rest n))

-- a piece behind one that was added whole
pub AddsFront-then : {T E : Type 0} (a b c : Option Held) (xs ys : List ℕ) (result : Result T E) → Adds a b xs → AddsFront b c ys result → AddsFront a c (xs ++ ys) result
AddsFront-then a b c xs ys result first then = record {
  done = xs ++ then.done;
  rest = then.rest;
  split = ap (λ (bytes : List ℕ). xs ++ bytes) then.split ∙ sym (append_assoc xs then.done then.rest);
  adds = Adds-append a b c xs then.done first then.adds;
  whole = then.whole;
}

-- where a piece failed, those behind it weren't added either
pub AddsFront-failed : {T E U F : Type 0} (a b : Option Held) (xs ys : List ℕ) (e : E) (f : F) → AddsFront {T = T} a b xs (Err e) → AddsFront {T = U} a b (xs ++ ys) (Err f)
AddsFront-failed a b xs ys e f failed = record {
  done = failed.done;
  rest = failed.rest ++ ys;
  split = ap (λ (bytes : List ℕ). bytes ++ ys) failed.split ∙ append_assoc failed.done failed.rest ys;
  adds = failed.adds;
  whole = tt;
}

-- the whole piece was added
pub Adds-whole : {T E : Type 0} (a b : Option Held) (xs : List ℕ) (x : T) → AddsFront {E = E} a b xs (Ok x) → Adds a b xs
Adds-whole a b xs x adds =
    subst (Adds a b) (sym (adds.split ∙ ap (λ (rest : List ℕ). adds.done ++ rest) adds.whole ∙ append-nil adds.done)) adds.adds

-- nothing is to be added
pub AddsFront-none : {T E : Type 0} (held : Option Held) (result : Result T E) → AddsFront held held [] result
AddsFront-none held (Ok x) = record { done = []; rest = []; split = refl; adds = Adds-nil held; whole = refl }
AddsFront-none held (Err e) = record { done = []; rest = []; split = refl; adds = Adds-nil held; whole = tt }
