-- Steps one behind another, as code makes them.
use Rattle.std.proofs.Common.{◌≡◌, ℕ, ◌+◌, ◌^◌, ◌<◌, true, List, [], ◌∷◌, ◌++◌, length, Option, Some, None, nat_lt, refl, ap, sym, ◌∙◌, subst, arith, append_assoc, append-nil, length-append}
use Rattle.jl_encoding.specs.Limits.{most_item_bytes}
use Rattle.std.proofs.lemmas.Bool.{lt-ltb, or_left}
use Rattle.jl_rows.specs.Written.{Row}
use Rattle.jl_spell.specs.Frames.{body_of}
use Rattle.jl_encode.specs.Desks.{Desk, is_overfull}
use Rattle.jl_encode.specs.Putting.{Step, at_once, behind, then_put, item_bytes, is_refused, Did, PutItem}

-- what was done at the end, with the bytes behind those from before
did_behind : {B : Type 0} (bytes out mid out' : List ℕ) (step : Option (Step B)) (y : B) (D : Desk) → mid ≡ out ++ bytes → Did step mid y out' D → Did (behind bytes step) out y out' D
did_behind bytes out mid out' None y D e did = did
did_behind bytes out mid out' (Some s) y D e did =
    (did.0, did.1 ∙ ap (λ (xs : List ℕ). xs ++ s.bytes) e ∙ append_assoc out bytes s.bytes, did.2)

pub did_then : {A B : Type 0} (step : Option (Step A)) (f : A → Desk → Option (Step B)) (out mid out' : List ℕ) (x : A) (y : B) (D D' : Desk) → Did step out x mid D → Did (f x D) mid y out' D' → Did (then_put step f) out y out' D'
did_then None f out mid out' x y D D' first second = absurd first
did_then (Some s) f out mid out' x y D D' first second =
    let answer : s.answer ≡ x = first.0 in
    let desk : s.desk ≡ D = first.2 in
    let on : Did (f s.answer s.desk) mid y out' D' = subst (λ (a : _). Did (f a s.desk) mid y out' D') (sym answer) (subst (λ (d : Desk). Did (f x d) mid y out' D') (sym desk) second) in
    did_behind s.bytes out mid out' (f s.answer s.desk) y D' first.1 on

pub did_once : {A : Type 0} (x : A) (out : List ℕ) (D : Desk) → Did (at_once x D) out x out D
did_once x out D = (refl, sym (append-nil out), refl)

-- the first can't be made, or the second behind it
pub none_first : {A B : Type 0} (step : Option (Step A)) (f : A → Desk → Option (Step B)) → step ≡ None → then_put step f ≡ None
none_first step f e = rw e refl

pub none_then : {A B : Type 0} (step : Option (Step A)) (f : A → Desk → Option (Step B)) (out mid : List ℕ) (x : A) (D : Desk) → Did step out x mid D → f x D ≡ None → then_put step f ≡ None
none_then None f out mid x D first none = refl
none_then (Some s) f out mid x D first none =
    let answer : s.answer ≡ x = first.0 in
    let desk : s.desk ≡ D = first.2 in
    let on : f s.answer s.desk ≡ None = ap (λ (a : _). f a s.desk) answer ∙ ap (f x) desk ∙ none in
    rw on refl

-- an item's own row behind its entries
pub puts_row : (step : Option (Step Row)) (out mid out' : List ℕ) (r : Row) (D : Desk) → Did step out r mid D → out' ≡ mid ++ body_of (r ∷ []) → PutItem step out out' D
puts_row None out mid out' r D did e = did
puts_row (Some s) out mid out' r D did e =
    let answer : s.answer ≡ r = did.0 in
    let row : body_of (s.answer ∷ []) ≡ body_of (r ∷ []) = ap (λ (q : Row). body_of (q ∷ [])) answer in
    (e ∙ ap (λ (xs : List ℕ). xs ++ body_of (r ∷ [])) did.1 ∙ append_assoc out s.bytes (body_of (r ∷ [])) ∙ ap (λ (xs : List ℕ). out ++ (s.bytes ++ xs)) (sym row), did.2)

-- a row that is too long by itself
pub long_row : (step : Option (Step Row)) (out mid : List ℕ) (r : Row) (D : Desk) → Did step out r mid D → most_item_bytes < length (body_of (r ∷ [])) → is_refused step ≡ true
long_row None out mid r D did long = refl
long_row (Some s) out mid r D did long =
    let answer : s.answer ≡ r = did.0 in
    let row : body_of (s.answer ∷ []) ≡ body_of (r ∷ []) = ap (λ (q : Row). body_of (q ∷ [])) answer in
    let sum : length (item_bytes s) ≡ length s.bytes + length (body_of (r ∷ [])) = length-append s.bytes (body_of (s.answer ∷ [])) ∙ ap (λ (xs : List ℕ). length s.bytes + length xs) row in
    let more : nat_lt most_item_bytes (length (item_bytes s)) ≡ true = lt-ltb most_item_bytes (length (item_bytes s)) (omega (arith, sum, long)) in
    or_left (nat_lt most_item_bytes (length (item_bytes s))) (is_overfull s.desk) more

pub none_refused : (step : Option (Step Row)) → step ≡ None → is_refused step ≡ true
none_refused step e = rw e refl
