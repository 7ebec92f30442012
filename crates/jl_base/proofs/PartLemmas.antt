-- Parts that are given to a shelf, one after another.
use Rattle.std.proofs.Common.{◌≡◌, ℕ, List, [], ◌∷◌, ◌++◌, Option, Some, None, Result, Ok, Err, refl, sym, ◌∙◌, ap, append-nil}
use Rattle.jl_base.specs.Sinks.{Held, added, turned, Becomes, Adds, AddsFront}
use Rattle.jl_base.specs.Parts.{then_parts, with_parts, WasGiven, IsFront, Delivers}
use Rattle.jl_base.proofs.SinkLemmas.{added-nil, added-append, Adds-whole}

-- one change after another
pub Becomes-then : (a b c : Option Held) (f g : Held → Held) → Becomes a b f → Becomes b c g → Becomes a c (λ held. g (f held))
Becomes-then None b c f g p q = tt
Becomes-then (Some h) None c f g p q = absurd p
Becomes-then (Some h) (Some k) None f g p q = absurd q
Becomes-then (Some h) (Some k) (Some m) f g p q = q ∙ ap g p

-- the same change, said otherwise
pub Becomes-same : (a b : Option Held) (f g : Held → Held) → ((held : Held) → f held ≡ g held) → Becomes a b f → Becomes a b g
Becomes-same None b f g same p = tt
Becomes-same (Some h) None f g same p = absurd p
Becomes-same (Some h) (Some k) f g same p = p ∙ same h

pub then_parts-append : (held : Held) (ps qs : List (List ℕ)) → then_parts held (ps ++ qs) ≡ then_parts (then_parts held ps) qs
then_parts-append held [] qs = refl
then_parts-append held (p ∷ ps) qs = then_parts-append (added (turned held) p) ps qs

-- more bytes for the last part
then_parts-more : (held : Held) (ps : List (List ℕ)) (part more : List ℕ) → added (then_parts held (ps ++ part ∷ [])) more ≡ then_parts held (ps ++ (part ++ more) ∷ [])
then_parts-more held ps part more =
    ap (λ (h : Held). added h more) (then_parts-append held ps (part ∷ []))
    ∙ added-append (turned (then_parts held ps)) part more
    ∙ sym (then_parts-append held ps ((part ++ more) ∷ []))

pub with_parts-more : (held : Held) (ps : List (List ℕ)) (part more : List ℕ) → added (with_parts held (ps ++ part ∷ [])) more ≡ with_parts held (ps ++ (part ++ more) ∷ [])
with_parts-more held [] part more = added-append held part more
with_parts-more held (p ∷ ps) part more = then_parts-more (added held p) ps part more

-- a part more, which is still empty
pub with_parts-turned : (held : Held) (ps : List (List ℕ)) (part : List ℕ) → turned (with_parts held (ps ++ part ∷ [])) ≡ with_parts held ((ps ++ part ∷ []) ++ [] ∷ [])
with_parts-turned held [] part = sym (added-nil (turned (added held part)))
with_parts-turned held (p ∷ ps) part =
    sym (added-nil (turned (then_parts (added held p) (ps ++ part ∷ []))))
    ∙ sym (then_parts-append (added held p) (ps ++ part ∷ []) ([] ∷ []))

pub WasGiven-none : (held : Option Held) → WasGiven held held []
WasGiven-none None = tt
WasGiven-none (Some h) = refl

-- the first bytes
pub WasGiven-first : (a b : Option Held) (part : List ℕ) → Adds a b part → WasGiven a b (part ∷ [])
WasGiven-first None b part p = tt
WasGiven-first (Some h) None part p = absurd p
WasGiven-first (Some h) (Some k) part p = p

-- more bytes for the last part
pub WasGiven-more : (a b c : Option Held) (ps : List (List ℕ)) (part more : List ℕ) → WasGiven a b (ps ++ part ∷ []) → Adds b c more → WasGiven a c (ps ++ (part ++ more) ∷ [])
WasGiven-more a b c ps part more p q =
    Becomes-same a c (λ held. added (with_parts held (ps ++ part ∷ [])) more) (λ held. with_parts held (ps ++ (part ++ more) ∷ [])) (λ held. with_parts-more held ps part more)
    (Becomes-then a b c (λ held. with_parts held (ps ++ part ∷ [])) (λ held. added held more) p q)

-- a turn begins the next part
pub WasGiven-turned : (a b c : Option Held) (ps : List (List ℕ)) (part : List ℕ) → WasGiven a b (ps ++ part ∷ []) → Becomes b c turned → WasGiven a c ((ps ++ part ∷ []) ++ [] ∷ [])
WasGiven-turned a b c ps part p q =
    Becomes-same a c (λ held. turned (with_parts held (ps ++ part ∷ []))) (λ held. with_parts held ((ps ++ part ∷ []) ++ [] ∷ [])) (λ held. with_parts-turned held ps part)
    (Becomes-then a b c (λ held. with_parts held (ps ++ part ∷ [])) turned p q)

-- a front of one more part
pub IsFront-behind : (ps : List (List ℕ)) (given part : List ℕ) (parts : List (List ℕ)) (rest : List ℕ) → part ≡ given ++ rest → IsFront (ps ++ given ∷ []) (ps ++ part ∷ parts)
IsFront-behind [] given part parts rest is = (rest, is)
IsFront-behind (p ∷ []) given part parts rest is = (refl, IsFront-behind [] given part parts rest is)
IsFront-behind (p ∷ q ∷ ps) given part parts rest is = (refl, IsFront-behind (q ∷ ps) given part parts rest is)

-- nothing yet of the part behind these
pub IsFront-begun : (ps parts : List (List ℕ)) → IsFront (ps ++ [] ∷ []) (ps ++ parts)
IsFront-begun [] [] = refl
IsFront-begun [] (part ∷ parts) = (part, refl)
IsFront-begun (p ∷ []) parts = (refl, IsFront-begun [] parts)
IsFront-begun (p ∷ q ∷ ps) parts = (refl, IsFront-begun (q ∷ ps) parts)

-- all the parts
pub IsFront-all : (parts : List (List ℕ)) → IsFront parts parts
IsFront-all [] = tt
IsFront-all (part ∷ []) = ([], sym (append-nil part))
IsFront-all (part ∷ next ∷ parts) = (refl, IsFront-all (next ∷ parts))

-- one piece is a part of its own
pub Delivers-one : {T E : Type 0} (a b : Option Held) (piece : List ℕ) (result : Result T E) → AddsFront a b piece result → Delivers a b (piece ∷ []) result
Delivers-one a b piece (Ok x) adds = record {
  given = piece ∷ [];
  front = IsFront-all (piece ∷ []);
  was = WasGiven-first a b piece (Adds-whole a b piece x adds);
  whole = refl;
}
Delivers-one a b piece (Err e) adds = record {
  given = adds.done ∷ [];
  front = (adds.rest, adds.split);
  was = WasGiven-first a b adds.done adds.adds;
  whole = tt;
}

-- where nothing was given, a front of whatever parts was
pub Delivers-none : {T E : Type 0} (held : Option Held) (parts : List (List ℕ)) (e : E) → Delivers {T = T} held held parts (Err e)
Delivers-none held parts e = record { given = []; front = tt; was = WasGiven-none held; whole = tt }
