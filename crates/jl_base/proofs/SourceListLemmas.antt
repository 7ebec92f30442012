-- Lists of sources, one behind another.
use Rattle.std.proofs.Common.{◌≡◌, ℕ, suc, ◌+◌, ◌≤◌, List, [], ◌∷◌, ◌++◌, length, Option, Some, None, refl, sym, ◌∙◌, ap, subst, append-nil, length-append, arith}
use Rattle.std.specs.Io.KnownBytes.{Consumes, IsAtEnd}
use Rattle.jl_base.specs.Causes.{Rose}
use Rattle.jl_base.specs.Sources.{Told}
use Rattle.jl_base.specs.SourceLists.{ReadsEach, EndsEach, LeftEach, RoseAt, SteadyEach, total}
use Rattle.jl_base.proofs.SourceLemmas.{Reads-none}

-- nothing was read of sources that stayed as they were
abbrev pub nothing_each : {S : Type 0} → List S → List (List ℕ)
nothing_each [] = []
nothing_each (source ∷ sources) = [] ∷ nothing_each sources

pub ReadsEach-none : {S : Type 0} (told : S → Told) (sources : List S) → ReadsEach told sources sources (nothing_each sources)
ReadsEach-none told [] = tt
ReadsEach-none told (source ∷ sources) = (Reads-none (told source), ReadsEach-none told sources)

pub total-nothing_each : {S : Type 0} (sources : List S) → total (nothing_each sources) ≡ 0
total-nothing_each [] = refl
total-nothing_each (source ∷ sources) = omega (arith, total-nothing_each sources)

pub ReadsEach-append : {S : Type 0} (told : S → Told) (ss ts us vs : List S) (xs ys : List (List ℕ)) → ReadsEach told ss ts xs → ReadsEach told us vs ys → ReadsEach told (ss ++ us) (ts ++ vs) (xs ++ ys)
ReadsEach-append told [] [] us vs [] ys p q = q
ReadsEach-append told (s ∷ ss) (t ∷ ts) us vs (x ∷ xs) ys p q = (p.0, ReadsEach-append told ss ts us vs xs ys p.1 q)
ReadsEach-append told [] (t ∷ ts) us vs xs ys p q = absurd p
ReadsEach-append told [] [] us vs (x ∷ xs) ys p q = absurd p
ReadsEach-append told (s ∷ ss) [] us vs xs ys p q = absurd p
ReadsEach-append told (s ∷ ss) (t ∷ ts) us vs [] ys p q = absurd p

pub EndsEach-append : {S : Type 0} (told : S → Told) (ss ts : List S) → EndsEach told ss → EndsEach told ts → EndsEach told (ss ++ ts)
EndsEach-append told [] ts p q = q
EndsEach-append told (s ∷ ss) ts p q = (p.0, EndsEach-append told ss ts p.1 q)

pub SteadyEach-none : {S : Type 0} (told : S → Told) (sources : List S) → SteadyEach told sources sources
SteadyEach-none told [] = tt
SteadyEach-none told (source ∷ sources) = (refl, SteadyEach-none told sources)

pub SteadyEach-append : {S : Type 0} (told : S → Told) (ss ts us vs : List S) → SteadyEach told ss ts → SteadyEach told us vs → SteadyEach told (ss ++ us) (ts ++ vs)
SteadyEach-append told [] [] us vs p q = q
SteadyEach-append told (s ∷ ss) (t ∷ ts) us vs p q = (p.0, SteadyEach-append told ss ts us vs p.1 q)
SteadyEach-append told [] (t ∷ ts) us vs p q = absurd p
SteadyEach-append told (s ∷ ss) [] us vs p q = absurd p

pub total-append : (xs ys : List (List ℕ)) → total (xs ++ ys) ≡ total xs + total ys
total-append [] ys = omega arith
total-append (x ∷ xs) ys = omega (arith, total-append xs ys)

-- there are as many sources after as before
pub length-ReadsEach : {S : Type 0} (told : S → Told) (ss ts : List S) (xs : List (List ℕ)) → ReadsEach told ss ts xs → (length ts ≡ length ss) × (length xs ≡ length ss)
length-ReadsEach told [] [] [] p = (refl, refl)
length-ReadsEach told (s ∷ ss) (t ∷ ts) (x ∷ xs) p =
    let rest = length-ReadsEach told ss ts xs p.1 in
    (ap suc rest.0, ap suc rest.1)
length-ReadsEach told [] (t ∷ ts) xs p = absurd p
length-ReadsEach told [] [] (x ∷ xs) p = absurd p
length-ReadsEach told (s ∷ ss) [] xs p = absurd p
length-ReadsEach told (s ∷ ss) (t ∷ ts) [] p = absurd p

-- the count rose at the source behind the first ones
pub RoseAt-behind : {S : Type 0} (told : S → Told) (ss ts : List S) (s t : S) (us vs : List S) → length ts ≡ length ss → Rose (told s).faults (told t).faults → RoseAt told (ss ++ s ∷ us) (ts ++ t ∷ vs) (length ss)
RoseAt-behind told [] [] s t us vs same rose = rose
RoseAt-behind told (x ∷ ss) (y ∷ ts) s t us vs same rose = RoseAt-behind told ss ts s t us vs (omega arith) rose
RoseAt-behind told [] (y ∷ ts) s t us vs same rose = absurd (omega arith)
RoseAt-behind told (x ∷ ss) [] s t us vs same rose = absurd (omega arith)

-- of what a source tells, what was read and what is left
consumed-told : (before after : Option (List ℕ)) (left bytes : List ℕ) → before ≡ Some left → Consumes before after bytes → (rest : List ℕ) × (after ≡ Some rest) × (left ≡ bytes ++ rest)
consumed-told None after left bytes is p = absurd (cc)
consumed-told (Some xs) None left bytes is p = absurd p
consumed-told (Some xs) (Some ys) left bytes is p = (ys, refl, cc)

-- where each source tells its bytes and was read to its end, these bytes were read
pub reads_whole : {S : Type 0} (told : S → Told) (ss ts : List S) (reads lefts : List (List ℕ)) → LeftEach told ss lefts → ReadsEach told ss ts reads → EndsEach told ts → reads ≡ lefts
reads_whole told [] [] [] [] left p end = refl
reads_whole told (s ∷ ss) (t ∷ ts) (x ∷ xs) (l ∷ ls) left p end =
    let rest = consumed-told (told s).left (told t).left l x left.0 p.0.consumed in
    let none : rest.0 ≡ [] = subst IsAtEnd rest.1 end.0 in
    let front : x ≡ l = sym (rest.2 ∙ ap (λ (ys : List ℕ). x ++ ys) none ∙ append-nil x) in
    ap (λ (y : List ℕ). y ∷ xs) front ∙ ap (λ (ys : List (List ℕ)). l ∷ ys) (reads_whole told ss ts xs ls left.1 p.1 end.1)
reads_whole told [] ts reads (l ∷ ls) left p end = absurd left
reads_whole told (s ∷ ss) ts reads [] left p end = absurd left
reads_whole told [] (t ∷ ts) reads [] left p end = absurd p
reads_whole told [] [] (x ∷ xs) [] left p end = absurd p
reads_whole told (s ∷ ss) [] reads (l ∷ ls) left p end = absurd p
reads_whole told (s ∷ ss) (t ∷ ts) [] (l ∷ ls) left p end = absurd p

-- no more is read than the sources tell
pub total-reads_le : {S : Type 0} (told : S → Told) (ss ts : List S) (reads lefts : List (List ℕ)) → LeftEach told ss lefts → ReadsEach told ss ts reads → total reads ≤ total lefts
total-reads_le told [] [] [] [] left p = omega arith
total-reads_le told (s ∷ ss) (t ∷ ts) (x ∷ xs) (l ∷ ls) left p =
    let rest = consumed-told (told s).left (told t).left l x left.0 p.0.consumed in
    omega (arith, total-reads_le told ss ts xs ls left.1 p.1, ap length rest.2, length-append x rest.0)
total-reads_le told [] ts reads (l ∷ ls) left p = absurd left
total-reads_le told (s ∷ ss) ts reads [] left p = absurd left
total-reads_le told [] (t ∷ ts) reads [] left p = absurd p
total-reads_le told [] [] (x ∷ xs) [] left p = absurd p
total-reads_le told (s ∷ ss) [] reads (l ∷ ls) left p = absurd p
total-reads_le told (s ∷ ss) (t ∷ ts) [] (l ∷ ls) left p = absurd p
