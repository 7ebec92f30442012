-- Readings of a source, one after another.
use Rattle.std.proofs.Common.{ℕ, List, [], ◌++◌, Option, Some, None, refl, sym, ◌∙◌, ap, append_assoc, arith, length-append}
use Rattle.std.specs.Io.KnownBytes.{Consumes}
use Rattle.jl_base.specs.Sources.{Told, Reads}

Consumes-none : (left : Option (List ℕ)) → Consumes left left []
Consumes-none None = tt
Consumes-none (Some xs) = refl

Consumes-append : (a b c : Option (List ℕ)) (xs ys : List ℕ) → Consumes a b xs → Consumes b c ys → Consumes a c (xs ++ ys)
Consumes-append None b c xs ys p q = tt
Consumes-append (Some l) None c xs ys p q = absurd p
Consumes-append (Some l) (Some m) None xs ys p q = absurd q
Consumes-append (Some l) (Some m) (Some n) xs ys p q =
    p ∙ ap (λ (bytes : List ℕ). xs ++ bytes) q ∙ sym (append_assoc xs ys n)

-- nothing was read
pub Reads-none : (told : Told) → Reads told told []
Reads-none told = record { consumed = Consumes-none told.left; count = omega arith; later = omega arith }

-- one reading and then another
pub Reads-append : (a b c : Told) (xs ys : List ℕ) → Reads a b xs → Reads b c ys → Reads a c (xs ++ ys)
Reads-append a b c xs ys p q = record {
  consumed = Consumes-append a.left b.left c.left xs ys p.consumed q.consumed;
  count = simp (length-append) (omega arith);
  later = omega arith;
}
