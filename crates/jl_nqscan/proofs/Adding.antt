-- What is told of some lines and then of others.
use Rattle.std.proofs.Common.{◌≡◌, ℕ, ◌+◌, ◌≤◌, Bool, true, false, ◌||◌, Option, Some, None, is_some, refl, ap, ◌∙◌, arith}
use Rattle.std.specs.Prelude.{IfSome}
use Rattle.jl_nqread.specs.declared.line_shape.Shape.{Shape}
use Rattle.jl_nqread.specs.declared.line_shape.Shape.TheVariants as shapes
use Rattle.jl_nqscan.specs.declared.line_scan.LineScan.{LineScan}
use Rattle.jl_nqscan.specs.Scanning.{nothing, one_line, then_told, moved, later}

abbrev scan : ℕ → Bool → Option ℕ → LineScan
scan s q x = record { statements = s; quads = q; bad = x }

or_assoc : (a b c : Bool) → ((a || b) || c) ≡ (a || (b || c))
or_assoc true b c = refl
or_assoc false b c = refl

or_false : (a : Bool) → (a || false) ≡ a
or_false true = refl
or_false false = refl

assoc_parts : (s t u : ℕ) (p q r : Bool) (x y z : Option ℕ)
    → then_told (then_told (scan s p x) (scan t q y)) (scan u r z) ≡ then_told (scan s p x) (then_told (scan t q y) (scan u r z))
assoc_parts s t u p q r (Some n) y z = refl
assoc_parts s t u p q r None (Some m) z = refl
assoc_parts s t u p q r None None z =
    let sums : s + t + u ≡ s + (t + u) = omega arith in
    ap (λ (n : ℕ). scan n ((p || q) || r) z) sums ∙ ap (λ (o : Bool). scan (s + (t + u)) o z) (or_assoc p q r)

pub then_assoc : (a b c : LineScan) → then_told (then_told a b) c ≡ then_told a (then_told b c)
then_assoc a b c = assoc_parts a.statements b.statements c.statements a.quads b.quads c.quads a.bad b.bad c.bad

pub nothing_first : (a : LineScan) → then_told nothing a ≡ a
nothing_first a =
    let same : 0 + a.statements ≡ a.statements = omega arith in
    ap (λ (n : ℕ). scan n a.quads a.bad) same

last_parts : (s : ℕ) (p : Bool) (x : Option ℕ) → then_told (scan s p x) nothing ≡ scan s p x
last_parts s p (Some n) = refl
last_parts s p None =
    let same : s + 0 ≡ s = omega arith in
    ap (λ (n : ℕ). scan n (p || false) None) same ∙ ap (λ (o : Bool). scan s o None) (or_false p)

pub nothing_last : (a : LineScan) → then_told a nothing ≡ a
nothing_last a = last_parts a.statements a.quads a.bad

later_parts : (k s t : ℕ) (p q : Bool) (x y : Option ℕ) → later k (then_told (scan s p x) (scan t q y)) ≡ then_told (later k (scan s p x)) (later k (scan t q y))
later_parts k s t p q (Some n) y = refl
later_parts k s t p q None y = refl

pub later_then : (k : ℕ) (a b : LineScan) → later k (then_told a b) ≡ then_told (later k a) (later k b)
later_then k a b = later_parts k a.statements b.statements a.quads b.quads a.bad b.bad

pub later_line : (k n : ℕ) (shape : Shape) → later k (one_line shape n) ≡ one_line shape (k + n)
later_line k n shapes.Blank = refl
later_line k n shapes.Triple = refl
later_line k n shapes.Quad = refl
later_line k n shapes.Bad = refl

-- what was told of a bad line stays
stops_parts : (s : ℕ) (p : Bool) (x : Option ℕ) (b : LineScan) → is_some x ≡ true → then_told (scan s p x) b ≡ scan s p x
stops_parts s p (Some n) b is = refl
stops_parts s p None b is = let no : false ≡ true = is in cc

pub stops : (a b : LineScan) → is_some a.bad ≡ true → then_told a b ≡ a
stops a b is = stops_parts a.statements a.quads a.bad b is

-- what comes after matters only where no line was bad
same_parts : (s : ℕ) (p : Bool) (x : Option ℕ) (b c : LineScan) → (x ≡ None → b ≡ c) → then_told (scan s p x) b ≡ then_told (scan s p x) c
same_parts s p (Some n) b c e = refl
same_parts s p None b c e = ap (then_told (scan s p None)) (e refl)

pub then_same : (a b c : LineScan) → (a.bad ≡ None → b ≡ c) → then_told a b ≡ then_told a c
then_same a b c e = same_parts a.statements a.quads a.bad b c e

good_parts : (s : ℕ) (p : Bool) (x : Option ℕ) (b : LineScan) → (then_told (scan s p x) b).bad ≡ None → (x ≡ None) × (b.bad ≡ None)
good_parts s p (Some n) b e = let no : Some n ≡ None = e in cc
good_parts s p None b e = (refl, e)

pub both_good : (a b : LineScan) → (then_told a b).bad ≡ None → (a.bad ≡ None) × (b.bad ≡ None)
both_good a b e = good_parts a.statements a.quads a.bad b e

pub moved_good : (k : ℕ) (x : Option ℕ) → moved k x ≡ None → x ≡ None
moved_good k None e = refl
moved_good k (Some n) e = let no : Some (k + n) ≡ None = e in cc

few_parts : (s : ℕ) (p : Bool) (x : Option ℕ) (b : LineScan) → (then_told (scan s p x) b).statements ≤ s + b.statements
few_parts s p (Some n) b = omega arith
few_parts s p None b = omega arith

pub then_few : (a b : LineScan) → (then_told a b).statements ≤ a.statements + b.statements
then_few a b = few_parts a.statements a.quads a.bad b

inside_parts : (most s : ℕ) (p : Bool) (x : Option ℕ) (b : LineScan) → IfSome x (λ n. n ≤ most) → IfSome b.bad (λ n. n ≤ most) → IfSome (then_told (scan s p x) b).bad (λ n. n ≤ most)
inside_parts most s p (Some n) b first second = first
inside_parts most s p None b first second = second

pub then_inside : (most : ℕ) (a b : LineScan) → IfSome a.bad (λ n. n ≤ most) → IfSome b.bad (λ n. n ≤ most) → IfSome (then_told a b).bad (λ n. n ≤ most)
then_inside most a b first second = inside_parts most a.statements a.quads a.bad b first second

pub moved_inside : (k few most : ℕ) (x : Option ℕ) → IfSome x (λ n. n ≤ few) → k + few ≤ most → IfSome (moved k x) (λ n. n ≤ most)
moved_inside k few most None inside le = inside
moved_inside k few most (Some n) inside le = omega (arith, inside, le)

pub weaker : (few most : ℕ) (x : Option ℕ) → IfSome x (λ n. n ≤ few) → few ≤ most → IfSome x (λ n. n ≤ most)
weaker few most None inside le = inside
weaker few most (Some n) inside le = omega (arith, inside, le)

pub line_few : (shape : Shape) (n : ℕ) → (one_line shape n).statements ≤ 1
line_few shapes.Blank n = omega arith
line_few shapes.Triple n = omega arith
line_few shapes.Quad n = omega arith
line_few shapes.Bad n = omega arith

pub line_inside : (most n : ℕ) (shape : Shape) → n ≤ most → IfSome (one_line shape n).bad (λ k. k ≤ most)
line_inside most n shapes.Blank le = tt
line_inside most n shapes.Triple le = tt
line_inside most n shapes.Quad le = tt
line_inside most n shapes.Bad le = le
