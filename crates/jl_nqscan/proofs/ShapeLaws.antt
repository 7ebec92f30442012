-- A line's shape says whether its item has a graph.
use Rattle.std.proofs.Common.{◌≡◌, ℕ, Bool, true, false, not, cond, List, [], Option, Some, None, refl, ap, ◌∙◌, arith}
use Rattle.std.specs.Prelude.{◌==◌}
use Rattle.std.specs.Str.{is_utf8}
use Rattle.jl_base.specs.Terms.{Value}
use Rattle.jl_wire.proofs.Texts.{ascii_is_utf8}
use Rattle.jl_nqread.specs.declared.line_shape.Shape.{Shape}
use Rattle.jl_nqread.specs.declared.line_shape.Shape.TheVariants as shapes
use Rattle.jl_nqread.specs.Taking.{◌>>=◌, starts, byte, past}
use Rattle.jl_nqread.specs.Grammar.{blanks, plain_term, term, most_nested}
use Rattle.jl_nqread.specs.Lines.{is_done, ended, after_object, statement, shape_or_bad, shape_after_blanks, shape_of}
use Rattle.jl_nqread.specs.Meaning.{left, next, item_with, statement_said, item_said}
use Rattle.jl_nqscan.specs.Scanning.{is_quad}

abbrev has_graph : Shape → Bool
has_graph shapes.Blank = false
has_graph shapes.Triple = false
has_graph shapes.Quad = true
has_graph shapes.Bad = false

abbrev is_item : Shape → Bool
is_item shapes.Blank = false
is_item shapes.Triple = true
is_item shapes.Quad = true
is_item shapes.Bad = false

none_some : {A : Type 0} → {x : A} → None ≡ Some x → ⊥
none_some e = cc

went_on : (x : Option (List ℕ)) (f : List ℕ → Option Shape) (shape : Shape) → (x >>= f) ≡ Some shape → f (left x) ≡ Some shape
went_on (Some rest) f shape e = e
went_on None f shape e = absurd (none_some e)

tested : (t : Bool) (a b : Shape) → cond t (Some a) None ≡ Some b → a ≡ b
tested true a b e = cc
tested false a b e = absurd (none_some e)

ended_as : (a b : Shape) (text : List ℕ) → ended a text ≡ Some b → a ≡ b
unfolding ended
ended_as a b text e = tested _ a b (went_on (byte 46 text) (λ rest. cond (is_done (blanks rest)) (Some a) None) b e)

by_stop : (t : Bool) (text : List ℕ) (b : Shape) → cond t (ended shapes.Triple text) (plain_term text >>= λ g. ended shapes.Quad (blanks g)) ≡ Some b → not t ≡ has_graph b
by_stop true text b e = ap has_graph (ended_as shapes.Triple b text e)
by_stop false text b e = ap has_graph (ended_as shapes.Quad b _ (went_on (plain_term text) (λ g. ended shapes.Quad (blanks g)) b e))

object_as : (text : List ℕ) (b : Shape) → after_object text ≡ Some b → not (starts (λ b. b == 46) text) ≡ has_graph b
unfolding after_object
object_as text b e = by_stop (starts (λ b. b == 46) text) text b e

item_as : (s p o : Value) (text : List ℕ) → is_quad (item_with s p o text) ≡ not (starts (λ b. b == 46) text)
unfolding item_with
item_as s p o text = with_test (starts (λ b. b == 46) text) _ _ refl refl where
  with_test : (t : Bool) (a b : _) → is_quad a ≡ false → is_quad b ≡ true → is_quad (cond t a b) ≡ not t
  with_test true a b x y = x
  with_test false a b x y = y

abbrev one : List ℕ → Option (List ℕ)
one = term most_nested

statement_as : (text : List ℕ) (b : Shape) → statement text ≡ Some b → is_quad (statement_said text) ≡ has_graph b
unfolding statement statement_said
statement_as text b e =
    let third = λ (o : List ℕ). after_object (blanks o) in
    let second = λ (p : List ℕ). one (blanks p) >>= third in
    let first = λ (s : List ℕ). one (blanks s) >>= second in
    let x = went_on (one text) first b e in
    let y = went_on (one (next one text)) second b x in
    let z = went_on (one (next one (next one text))) third b y in
    item_as _ _ _ (next one (next one (next one text))) ∙ object_as _ b z

was : (u d : Bool) (o : Option Shape) (q : Shape) → cond u (cond d shapes.Blank (shape_or_bad o)) shapes.Bad ≡ q → is_item q ≡ true → o ≡ Some q
was true true o q e is = let no : false ≡ true = ap is_item e ∙ is in cc
was true false (Some r) q e is = ap Some e
was true false None q e is = let no : false ≡ true = ap is_item e ∙ is in cc
was false d o q e is = let no : false ≡ true = ap is_item e ∙ is in cc

line_was : (line : List ℕ) (q : Shape) → shape_of line ≡ q → is_item q ≡ true → statement (blanks line) ≡ Some q
unfolding shape_of shape_after_blanks
line_was line q e is = was (is_utf8 line) (is_done (blanks line)) (statement (blanks line)) q e is

pub triple_said : (line : List ℕ) → shape_of line ≡ shapes.Triple → is_quad (item_said line) ≡ false
unfolding item_said
triple_said line e = statement_as (blanks line) shapes.Triple (line_was line shapes.Triple e refl)

pub quad_said : (line : List ℕ) → shape_of line ≡ shapes.Quad → is_quad (item_said line) ≡ true
unfolding item_said
quad_said line e = statement_as (blanks line) shapes.Quad (line_was line shapes.Quad e refl)

no_bytes : is_utf8 [] ≡ true
no_bytes = ascii_is_utf8 [] (λ k lt. absurd (omega (arith, lt)))

pub empty_line : shape_of [] ≡ shapes.Blank
unfolding shape_of shape_after_blanks past
empty_line = rw no_bytes refl
