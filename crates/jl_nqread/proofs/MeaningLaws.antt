-- Escapes, a step at a time, and parts by their places.
use Rattle.std.proofs.Common.{◌≡◌, ℕ, zero, suc, ◌+◌, ◌-◌, ◌<◌, ◌≤◌, Bool, true, false, List, [], ◌∷◌, ◌++◌, length, take, drop, get_or, slice_range, Option, Some, refl, sym, ap, ◌∙◌, arith, ◌⊎◌, inl, inr, None, cond, ◌&&◌}
use Rattle.std.proofs.Math.ListN.{drop_of_length-le}
use Rattle.std.proofs.lemmas.List.{append_assoc, drop_more, drop-drop, length-drop, take_more, get_or-drop}
use Rattle.std.proofs.Math.Seq.{append_snoc}
use Rattle.jl_base.specs.Terms.{Nested}
use Rattle.jl_base.specs.Items.{value_of}
use Rattle.jl_base.specs.declared.term.Three.{Three}
use Rattle.jl_base.specs.declared.term.Term.TheVariants.{Triple}
use Rattle.jl_base.proofs.ItemLemmas.{value_of-triple}
use Rattle.jl_nqread.specs.declared.line_shape.Shape.{Shape}
use Rattle.jl_nqread.specs.declared.line_shape.Shape.TheVariants as shapes
use Rattle.std.specs.Str.{is_utf8}
use Rattle.std.proofs.lemmas.Bool.{false≢true}
use Rattle.jl_nqread.specs.Taking.{begun, starts, twice}
use Rattle.jl_nqread.specs.Grammar.{blanks, blank_node, term, most_nested}
use Rattle.jl_nqread.specs.Lines.{is_done, is_whole, statement, shape_after_blanks, shape_of, is_term}
use Rattle.jl_nqread.specs.Meaning.{said, plain_said, three_said, left, part, enclosed, escaped, escape_bytes, is_plain, unescaped}

skipped : (skip : ℕ) (text : List ℕ) → unescaped skip text ≡ unescaped 0 (drop skip text)
unfolding unescaped
skipped zero text = refl
skipped (suc skip) [] = refl
skipped (suc skip) (b ∷ rest) = skipped skip rest

plain_byte : (b : ℕ) (rest : List ℕ) → is_plain b ≡ true → unescaped 0 (b ∷ rest) ≡ b ∷ unescaped 0 rest
unfolding unescaped
plain_byte b rest is = rw is refl

escape_byte : (b : ℕ) (rest : List ℕ) → is_plain b ≡ false → unescaped 0 (b ∷ rest) ≡ escaped rest ++ unescaped (escape_bytes rest) rest
unfolding unescaped
escape_byte b rest is = rw is refl

plain_more : (bytes : List ℕ) (at : ℕ) → at < length bytes → starts is_plain (drop at bytes) ≡ true → unescaped 0 (drop at bytes) ≡ get_or bytes at 0 ∷ unescaped 0 (drop (at + 1) bytes)
plain_more bytes at inside is =
    let more = drop_more bytes at 0 inside in
    ap (unescaped 0) more ∙ plain_byte (get_or bytes at 0) (drop (at + 1) bytes) (ap (starts is_plain) (sym more) ∙ is)

pub escape_more : (bytes : List ℕ) (at : ℕ) → at < length bytes → starts is_plain (drop at bytes) ≡ false
    → unescaped 0 (drop at bytes) ≡ escaped (drop (at + 1) bytes) ++ unescaped 0 (drop (at + 1 + escape_bytes (drop (at + 1) bytes)) bytes)
escape_more bytes at inside is =
    let more = drop_more bytes at 0 inside in
    let rest = drop (at + 1) bytes in
    ap (unescaped 0) more
    ∙ escape_byte (get_or bytes at 0) rest (ap (starts is_plain) (sym more) ∙ is)
    ∙ ap (λ (t : List ℕ). escaped rest ++ t) (skipped (escape_bytes rest) rest ∙ ap (unescaped 0) (drop-drop (escape_bytes rest) (at + 1) bytes))

slice_snoc : (bytes : List ℕ) (from at : ℕ) → from ≤ at → at < length bytes → slice_range bytes from (at + 1) ≡ slice_range bytes from at ++ get_or bytes at 0 ∷ []
slice_snoc bytes from at order inside =
    let n = at - from in
    let more : at + 1 - from ≡ n + 1 = omega (arith, order) in
    let there : from + n ≡ at = omega (arith, order) in
    let fits : n < length (drop from bytes) = rw (length-drop from bytes) (omega (arith, order, inside)) in
    ap (λ (k : ℕ). take k (drop from bytes)) more
    ∙ take_more (drop from bytes) n 0 fits
    ∙ ap (λ (b : ℕ). slice_range bytes from at ++ b ∷ []) (get_or-drop from bytes n 0 ∙ ap (λ (k : ℕ). get_or bytes k 0) there)

-- a stretch of plain bytes, one byte longer
pub plain_run : (bytes said : List ℕ) (from at : ℕ) → from ≤ at → at < length bytes → starts is_plain (drop at bytes) ≡ true
    → said ≡ slice_range bytes from at ++ unescaped 0 (drop at bytes) → said ≡ slice_range bytes from (at + 1) ++ unescaped 0 (drop (at + 1) bytes)
plain_run bytes said from at order inside is e =
    let b = get_or bytes at 0 in
    let rest = unescaped 0 (drop (at + 1) bytes) in
    e
    ∙ ap (λ (t : List ℕ). slice_range bytes from at ++ t) (plain_more bytes at inside is)
    ∙ sym (append_snoc (slice_range bytes from at) b rest)
    ∙ ap (λ (t : List ℕ). t ++ rest) (sym (slice_snoc bytes from at order inside))

pub part_there : (bytes : List ℕ) (at end : ℕ) → at ≤ end → end ≤ length bytes → part (drop at bytes) (drop end bytes) ≡ slice_range bytes at end
part_there bytes at end order inside =
    let count : length (drop at bytes) - length (drop end bytes) ≡ end - at = rw (length-drop at bytes, length-drop end bytes) (omega (arith, order, inside)) in
    ap (λ (k : ℕ). take k (drop at bytes)) count

pub enclosed_there : (bytes : List ℕ) (at end : ℕ) → at + 2 ≤ end → end ≤ length bytes → enclosed (drop at bytes) (drop end bytes) ≡ slice_range bytes (at + 1) (end - 1)
enclosed_there bytes at end order inside =
    let count : length (drop at bytes) - length (drop end bytes) - 2 ≡ end - 1 - (at + 1) = rw (length-drop at bytes, length-drop end bytes) (omega (arith, order, inside)) in
    ap (λ (k : ℕ). take k (drop 1 (drop at bytes))) count
    ∙ ap (take (end - 1 - (at + 1))) (drop-drop 1 at bytes)

pub label_there : (bytes : List ℕ) (at end : ℕ) → at + 2 ≤ end → end ≤ length bytes → blank_node (drop at bytes) ≡ Some (drop end bytes)
    → part (drop 2 (drop at bytes)) (left (blank_node (drop at bytes))) ≡ slice_range bytes (at + 2) end
label_there bytes at end order inside is =
    ap (λ (rest : Option (List ℕ)). part (drop 2 (drop at bytes)) (left rest)) is
    ∙ ap (λ (text : List ℕ). part text (drop end bytes)) (drop-drop 2 at bytes)
    ∙ part_there bytes (at + 2) end order inside

-- nothing is left after the end
pub over : (bytes : List ℕ) (at : ℕ) → length bytes ≤ at → unescaped 0 (drop at bytes) ≡ []
unfolding unescaped
over bytes at past = ap (unescaped 0) (drop_of_length-le bytes past)

-- an escape that was replaced
pub escape_done : (bytes text : List ℕ) (at next : ℕ) → at < length bytes → starts is_plain (drop at bytes) ≡ false → next ≡ at + 1 + escape_bytes (drop (at + 1) bytes)
    → unescaped 0 bytes ≡ text ++ unescaped 0 (drop at bytes) → unescaped 0 bytes ≡ (text ++ escaped (drop (at + 1) bytes)) ++ unescaped 0 (drop next bytes)
escape_done bytes text at next inside is place e =
    let said = escaped (drop (at + 1) bytes) in
    e
    ∙ ap (λ (t : List ℕ). text ++ t) (escape_more bytes at inside is)
    ∙ sym (append_assoc text said (unescaped 0 (drop (at + 1 + escape_bytes (drop (at + 1) bytes)) bytes)))
    ∙ ap (λ (k : ℕ). (text ++ said) ++ unescaped 0 (drop k bytes)) (sym place)

pub nested_value : (three : Three) → value_of (Triple three) ≡ Nested (value_of three.s) (value_of three.p) (value_of three.o)
nested_value three = value_of-triple three

-- what a term says, by the nesting that is allowed
pub said_shallow : (depth : ℕ) (text : List ℕ) → depth ≡ 0 → said depth text ≡ plain_said text
unfolding said
said_shallow zero text is = refl
said_shallow (suc depth) text is = absurd (omega arith)

pub said_deeper : (depth : ℕ) (text : List ℕ) → (depth ≡ 0 → ⊥) → said depth text ≡ begun (twice 60 text) (three_said (term (depth - 1)) (said (depth - 1))) (plain_said text)
unfolding said
said_deeper zero text is = absurd (is refl)
said_deeper (suc depth) text is = let less : suc depth - 1 ≡ depth = omega arith in rw less refl

-- a statement stands where the shape is one's
abbrev is_item : Shape → Bool
is_item shapes.Blank = false
is_item shapes.Triple = true
is_item shapes.Quad = true
is_item shapes.Bad = false

no_item : (u d : Bool) → is_item (cond u (cond d shapes.Blank shapes.Bad) shapes.Bad) ≡ false
no_item true true = refl
no_item true false = refl
no_item false d = refl

shape_without : (line : List ℕ) → statement (blanks line) ≡ None → is_item (shape_of line) ≡ false
unfolding shape_of shape_after_blanks
shape_without line none = rw none (no_item (is_utf8 line) (is_done (blanks line)))

pub is_statement : (line : List ℕ) → (shape_of line ≡ shapes.Triple) ⊎ (shape_of line ≡ shapes.Quad) → statement (blanks line) ≡ None → ⊥
is_statement line (inl is) none = false≢true (sym (shape_without line none) ∙ ap is_item is)
is_statement line (inr is) none = false≢true (sym (shape_without line none) ∙ ap is_item is)

no_term : (u : Bool) → (u && false) ≡ false
no_term true = refl
no_term false = refl

pub is_one : (text : List ℕ) → is_term text ≡ true → term most_nested text ≡ None → ⊥
unfolding is_term
is_one text is none = false≢true (sym (no_term (is_utf8 text)) ∙ ap (λ (o : Option (List ℕ)). is_utf8 text && is_whole o) (sym none) ∙ is)
