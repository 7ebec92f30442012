-- A label of one file becomes no label of another.
use Rattle.std.proofs.Common.{◌≡◌, ℕ, ◌<◌, ◌^◌, List, [], ◌∷◌, ◌++◌, get_or, drop, map, refl, sym, ap, ◌∙◌, arith}
use Rattle.std.specs.Fmt.{decimal}
use Rattle.std.specs.Str.Parse.{AllDigits}
use Rattle.std.proofs.lemmas.List.{map-append}
use Rattle.std.proofs.lemmas.Fmt.{decimal_is_IsNumeral, decimal_injective}
use Rattle.std.proofs.lemmas.Str.Parse.{digit_from_value}
use Rattle.jl_base.specs.Terms.{Value, Iri, Bnode, Literal, Nested, Default, Item, Triple, Quad, Namespace}
use Rattle.jl_join.specs.Relabelling.{relabelled_label, relabelled_term, relabelled}
use Rattle.jl_join.specs.Labels.{term_labels, labels_of}

abbrev first : List ℕ → ℕ
first xs = get_or xs 0 0

-- digits end where the first `_` stands
digits_end : (ds es a b : List ℕ) → AllDigits 10 ds → AllDigits 10 es → ds ++ 95 ∷ a ≡ es ++ 95 ∷ b → (ds ≡ es) × (a ≡ b)
digits_end [] [] a b d e same = (refl, ap (drop 1) same)
digits_end [] (c ∷ es) a b d e same = absurd (omega (arith, digit_from_value c e.0, ap first same))
digits_end (c ∷ ds) [] a b d e same = absurd (omega (arith, digit_from_value c d.0, ap first same))
digits_end (c ∷ ds) (z ∷ es) a b d e same =
    let rest = digits_end ds es a b d.1 e.1 (ap (drop 1) same) in
    (ap (λ (n : ℕ). n ∷ ds) (ap first same) ∙ ap (λ (xs : List ℕ). z ∷ xs) rest.0, rest.1)

pub labels_apart : (k n : ℕ) (a b : List ℕ) → k < 2 ^ 64 → n < 2 ^ 64 → relabelled_label k a ≡ relabelled_label n b → (k ≡ n) × (a ≡ b)
unfolding relabelled_label
labels_apart k n a b small few same =
    let split = digits_end (decimal k) (decimal n) a b (decimal_is_IsNumeral k small).0.1 (decimal_is_IsNumeral n few).0.1 (ap (drop 1) same) in
    (decimal_injective k n small few split.0, split.1)

-- what stands after as many bytes as these digits have, and one more
abbrev past : List ℕ → List ℕ → List ℕ
past [] text = drop 1 text
past (digit ∷ digits) text = past digits (drop 1 text)

past_digits : (digits label : List ℕ) → past digits (digits ++ 95 ∷ label) ≡ label
past_digits [] label = refl
past_digits (digit ∷ digits) label = past_digits digits label

-- the terms that were relabelled, read back
abbrev read_term : ℕ → Value → Value
read_term k (Iri iri) = Iri iri
read_term k (Bnode label) = Bnode (past (decimal k) (drop 1 label))
read_term k (Literal lex tail) = Literal lex tail
read_term k (Nested s p o) = Nested (read_term k s) (read_term k p) (read_term k o)
read_term k Default = Default

abbrev read_item : ℕ → Item → Item
read_item k (Triple s p o) = Triple (read_term k s) (read_term k p) (read_term k o)
read_item k (Quad s p o g) = Quad (read_term k s) (read_term k p) (read_term k o) (read_term k g)
read_item k (Namespace name iri) = Namespace name iri

term_back : (k : ℕ) (term : Value) → read_term k (relabelled_term k term) ≡ term
unfolding relabelled_term relabelled_label
term_back k (Iri iri) = refl
term_back k (Bnode label) = ap Bnode (past_digits (decimal k) label)
term_back k (Literal lex tail) = refl
term_back k (Nested s p o) = rw (term_back k s, term_back k p, term_back k o) refl
term_back k Default = refl

item_back : (k : ℕ) (item : Item) → read_item k (relabelled k item) ≡ item
unfolding relabelled
item_back k (Triple s p o) = rw (term_back k s, term_back k p, term_back k o) refl
item_back k (Quad s p o g) = rw (term_back k s, term_back k p, term_back k o, term_back k g) refl
item_back k (Namespace name iri) = refl

pub items_apart : (k : ℕ) (a b : Item) → relabelled k a ≡ relabelled k b → a ≡ b
items_apart k a b same = sym (item_back k a) ∙ ap (read_item k) same ∙ item_back k b

-- the labels of what was relabelled are the labels, each of them renamed
three_labels : (f : List ℕ → List ℕ) (a b c a' b' c' : List (List ℕ)) → a' ≡ map f a → b' ≡ map f b → c' ≡ map f c → a' ++ (b' ++ c') ≡ map f (a ++ (b ++ c))
three_labels f a b c a' b' c' p q r = rw (p, q, r) (sym (map-append f a (b ++ c) ∙ ap (λ (xs : List (List ℕ)). map f a ++ xs) (map-append f b c)))

labels_of_term : (k : ℕ) (term : Value) → term_labels (relabelled_term k term) ≡ map (relabelled_label k) (term_labels term)
unfolding relabelled_term term_labels
labels_of_term k (Iri iri) = refl
labels_of_term k (Bnode label) = refl
labels_of_term k (Literal lex tail) = refl
labels_of_term k (Nested s p o) = three_labels (relabelled_label k) (term_labels s) (term_labels p) (term_labels o) _ _ _ (labels_of_term k s) (labels_of_term k p) (labels_of_term k o)
labels_of_term k Default = refl

pub labels_of_item : (k : ℕ) (item : Item) → labels_of (relabelled k item) ≡ map (relabelled_label k) (labels_of item)
unfolding relabelled labels_of
labels_of_item k (Triple s p o) = three_labels (relabelled_label k) (term_labels s) (term_labels p) (term_labels o) _ _ _ (labels_of_term k s) (labels_of_term k p) (labels_of_term k o)
labels_of_item k (Quad s p o g) =
    three_labels (relabelled_label k) (term_labels s) (term_labels p) (term_labels o ++ term_labels g) _ _ _ (labels_of_term k s) (labels_of_term k p)
    (rw (labels_of_term k o, labels_of_term k g) (sym (map-append (relabelled_label k) (term_labels o) (term_labels g))))
labels_of_item k (Namespace name iri) = refl
