-- What is read within a depth is read the same within a greater one.
use Rattle.std.proofs.Common.{◌≡◌, ℕ, zero, suc, ◌+◌, List, [], ◌∷◌, Option, Some, None, is_some, Result, Ok, ap, ◌∙◌, arith}
use Rattle.jl_base.specs.Results.{◌>>=◌, refuse_if}
use Rattle.jl_base.specs.declared.kind.Kind.{Kind}
use Rattle.jl_base.specs.declared.kind.Kind.TheVariants.{WrongWire, Twice}
use Rattle.jl_wire.specs.Fields.{Content, Field, fields}
use Rattle.jl_rows.specs.declared.message.Message.{Message}
use Rattle.jl_rows.specs.declared.message.Shape.{Shape}
use Rattle.jl_rows.specs.declared.message.Known.{Known}
use Rattle.jl_rows.specs.Messages.{known_as}
use Rattle.jl_rows.specs.Reading.{Part, Parts, part, is_wrong_wire, taken, taken_if_known, walk, read, read_on, content_said, nothing_said}
use Rattle.jl_rows.proofs.Binding.{bound}

abbrev pub Says : Type 0
Says = Shape → Content → Result Part Kind

-- the second says what the first says, where that says something
abbrev pub AtLeast : Says → Says → Type 0
AtLeast f g = (s : Shape) (c : Content) (p : Part) → f s c ≡ Ok p → g s c ≡ Ok p

bind_more : {A B : Type 0} (r q : Result A Kind) (f g : A → Result B Kind) (y : B) → ((x : A) → r ≡ Ok x → q ≡ Ok x) → ((x : A) → f x ≡ Ok y → g x ≡ Ok y) → (r >>= f) ≡ Ok y → (q >>= g) ≡ Ok y
bind_more r q f g y more on e =
    let b = bound r f y e in
    let there : q ≡ Ok b.value = more b.value b.was in
    ap (λ (x : Result _ Kind). x >>= g) there ∙ on b.value b.then

taken_more : (f g : Says) → AtLeast f g → (k : Known) (c : Content) (ps qs : Parts) → taken f k c ps ≡ Ok qs → taken g k c ps ≡ Ok qs
taken_more f g more k c ps qs e =
    bind_more (refuse_if (is_wrong_wire k.shape c) WrongWire) _ _ _ qs (λ x h. h) (λ _ e1.
    bind_more (refuse_if (is_some (part ps k.group)) Twice) _ _ _ qs (λ x h. h) (λ _ e2.
    bind_more (f k.shape c) (g k.shape c) _ _ qs (λ p h. more k.shape c p h) (λ p e3. e3) e2) e1) e

maybe_more : (f g : Says) → AtLeast f g → (k : Option Known) (c : Content) (ps qs : Parts) → taken_if_known f k c ps ≡ Ok qs → taken_if_known g k c ps ≡ Ok qs
maybe_more f g more None c ps qs e = e
maybe_more f g more (Some k) c ps qs e = taken_more f g more k c ps qs e

walk_more : (f g : Says) → AtLeast f g → (m : Message) (fs : List Field) (fault : Option Kind) (ps qs : Parts) → walk f m fs fault ps ≡ Ok qs → walk g m fs fault ps ≡ Ok qs
unfolding walk
walk_more f g more m [] None ps qs e = e
walk_more f g more m [] (Some k) ps qs e = cc
walk_more f g more m (x ∷ fs) fault ps qs e =
    bind_more (taken_if_known f (known_as m x.number) x.content ps) (taken_if_known g (known_as m x.number) x.content ps) _ _ qs
    (λ rs h. maybe_more f g more (known_as m x.number) x.content ps rs h) (λ rs h. walk_more f g more m fs fault rs qs h) e

pub read_more : (f g : Says) → AtLeast f g → (m : Message) (bytes : List ℕ) (qs : Parts) → read f m bytes ≡ Ok qs → read g m bytes ≡ Ok qs
unfolding read_on
read_more f g more m bytes qs e = walk_more f g more m (fields bytes).items (fields bytes).fault nothing_said qs e

-- one deeper
said_more : (depth : ℕ) → AtLeast (content_said depth) (content_said (suc depth))
unfolding content_said
said_more zero Shape.Nested (Content.Bytes t) p e = cc
said_more (suc depth) Shape.Nested (Content.Bytes t) p e =
    bind_more (read (content_said depth) Message.Triple t) (read (content_said (suc depth)) Message.Triple t) _ _ p
    (λ ps h. read_more (content_said depth) (content_said (suc depth)) (said_more depth) Message.Triple t ps h) (λ ps h. h) e
said_more zero Shape.Nested (Content.Number n) p e = e
said_more zero Shape.Nested (Content.Eight n) p e = e
said_more zero Shape.Nested (Content.Four n) p e = e
said_more (suc depth) Shape.Nested (Content.Number n) p e = e
said_more (suc depth) Shape.Nested (Content.Eight n) p e = e
said_more (suc depth) Shape.Nested (Content.Four n) p e = e
said_more zero s c p e = e
said_more (suc depth) s c p e = e

-- any deeper
pub said_within : (more depth : ℕ) → AtLeast (content_said depth) (content_said (more + depth))
said_within zero depth s c p e = let same : zero + depth ≡ depth = omega arith in rw same e
said_within (suc more) depth s c p e = let same : suc more + depth ≡ suc (more + depth) = omega arith in rw same (said_more (more + depth) s c p (said_within more depth s c p e))
