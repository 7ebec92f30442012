-- Triple terms, and contents that are none.
use Rattle.std.proofs.Common.{◌≡◌, ℕ, zero, suc, ◌+◌, ◌-◌, ◌≤◌, List, Some, None, Result, Ok, Err, refl, ap, sym, subst, arith}
use Rattle.jl_base.specs.Results.{◌>>=◌}
use Rattle.jl_base.specs.Spans.{text_of}
use Rattle.jl_base.specs.declared.place.Span.{Span}
use Rattle.jl_base.specs.declared.kind.Kind.{Kind}
use Rattle.jl_base.specs.declared.kind.Kind.TheVariants.{TooDeep}
use Rattle.jl_wire.specs.Seen.{content_seen}
use Rattle.jl_wire.specs.declared.field.Value.{Value}
use Rattle.jl_wire.specs.declared.field.Value.TheVariants as values
use Rattle.jl_rows.specs.declared.message.Message.{Message}
use Rattle.jl_rows.specs.declared.message.Shape.{Shape}
use Rattle.jl_rows.specs.Reading.{Part, Parts, read, shallow, content_said, nested}
use Rattle.jl_rows.specs.Seen.{nested_span, nested_at, parts_or_none, ReadsAgain}
use Rattle.jl_rows.proofs.Depth.{AtLeast, said_within, read_more}

pub not_nested : (bytes : List ℕ) (depth : ℕ) (s : Shape) (v : Value) → None ≡ nested_span s v → content_said depth s (content_seen bytes v) ≡ shallow s (content_seen bytes v)
unfolding content_said
not_nested bytes zero Shape.Nested (values.Bytes span) e = cc
not_nested bytes (suc depth) Shape.Nested (values.Bytes span) e = cc
not_nested bytes zero Shape.Nested (values.Varint n) e = refl
not_nested bytes zero Shape.Nested (values.Fixed64 n) e = refl
not_nested bytes zero Shape.Nested (values.Fixed32 n) e = refl
not_nested bytes (suc depth) Shape.Nested (values.Varint n) e = refl
not_nested bytes (suc depth) Shape.Nested (values.Fixed64 n) e = refl
not_nested bytes (suc depth) Shape.Nested (values.Fixed32 n) e = refl
not_nested bytes zero s v e = refl
not_nested bytes (suc depth) s v e = refl

module _ (bytes : List ℕ) (span : Span) where
  -- at the greatest depth no triple term may stand
  pub too_deep : (depth : ℕ) (s : Shape) (v : Value) → depth ≡ 0 → Some span ≡ nested_span s v → content_said depth s (content_seen bytes v) ≡ Err TooDeep
  unfolding content_said
  too_deep zero Shape.Nested (values.Bytes other) z e = refl
  too_deep (suc depth) s v z e = absurd (omega arith)
  too_deep zero Shape.Nested (values.Varint n) z e = cc
  too_deep zero Shape.Nested (values.Fixed64 n) z e = cc
  too_deep zero Shape.Nested (values.Fixed32 n) z e = cc
  too_deep zero s v z e = cc

  -- a triple term says what its message says, one deeper
  pub one_deeper : (depth : ℕ) (s : Shape) (v : Value) → (depth ≡ 0 → ⊥) → Some span ≡ nested_span s v
      → content_said depth s (content_seen bytes v) ≡ (read (content_said (depth - 1)) Message.Triple (text_of bytes span) >>= λ ps. Ok (Part.Said (nested ps)))
  unfolding content_said
  one_deeper zero s v z e = absurd (z refl)
  one_deeper (suc depth) Shape.Nested (values.Bytes other) z e =
      let same : other ≡ span = cc in
      let less : suc depth - 1 ≡ depth = omega arith in
      rw (less, same) refl
  one_deeper (suc depth) Shape.Nested (values.Varint n) z e = cc
  one_deeper (suc depth) Shape.Nested (values.Fixed64 n) z e = cc
  one_deeper (suc depth) Shape.Nested (values.Fixed32 n) z e = cc
  one_deeper (suc depth) s v z e = cc

-- what was read within a depth is read again, and is what the term means wherever it stands
pub reads_again : ReadsAgain
reads_again depth text ps le e =
    let more : AtLeast (content_said depth) (content_said 31) = let same : (31 - depth) + depth ≡ 31 = omega arith in subst (λ (n : ℕ). AtLeast (content_said depth) (content_said n)) same (said_within (31 - depth) depth) in
    let again : read (content_said 31) Message.Triple text ≡ Ok ps = read_more (content_said depth) (content_said 31) more Message.Triple text ps e in
    (again, ap (λ (r : Result Parts Kind). nested (parts_or_none r)) (sym again))

pub read_anywhere : (depth : ℕ) (text : List ℕ) (ps : Parts) → depth ≤ 31 → read (content_said depth) Message.Triple text ≡ Ok ps → nested ps ≡ nested_at text
read_anywhere depth text ps le e = (reads_again depth text ps le e).1
