-- Texts that are carried into other bytes, one after another.
use Rattle.std.proofs.Common.{◌≡◌, ℕ, ◌+◌, ◌-◌, ◌≤◌, List, [], ◌++◌, length, take, drop, slice_range, refl, sym, ◌∙◌, ap, arith, append_assoc, append-nil, take_at, drop_at, length-append}
use Rattle.jl_base.specs.Spans.{IsInside, text_of}
use Rattle.jl_base.specs.declared.place.Span.{Span}
use Rattle.jl_wire.proofs.Ranges.{length-range}
use Rattle.jl_rows.specs.declared.options.Options.{Options}
use Rattle.jl_rows.specs.Carries.{Grows, CarriesSpan, CarriesOptions}

pub grows_same : (bytes : List ℕ) → Grows bytes bytes
grows_same bytes = ([], sym (append-nil bytes))

pub grows_then : (a b c : List ℕ) → Grows a b → Grows b c → Grows a c
grows_then a b c p q = (p.0 ++ q.0, q.1 ∙ ap (λ (x : List ℕ). x ++ q.0) p.1 ∙ append_assoc a p.0 q.0)

-- a text after some bytes, where more follow
pub seam : (a t more bytes : List ℕ) (at len : ℕ) → at ≡ length a → len ≡ length t → bytes ≡ (a ++ t) ++ more → slice_range bytes at (at + len) ≡ t
seam a t more bytes at len here size e =
    let count : at + len - at ≡ length t = omega arith in
    ap (λ (x : List ℕ). take (at + len - at) (drop at x)) (e ∙ append_assoc a t more)
    ∙ ap (λ (x : List ℕ). take (at + len - at) x) (drop_at a (t ++ more) at (sym here))
    ∙ ap (λ n. take n (t ++ more)) count
    ∙ take_at t more (length t) refl

pub within : (a t more bytes : List ℕ) (at len : ℕ) → at ≡ length a → len ≡ length t → bytes ≡ (a ++ t) ++ more → at + len ≤ length bytes
within a t more bytes at len here size e = omega (arith, ap length e, length-append (a ++ t) more, length-append a t)

pub span_carried : (from into new : List ℕ) (s s' : Span) → new ≡ into ++ text_of from s → IsInside from s → s'.at ≡ length into → s'.len ≡ s.len → CarriesSpan from new s s'
span_carried from into new s s' is inside at len bytes g =
    let size : s'.len ≡ length (text_of from s) = omega (arith, len, length-range from s.at (s.at + s.len) (omega arith) inside) in
    let whole : bytes ≡ (into ++ text_of from s) ++ g.0 = g.1 ∙ ap (λ (x : List ℕ). x ++ g.0) is in
    (seam into (text_of from s) g.0 bytes s'.at s'.len at size whole, within into (text_of from s) g.0 bytes s'.at s'.len at size whole)

-- options whose stream's name was carried
pub options_carried : (from into : List ℕ) (o : Options) (name : Span) → CarriesSpan from into o.stream_name name → CarriesOptions from into o (record o { stream_name = name })
options_carried from into o name carried bytes g =
    let c = carried bytes g in
    record {
      seen = rw c.0 refl;
      inside = c.1;
      passed = λ p. record { inside = c.1; form = p.form; names = p.names; prefixes = p.prefixes; datatypes = p.datatypes };
    }
