-- Texts that were carried from some bytes into others. What is said of them holds of all bytes that begin with those, so
-- that more may follow.
use Rattle.std.specs.Prelude.{◌≡◌, ℕ, List, ◌++◌}
use Rattle.jl_base.specs.Spans.{IsInside, text_of}
use Rattle.jl_base.specs.declared.place.Span.{Span}
use Rattle.jl_rows.specs.declared.options.Options.{Options}
use Rattle.jl_rows.specs.Heads.{ArePassed}
use Rattle.jl_rows.specs.Seen.{options_seen}

-- bytes that begin with others
abbrev pub Grows : List ℕ → List ℕ → Type 0
Grows old new = (more : List ℕ) × (new ≡ old ++ more)

-- the text of a span
abbrev pub CarriesSpan : List ℕ → List ℕ → Span → Span → Type 0
CarriesSpan from into s s' = (bytes : List ℕ) → Grows into bytes → (text_of bytes s' ≡ text_of from s) × IsInside bytes s'

-- Options with the stream's name.
pub record AreCarried (from bytes : List ℕ) (o o' : Options) : Type 0 where
  pub seen : options_seen bytes o' ≡ options_seen from o
  pub inside : IsInside bytes o'.stream_name
  pub passed : ArePassed from o → ArePassed bytes o'

abbrev pub CarriesOptions : List ℕ → List ℕ → Options → Options → Type 0
CarriesOptions from into o o' = (bytes : List ℕ) → Grows into bytes → AreCarried from bytes o o'
