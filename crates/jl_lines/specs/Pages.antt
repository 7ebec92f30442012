-- The page of lines that were written and not given yet.
use Rattle.std.specs.Prelude.{◌≡◌, ℕ, ◌<◌, ◌≤◌, List, ◌++◌, codes, length, Option, refl}
use Rattle.std.specs.Coded.{Coded, code_by, coded×, coded_list, coded_ℕ}
use Rattle.jl_base.specs.Terms.{Value}
use Rattle.jl_text.specs.Line.{term_text}
use Rattle.jl_state.specs.Lawful.{value_or_default}
use Rattle.jl_lines.specs.declared.line.Line.{Line}

-- Its lines, and what the last of them has at each position: the term's text and a space, or nothing where this isn't kept.
pub record Paged : Type 0 where
  pub lines : List ℕ
  pub subject : List ℕ
  pub predicate : List ℕ
  pub object : List ℕ

-- it is stored as the tuple of its fields
abbrev pub paged_coded : Coded Paged
paged_coded =
    code_by (List ℕ × (List ℕ × (List ℕ × List ℕ))) (coded× (coded_list coded_ℕ) (coded× (coded_list coded_ℕ) (coded× (coded_list coded_ℕ) (coded_list coded_ℕ))))
    (λ p. (p.lines, (p.subject, (p.predicate, p.object)))) (λ p. record { lines = p.0; subject = p.1.0; predicate = p.1.1.0; object = p.1.1.1 }) (λ _. refl)

-- nothing is kept of the last line
pub record KeepsNone (page : Paged) : Type 0 where
  pub subject : length page.subject ≡ 0
  pub predicate : length page.predicate ≡ 0
  pub object : length page.object ≡ 0

-- the text of a position, where it is kept, is that of a term
abbrev pub IsStill : List ℕ → Option Value → Type 0
IsStill text term = 0 < length text → text ≡ term_text (value_or_default term) ++ codes " "

-- a line's parts are in their order, on a page of this length
pub record IsOrdered (line : Line) (size : ℕ) : Type 0 where
  pub subject : line.start ≤ line.subject
  pub predicate : line.subject ≤ line.predicate
  pub object : line.predicate ≤ line.object
  pub end : line.object ≤ line.end
  pub within : line.end ≤ size
