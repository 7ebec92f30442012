-- What a decoding keeps, and what a row leaves of the last terms.
use Rattle.std.specs.Prelude.{◌≡◌, ℕ, List}
use Rattle.jl_rows.specs.Written.{Row, Term}
use Rattle.jl_state.specs.Lawful.{maybe_value, IsLawful}
use Rattle.jl_lines.specs.declared.decoding.Decoding.{Decoding}
use Rattle.jl_lines.specs.Pages.{IsStill}

-- The state is lawful, and what the page keeps of its last line is what the state's last terms have.
pub record Keeps (bytes : List ℕ) (d : Decoding) : Type 0 where
  pub lawful : IsLawful bytes d.state
  pub subject : IsStill d.page.subject (maybe_value bytes d.state.subject)
  pub predicate : IsStill d.page.predicate (maybe_value bytes d.state.predicate)
  pub object : IsStill d.page.object (maybe_value bytes d.state.object)

-- the row, if it states anything, repeats the last subject
abbrev pub RepeatsSubject : Row → Type 0
RepeatsSubject (Row.Triple s p o) = s ≡ Term.Unset
RepeatsSubject (Row.Quad s p o g) = s ≡ Term.Unset
RepeatsSubject _ = Unit {0}

-- likewise the last predicate
abbrev pub RepeatsPredicate : Row → Type 0
RepeatsPredicate (Row.Triple s p o) = p ≡ Term.Unset
RepeatsPredicate (Row.Quad s p o g) = p ≡ Term.Unset
RepeatsPredicate _ = Unit {0}

-- likewise the last object
abbrev pub RepeatsObject : Row → Type 0
RepeatsObject (Row.Triple s p o) = o ≡ Term.Unset
RepeatsObject (Row.Quad s p o g) = o ≡ Term.Unset
RepeatsObject _ = Unit {0}
