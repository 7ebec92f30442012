-- How deep a term nests.
use Rattle.std.proofs.Common.{ℕ, ◌+◌, ◌*◌, ◌<◌, max, arith}
use Rattle.jl_rows.specs.Written.{Term}

abbrev pub depth : Term → ℕ
depth Term.Unset = 0
depth (Term.Iri i) = 0
depth (Term.Bnode label) = 0
depth (Term.Literal lex e) = 0
depth (Term.Nested s p o) = max (depth s) (max (depth p) (depth o)) + 1
depth Term.Default = 0
depth (Term.Refused k) = 0

-- a part is not as deep as the whole
pub subject_less : (s p o : Term) → 3 * depth s + 2 < 3 * depth (Term.Nested s p o)
subject_less s p o = omega arith

pub predicate_less : (s p o : Term) → 3 * depth p + 2 < 3 * depth (Term.Nested s p o)
predicate_less s p o = omega arith

pub object_less : (s p o : Term) → 3 * depth o + 2 < 3 * depth (Term.Nested s p o)
object_less s p o = omega arith
