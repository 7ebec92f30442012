-- Terms at their positions, under the strict profile or not; and which rows have a triple term.
use Rattle.std.specs.Prelude.{◌≡◌, Bool, true, false, not, ◌&&◌, ◌||◌, Result, Ok, Err, if◌then◌else◌}
use Rattle.jl_base.specs.declared.kind.Kind.{Kind}
use Rattle.jl_base.specs.declared.kind.Kind.TheVariants.{NotPlain}
use Rattle.jl_rows.specs.Written.{Term, StreamOptions, Row}
use Rattle.jl_rows.specs.Values.{Position}
use Rattle.jl_rows.specs.Decoder.{guarded}
use Rattle.jl_state.specs.declared.position.Position as code
use Rattle.jl_state.specs.declared.position.Position.TheVariants as names

-- a position by the code's name
abbrev pub position_of : code.Position → Position
position_of names.Subject = Position.Subject
position_of names.Predicate = Position.Predicate
position_of names.Object = Position.Object
position_of names.Graph = Position.Graph

-- a term as it is checked at a position
abbrev pub under : Bool → StreamOptions → Position → Term → Term
under strict o x t = if strict then guarded o x t else t

-- a row with each of its terms as it is checked at its position
abbrev pub row_under : Bool → StreamOptions → Row → Row
row_under strict o (Row.Triple s p ob) = Row.Triple (under strict o Position.Subject s) (under strict o Position.Predicate p) (under strict o Position.Object ob)
row_under strict o (Row.Quad s p ob g) = Row.Quad (under strict o Position.Subject s) (under strict o Position.Predicate p) (under strict o Position.Object ob) (under strict o Position.Graph g)
row_under strict o (Row.GraphStart g) = Row.GraphStart (under strict o Position.Graph g)
row_under strict o r = r

-- a term that may stand where it does: in a triple term each one is still to be checked at its own position
abbrev pub inner_under : Bool → StreamOptions → Term → Term
inner_under strict o (Term.Nested a b c) = Term.Nested (under strict o Position.Subject a) (under strict o Position.Predicate b) (under strict o Position.Object c)
inner_under strict o t = t

-- whether a term may stand at a position
abbrev pub MayStand : Bool → StreamOptions → Position → Term → Result (Unit {0}) Kind → Type 0
MayStand strict o x t (Ok _) = under strict o x t ≡ inner_under strict o t
MayStand strict o x t (Err kind) = under strict o x t ≡ Term.Refused kind

-- whether it may, at a position that is a generalized one for it or isn't
abbrev pub IsPlain : Bool → Bool → Result (Unit {0}) Kind → Type 0
IsPlain generalized here (Ok _) = (not generalized && here) ≡ false
IsPlain generalized here (Err kind) = ((not generalized && here) ≡ true) × (kind ≡ NotPlain)

abbrev pub is_triple_term : Term → Bool
is_triple_term (Term.Nested s p o) = true
is_triple_term _ = false

-- one of a row's terms is a triple term
abbrev pub has_triple_term : Row → Bool
has_triple_term (Row.Triple s p o) = is_triple_term s || (is_triple_term p || is_triple_term o)
has_triple_term (Row.Quad s p o g) = is_triple_term s || (is_triple_term p || (is_triple_term o || is_triple_term g))
has_triple_term (Row.GraphStart g) = is_triple_term g
has_triple_term _ = false
