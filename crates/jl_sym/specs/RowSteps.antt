-- What a row's small steps do to a state, one after another, with its terms as they are checked at their positions.
use Rattle.std.specs.Prelude.{Result}
use Rattle.jl_base.specs.Results.{◌>>=◌}
use Rattle.jl_base.specs.declared.kind.Kind.{Kind}
use Rattle.jl_rows.specs.Written.{Ids, StreamOptions, Term}
use Rattle.jl_rows.specs.Values.{Position}
use Rattle.jl_state.specs.States.{State}
use Rattle.jl_sym_laws.specs.SmallSteps.{Small, small_step}
use Rattle.jl_sym.specs.Checked.{checked}

abbrev pub Step : Type 0
Step = State → Result State Kind

abbrev pub puts : StreamOptions → Position → Term → Step
puts o x t = small_step (Small.Places x (checked o x t))

abbrev pub last_step : Step
last_step = small_step Small.Ends

abbrev pub object_on : StreamOptions → Term → Step
object_on o z t = puts o Position.Object z t >>= last_step

abbrev pub predicate_on : StreamOptions → Term → Term → Step
predicate_on o y z t = puts o Position.Predicate y t >>= object_on o z

abbrev pub three_on : StreamOptions → Term → Term → Term → Step
three_on o x y z t = puts o Position.Subject x t >>= predicate_on o y z

abbrev pub inside_on : StreamOptions → Term → Term → Term → Step
inside_on o x y z t = small_step Small.IsInGraph t >>= three_on o x y z

abbrev pub graph_on : StreamOptions → Term → Step
graph_on o w t = puts o Position.Graph w t >>= last_step

abbrev pub object_then : StreamOptions → Term → Term → Step
object_then o z w t = puts o Position.Object z t >>= graph_on o w

abbrev pub predicate_then : StreamOptions → Term → Term → Term → Step
predicate_then o y z w t = puts o Position.Predicate y t >>= object_then o z w

abbrev pub four_on : StreamOptions → Term → Term → Term → Term → Step
four_on o x y z w t = puts o Position.Subject x t >>= predicate_then o y z w

abbrev pub start_on : StreamOptions → Term → Step
start_on o g t = small_step (Small.Opens (checked o Position.Graph g)) t >>= last_step

abbrev pub end_on : Step
end_on t = small_step Small.Closes t >>= last_step

abbrev pub namespace_on : Ids → Step
namespace_on i t = small_step (Small.Reads i) t >>= last_step
