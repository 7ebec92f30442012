-- The parts of a summary that a change of its lists leaves alone.
use Rattle.std.specs.Prelude.{◌≡◌, ℕ, List, map}
use Rattle.jl_sym_laws.specs.Summaries as sums
use Rattle.jl_sym.specs.declared.summary.Write.{Write}
use Rattle.jl_sym.specs.declared.summary.Summary.{Summary}
use Rattle.jl_sym.specs.Seen.{write_seen}

abbrev pub writes_seen : List ℕ → List Write → List sums.Written
writes_seen bytes ws = map (write_seen bytes) ws

-- what is left of the things that are kept
pub record KeepsLefts (old new : Summary) : Type 0 where
  pub subject : new.subject ≡ old.subject
  pub predicate : new.predicate ≡ old.predicate
  pub object : new.object ≡ old.object
  pub graph : new.graph ≡ old.graph
  pub open_graph : new.open_graph ≡ old.open_graph
