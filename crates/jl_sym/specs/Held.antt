-- Where a summary's texts lie: inside the bytes, with what is known of how they are written.
use Rattle.std.specs.Prelude.{ℕ, List, [], ◌∷◌}
use Rattle.jl_rows.specs.Seen.{HasTerm}
use Rattle.jl_state.specs.Extents.{IsFilled, IsSound}
use Rattle.jl_sym.specs.declared.summary.Write.{Write}
use Rattle.jl_sym.specs.declared.summary.Left.{Left}
use Rattle.jl_sym.specs.declared.summary.Left.TheVariants as lefts
use Rattle.jl_sym.specs.declared.summary.Summary.{Summary}
use Rattle.jl_sym.specs.declared.growing.Last.{Last}
use Rattle.jl_sym.specs.declared.growing.Last.TheVariants as lasts
use Rattle.jl_sym.specs.declared.growing.Growing.{Growing}

abbrev pub AreTexts : List ℕ → List Write → Type 0
AreTexts bytes [] = Unit {0}
AreTexts bytes (w ∷ ws) = IsSound bytes w.text × IsFilled w.text × AreTexts bytes ws

abbrev pub HasLeft : List ℕ → Left → Type 0
HasLeft bytes lefts.Incoming = Unit {0}
HasLeft bytes lefts.Cleared = Unit {0}
HasLeft bytes (lefts.Set moment before term) = HasTerm bytes term

pub record HasSummary (bytes : List ℕ) (m : Summary) : Type 0 where
  pub writes : AreTexts bytes m.writes.items
  pub subject : HasLeft bytes m.subject
  pub predicate : HasLeft bytes m.predicate
  pub object : HasLeft bytes m.object
  pub graph : HasLeft bytes m.graph
  pub open_graph : HasLeft bytes m.open_graph

-- the same of one that is being made
abbrev pub HasKept : List ℕ → Last → Type 0
HasKept bytes lasts.Incoming = Unit {0}
HasKept bytes lasts.Cleared = Unit {0}
HasKept bytes (lasts.Set moment before term) = HasTerm bytes term.now

pub record HasGrowing (bytes : List ℕ) (m : Growing) : Type 0 where
  pub writes : AreTexts bytes m.writes.items
  pub subject : HasKept bytes m.subject
  pub predicate : HasKept bytes m.predicate
  pub object : HasKept bytes m.object
  pub graph : HasKept bytes m.graph
  pub open_graph : HasKept bytes m.open_graph
