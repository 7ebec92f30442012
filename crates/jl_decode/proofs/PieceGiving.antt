-- How pieces are given to a sink, and counted.
use Rattle.std.proofs.Common.{◌≡◌, ℕ, ◌+◌, ◌≤◌, List, [], ◌∷◌, ◌++◌, length, Some, Ok, Err, refl, sym, subst, ◌∙◌, append-nil, arith}
use Rattle.jl_base.specs.Results.{Reading}
use Rattle.jl_base.specs.Terms.{Item}
use Rattle.jl_base.specs.Sinks.{Adds, AddsFront}
use Rattle.jl_base.proofs.SinkLemmas.{AddsFront-failed, AddsFront-then}
use Rattle.jl_base.specs.declared.place.Fault.{Fault}
use Rattle.jl_drive.specs.declared.piece.Piece.{Piece}
use Rattle.jl_lines.specs.Counts.{namespaces, statements}
use Rattle.jl_lines.specs.Giving.{Breaks, Gives, Outlet, Passes, fails}
use Rattle.jl_lines.specs.Going.{Outcome, outcome_of}
use Rattle.jl_lines.specs.declared.decoding.Counts.{Counts}
use Rattle.jl_lines.specs.declared.giving.Broken.{Broken}
use Rattle.jl_lines.specs.declared.giving.Broken.TheVariants as broken
use Rattle.jl_decode.specs.Pieces.{both_counted, counts_with}
use Rattle.jl_decode.specs.declared.piece.Written.{Written}

-- counts only rise
pub counts_rise : (ps : List (Piece Written)) (c : Counts) → (c.statements ≤ (counts_with c ps).statements) × (c.namespaces ≤ (counts_with c ps).namespaces)
counts_rise [] c = (omega arith, omega arith)
counts_rise (p ∷ ps) c =
    let rest = counts_rise ps (both_counted c p.made.counts) in
    (omega (arith, rest.0), omega (arith, rest.1))

-- each item is of one sort
pub sorts_few : (items : List Item) → statements items + namespaces items ≤ length items
sorts_few [] = omega arith
sorts_few (Item.Triple s p o ∷ items) = omega (arith, sorts_few items)
sorts_few (Item.Quad s p o g ∷ items) = omega (arith, sorts_few items)
sorts_few (Item.Namespace name iri ∷ items) = omega (arith, sorts_few items)

-- some lines were given, and the sink failed at the next ones
pub gives_fails : (all given lines more : List ℕ) (k k' k'' : Outlet) (why : Broken) → all ≡ given ++ (lines ++ more) → Adds k.held k'.held given → k'.faults ≡ k.faults → Gives lines k' k'' (Err why) → Gives all k k'' (Err why)
gives_fails all given lines more k k' k'' why split adds steady gave = (
  gave.0,
  (let risen = gave.1.0 in omega (arith, risen, steady), let later = gave.1.1 in omega (arith, later, steady)),
  subst (λ (xs : List ℕ). AddsFront k.held k''.held xs (fails why)) (sym split)
      (AddsFront-then k.held k'.held k''.held given (lines ++ more) (fails why) adds (AddsFront-failed k'.held k''.held lines more why why gave.2)),
)

-- lines that come first were given
pub passes_lines : (writes : Item → List ℕ) (l : List ℕ) (c : Counts) (said : Reading Item Fault) (k k' : Outlet) → Gives l k k' (Ok tt) → Passes (outcome_of writes l c said) k k' (outcome_of writes [] c said)
passes_lines writes l c said k k' gave = record { given = l; adds = gave.0; steady = gave.1; lines = refl; counts = refl; fault = refl }

-- all lines before a fault were given
pub breaks_lines : (said : Outcome) (l : List ℕ) (k k' : Outlet) (f : Fault) → said.lines ≡ l → said.fault ≡ Some f → Gives l k k' (Ok tt) → Breaks said k k' (broken.Malformed f)
breaks_lines said l k k' f lines fault gave = record {
  given = l;
  left = [];
  adds = gave.0;
  lines = lines ∙ sym (append-nil l);
  cause = (fault, refl, gave.1);
}
