-- What a summary keeps of itself while terms are put into it.
use Rattle.std.proofs.Common.{◌≡◌, ◌∙◌, ℕ, ◌≤◌, true, false, List, [], Result, Ok, Err, OnOk, OnErr, sym, subst, arith, Vec, Global}
use Rattle.jl_rows.specs.Written.{Term}
use Rattle.jl_rows.specs.Values.{Position}
use Rattle.jl_state.specs.declared.stop.Stop.{Stop}
use Rattle.jl_sym_laws.specs.RelativeIds as ids
use Rattle.jl_sym_laws.specs.Summaries.{Kept, Left, Need, unit}
use Rattle.jl_sym_laws.specs.Cutting.{IsMade}
use Rattle.jl_sym_laws.specs.Composing.{IsLeftWithin}
use Rattle.jl_sym.specs.declared.id_word.RefWords.{RefWords}
use Rattle.jl_sym.specs.declared.demand.Demand as code
use Rattle.jl_sym.specs.declared.growing.Last.{Last}
use Rattle.jl_sym.specs.declared.growing.Growing.{Growing}
use Rattle.jl_sym.specs.declared.marks.Marks.{Marks}
use Rattle.jl_sym.specs.Earlier.{earlier_in}
use Rattle.jl_sym.specs.Growth.{IsFit}
use Rattle.jl_sym.specs.Held.{HasKept}
use Rattle.jl_sym.specs.Lays.{laid}
use Rattle.jl_sym.specs.Marking.{is_marked, AreMarked, AreAsked}
use Rattle.jl_sym.specs.Seen.{last_seen, demands_seen, growing_seen, HasLast}

-- before the first row
pub none_marked : (marks : Marks) → ((need : Need) → is_marked need marks ≡ false) → AreMarked (earlier_in unit) [] marks
none_marked marks none n d is same le = let both : false ≡ true = sym (none n) ∙ is in cc

pub unit_made : IsMade unit
unit_made =
    let zero : 0 ≤ 0 = omega arith in
    record { timed = record { writes = tt; demands = tt; subject = tt; predicate = tt; object = tt; graph = tt; open_graph = tt }; writes = tt; demands = tt; prefix = zero }

pub at_most : (n : ℕ) → n ≤ n
at_most n = omega arith

pub laid_within : (rows : ℕ) (r : ids.Refs) (t : Term) (before : Left) → IsLeftWithin rows before → IsLeftWithin rows (laid rows r t before)
laid_within rows r Term.Unset before h = h
laid_within rows r (Term.Iri i) before h = at_most rows
laid_within rows r (Term.Bnode label) before h = at_most rows
laid_within rows r (Term.Literal lex e) before h = at_most rows
laid_within rows r (Term.Nested a b c) before h = at_most rows
laid_within rows r Term.Default before h = at_most rows
laid_within rows r (Term.Refused kind) before h = at_most rows

abbrev pub last_at : Kept → Growing → Last
last_at (Kept.LastAt Position.Subject) m = m.subject
last_at (Kept.LastAt Position.Predicate) m = m.predicate
last_at (Kept.LastAt Position.Object) m = m.object
last_at (Kept.LastAt Position.Graph) m = m.graph
last_at Kept.OpenGraph m = m.open_graph

abbrev pub with_last : Kept → Last → Growing → Growing
with_last (Kept.LastAt Position.Subject) l m = record m { subject = l }
with_last (Kept.LastAt Position.Predicate) l m = record m { predicate = l }
with_last (Kept.LastAt Position.Object) l m = record m { object = l }
with_last (Kept.LastAt Position.Graph) l m = record m { graph = l }
with_last Kept.OpenGraph l m = record m { open_graph = l }

module _ (bytes : List ℕ) (old : Growing) (marks marks' : Marks) (fit : IsFit bytes old marks) where
  pub left_at : (x : Kept) → IsLeftWithin old.rows (last_seen bytes (last_at x old))
  left_at (Kept.LastAt Position.Subject) = fit.made.timed.subject
  left_at (Kept.LastAt Position.Predicate) = fit.made.timed.predicate
  left_at (Kept.LastAt Position.Object) = fit.made.timed.object
  left_at (Kept.LastAt Position.Graph) = fit.made.timed.graph
  left_at Kept.OpenGraph = fit.made.timed.open_graph

  held_at : (x : Kept) → HasKept bytes (last_at x old)
  held_at (Kept.LastAt Position.Subject) = fit.held.subject
  held_at (Kept.LastAt Position.Predicate) = fit.held.predicate
  held_at (Kept.LastAt Position.Object) = fit.held.object
  held_at (Kept.LastAt Position.Graph) = fit.held.graph
  held_at Kept.OpenGraph = fit.held.open_graph

  module _ (x : Kept) (left : Last) (r : RefWords) where
    last_kept : (result : Result (Unit {0}) Stop) → OnOk result (HasLast r) → OnErr result ((r ≡ old.ids) × (left ≡ last_at x old)) → HasLast r
    last_kept (Ok _) has same = has
    last_kept (Err stop) has same = subst HasLast (sym same.0) (record { name = fit.name; prefix = fit.made.prefix })

    left_kept : (result : Result (Unit {0}) Stop) (after : Left) → IsLeftWithin old.rows after → OnErr result ((r ≡ old.ids) × (left ≡ last_at x old)) → OnOk result (last_seen bytes left ≡ after) → IsLeftWithin old.rows (last_seen bytes left)
    left_kept (Ok _) after within same is = subst (IsLeftWithin old.rows) (sym is) within
    left_kept (Err stop) after within same is = subst (λ (l : Last). IsLeftWithin old.rows (last_seen bytes l)) (sym same.1) (left_at x)

    held_kept : (result : Result (Unit {0}) Stop) → OnOk result (HasKept bytes left) → OnErr result ((r ≡ old.ids) × (left ≡ last_at x old)) → HasKept bytes left
    held_kept (Ok _) held same = held
    held_kept (Err stop) held same = subst (HasKept bytes) (sym same.1) (held_at x)

  module _ (demands : Vec code.Demand Global) (r : RefWords) (left : Last) (asked : AreAsked (earlier_in (growing_seen bytes old)) (demands_seen demands.items) marks') (last : HasLast r) (within : IsLeftWithin old.rows (last_seen bytes left)) (held : HasKept bytes left) where
    fit_subject : IsFit bytes (with_last (Kept.LastAt Position.Subject) left (record old { demands = demands; ids = r })) marks'
    fit_subject = record {
      made = record {
        timed = record { writes = fit.made.timed.writes; demands = asked.good.within; subject = within; predicate = fit.made.timed.predicate; object = fit.made.timed.object; graph = fit.made.timed.graph; open_graph = fit.made.timed.open_graph };
        writes = fit.made.writes;
        demands = asked.good.made;
        prefix = last.prefix;
      };
      name_entry = fit.name_entry;
      prefix_entry = fit.prefix_entry;
      datatype_entry = fit.datatype_entry;
      name = last.name;
      marked = asked.marked;
      held = record { writes = fit.held.writes; subject = held; predicate = fit.held.predicate; object = fit.held.object; graph = fit.held.graph; open_graph = fit.held.open_graph };
    }

    fit_predicate : IsFit bytes (with_last (Kept.LastAt Position.Predicate) left (record old { demands = demands; ids = r })) marks'
    fit_predicate = record {
      made = record {
        timed = record { writes = fit.made.timed.writes; demands = asked.good.within; subject = fit.made.timed.subject; predicate = within; object = fit.made.timed.object; graph = fit.made.timed.graph; open_graph = fit.made.timed.open_graph };
        writes = fit.made.writes;
        demands = asked.good.made;
        prefix = last.prefix;
      };
      name_entry = fit.name_entry;
      prefix_entry = fit.prefix_entry;
      datatype_entry = fit.datatype_entry;
      name = last.name;
      marked = asked.marked;
      held = record { writes = fit.held.writes; subject = fit.held.subject; predicate = held; object = fit.held.object; graph = fit.held.graph; open_graph = fit.held.open_graph };
    }

    fit_object : IsFit bytes (with_last (Kept.LastAt Position.Object) left (record old { demands = demands; ids = r })) marks'
    fit_object = record {
      made = record {
        timed = record { writes = fit.made.timed.writes; demands = asked.good.within; subject = fit.made.timed.subject; predicate = fit.made.timed.predicate; object = within; graph = fit.made.timed.graph; open_graph = fit.made.timed.open_graph };
        writes = fit.made.writes;
        demands = asked.good.made;
        prefix = last.prefix;
      };
      name_entry = fit.name_entry;
      prefix_entry = fit.prefix_entry;
      datatype_entry = fit.datatype_entry;
      name = last.name;
      marked = asked.marked;
      held = record { writes = fit.held.writes; subject = fit.held.subject; predicate = fit.held.predicate; object = held; graph = fit.held.graph; open_graph = fit.held.open_graph };
    }

    fit_graph : IsFit bytes (with_last (Kept.LastAt Position.Graph) left (record old { demands = demands; ids = r })) marks'
    fit_graph = record {
      made = record {
        timed = record { writes = fit.made.timed.writes; demands = asked.good.within; subject = fit.made.timed.subject; predicate = fit.made.timed.predicate; object = fit.made.timed.object; graph = within; open_graph = fit.made.timed.open_graph };
        writes = fit.made.writes;
        demands = asked.good.made;
        prefix = last.prefix;
      };
      name_entry = fit.name_entry;
      prefix_entry = fit.prefix_entry;
      datatype_entry = fit.datatype_entry;
      name = last.name;
      marked = asked.marked;
      held = record { writes = fit.held.writes; subject = fit.held.subject; predicate = fit.held.predicate; object = fit.held.object; graph = held; open_graph = fit.held.open_graph };
    }

    fit_open_graph : IsFit bytes (with_last Kept.OpenGraph left (record old { demands = demands; ids = r })) marks'
    fit_open_graph = record {
      made = record {
        timed = record { writes = fit.made.timed.writes; demands = asked.good.within; subject = fit.made.timed.subject; predicate = fit.made.timed.predicate; object = fit.made.timed.object; graph = fit.made.timed.graph; open_graph = within };
        writes = fit.made.writes;
        demands = asked.good.made;
        prefix = last.prefix;
      };
      name_entry = fit.name_entry;
      prefix_entry = fit.prefix_entry;
      datatype_entry = fit.datatype_entry;
      name = last.name;
      marked = asked.marked;
      held = record { writes = fit.held.writes; subject = fit.held.subject; predicate = fit.held.predicate; object = fit.held.object; graph = fit.held.graph; open_graph = held };
    }

    fit_with : (x : Kept) → IsFit bytes (with_last x left (record old { demands = demands; ids = r })) marks'
    fit_with (Kept.LastAt Position.Subject) = fit_subject
    fit_with (Kept.LastAt Position.Predicate) = fit_predicate
    fit_with (Kept.LastAt Position.Object) = fit_object
    fit_with (Kept.LastAt Position.Graph) = fit_graph
    fit_with Kept.OpenGraph = fit_open_graph

  -- a thing that is kept was set, or the row is refused
  pub fit_kept : (x : Kept) (left : Last) (demands : Vec code.Demand Global) (r : RefWords) (result : Result (Unit {0}) Stop) (after : Left) → IsLeftWithin old.rows after → AreAsked (earlier_in (growing_seen bytes old)) (demands_seen demands.items) marks' → OnOk result (HasLast r)
      → OnOk result (HasKept bytes left) → OnErr result ((r ≡ old.ids) × (left ≡ last_at x old)) → OnOk result (last_seen bytes left ≡ after) → IsFit bytes (with_last x left (record old { demands = demands; ids = r })) marks'
  fit_kept x left demands r result after within asked has held same is =
      fit_with demands r left asked (last_kept x left r result has same) (left_kept x left r result after within same is) (held_kept x left r result held same) x
