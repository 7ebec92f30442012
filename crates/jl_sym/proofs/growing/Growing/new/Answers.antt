use Rattle.std.proofs.Common.{◌≡◌, ◌≤◌, List, [], map, sym, ap, subst, arith}
use Rattle.jl_rows.specs.Decoder.{most_entries}
use Rattle.jl_sym_laws.specs.RelativeIds.{Refs}
use Rattle.jl_sym_laws.specs.Summaries.{Demand, Written, unit}
use Rattle.jl_sym_laws.specs.Cutting.{IsMade}
use Rattle.jl_sym.specs.Held.{AreTexts}
use Rattle.jl_sym.specs.Marking.{AreMarked}
use Rattle.jl_sym.specs.Seen.{write_seen, demands_seen, IsSmallId}
use Rattle.jl_sym.proofs.FitLemmas.{none_marked, unit_made}
use Rattle.jl_sym.proofs.growing.Growing.new.Goals as goal

pub returns-clause-fit : goal.returns-clause-fit
returns-clause-fit c bytes marks none =
    let ws = ap (map (write_seen bytes)) c.list_for.ensures in
    let ds = ap demands_seen c.list_for-2.ensures in
    let is : _ ≡ unit = λ i. record unit { writes = ws i; demands = ds i; ids = c.incoming.ensures i } in
    record {
      made = subst IsMade (sym is) unit_made;
      name_entry = omega arith;
      prefix_entry = omega arith;
      datatype_entry = omega arith;
      name = subst IsSmallId (sym (ap (λ (r : Refs). r.name) c.incoming.ensures)) (let small : 0 ≤ most_entries = omega arith in small);
      marked = subst (λ (xs : List Demand). AreMarked (record { rows = 0; writes = map (write_seen bytes) c.list_for.result.items }) xs marks) (sym ds)
          (subst (λ (xs : List Written). AreMarked (record { rows = 0; writes = xs }) [] marks) (sym ws) (none_marked marks none));
      held = record { writes = subst (AreTexts bytes) (sym c.list_for.ensures) tt; subject = tt; predicate = tt; object = tt; graph = tt; open_graph = tt };
    }
