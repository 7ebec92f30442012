use Rattle.std.proofs.Common.{◌≡◌, map, ap, sym, subst}
use Rattle.jl_sym_laws.specs.Summaries.{unit}
use Rattle.jl_sym_laws.specs.Cutting.{IsMade}
use Rattle.jl_sym_laws.specs.Staying.{Settles}
use Rattle.jl_sym.specs.Held.{AreTexts}
use Rattle.jl_sym.specs.Seen.{write_seen, demands_seen}
use Rattle.jl_sym.proofs.FitLemmas.{unit_made}
use Rattle.jl_compose.proofs.Turning.{unit_settles}
use Rattle.jl_compose.proofs.composing.unit.Goals as goal

pub returns-clause-lawful : goal.returns-clause-lawful
returns-clause-lawful c o bytes =
    let is : _ ≡ unit = λ i. record unit { writes = ap (map (write_seen bytes)) c.new.ensures.items i; demands = ap demands_seen c.new-2.ensures.items i } in
    record {
      made = subst IsMade (sym is) unit_made;
      settles = subst (Settles o) (sym is) (unit_settles o);
      held = record { writes = subst (AreTexts bytes) (sym c.new.ensures.items) tt; subject = tt; predicate = tt; object = tt; graph = tt; open_graph = tt };
    }
