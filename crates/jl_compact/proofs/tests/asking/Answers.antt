use Rattle.std.proofs.Common.{◌≡◌, [], List, sym, subst}
use Rattle.jl_sym_laws.specs.Cutting.{IsMade}
use Rattle.jl_sym_laws.specs.Staying.{Settles}
use Rattle.jl_sym.specs.declared.summary.Write.{Write}
use Rattle.jl_sym.specs.Seen.{demands_seen}
use Rattle.jl_sym_laws.specs.Summaries.{Summary}
use Rattle.jl_compact.proofs.Asking.{asking, asking_settles, asking_made}
use Rattle.jl_compact.proofs.Lists.{no_texts}
use Rattle.jl_compact.specs.Parts.{writes_seen}
use Rattle.jl_compact.proofs.tests.asking.Goals as goal

pub returns : goal.returns
returns c = λ o bytes.
    let ds = demands_seen c.args.demands.items in
    let none : [] ≡ c.new.result.items = sym c.new.ensures.items in
    let of : (ws : List Write) → Summary = λ ws. record (asking 4 ds) { writes = writes_seen bytes ws } in
    record {
      made = subst (λ (ws : List Write). IsMade (of ws)) none (asking_made 4 ds c.requires.made c.requires.within);
      settles = subst (λ (ws : List Write). Settles o (of ws)) none (asking_settles o 4 ds);
      held = record { writes = no_texts bytes c.new.result.items c.new.ensures.items; subject = tt; predicate = tt; object = tt; graph = tt; open_graph = tt };
    }
