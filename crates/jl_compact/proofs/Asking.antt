-- A summary that only asks leaves each state as it is.
use Rattle.std.proofs.Common.{◌≡◌, ℕ, List, [], Option, Some, None, Ok, sym, subst, ◌∙◌, arith}
use Rattle.jl_base.specs.declared.place.Fault.{Fault}
use Rattle.jl_rows.specs.Written.{StreamOptions}
use Rattle.jl_state.specs.Running.{settled}
use Rattle.jl_state.specs.States.{State}
use Rattle.jl_sym_laws.specs.Acting.{played, unmet, state_after}
use Rattle.jl_sym_laws.specs.Composing.{AreWithin}
use Rattle.jl_sym_laws.specs.Cutting.{AreMadeDemands, IsMade}
use Rattle.jl_sym_laws.specs.Staying.{IsSettled, Settles}
use Rattle.jl_sym_laws.specs.Summaries.{Demand, Summary, unit}
use Rattle.jl_sym_laws.proofs.Quiet.{no_ids}

abbrev pub asking : ℕ → List Demand → Summary
asking rows ds = record unit { rows = rows; demands = ds }

leaves : (rows : ℕ) (ds : List Demand) (s : State) → state_after (asking rows ds) s ≡ s
unfolding played
leaves rows ds s = no_ids s

answered : (f : Option Fault) (s t : State) → settled f s ≡ Ok t → s ≡ t
answered None s t e = cc
answered (Some fault) s t e = cc

pub asking_settles : (o : StreamOptions) (rows : ℕ) (ds : List Demand) → Settles o (asking rows ds)
asking_settles o rows ds s t before e =
    subst (IsSettled o) (sym (leaves rows ds s) ∙ answered (unmet s [] ds) (state_after (asking rows ds) s) t e) before

pub asking_made : (rows : ℕ) (ds : List Demand) → AreMadeDemands 0 ds → AreWithin rows ds → IsMade (asking rows ds)
asking_made rows ds made within = record {
  timed = record { writes = tt; demands = within; subject = tt; predicate = tt; object = tt; graph = tt; open_graph = tt };
  writes = tt;
  demands = made;
  prefix = omega arith;
}
