-- What is resolved after some rows is what the decoder says after them.
use Rattle.std.proofs.Common.{◌≡◌, ◌∙◌, ℕ, List, Result, Ok, Err, IfOk, ap}
use Rattle.jl_base.specs.Results.{Reading}
use Rattle.jl_base.specs.declared.place.Fault.{Fault}
use Rattle.jl_rows.specs.Decoder.{decoded_on}
use Rattle.jl_rows.specs.Files.{Placed}
use Rattle.jl_rows.specs.History.{History}
use Rattle.jl_rows.specs.Seen.{options_seen}
use Rattle.jl_rows.specs.declared.options.Options.{Options}
use Rattle.jl_state.specs.Lawful.{state_seen}
use Rattle.jl_state.specs.Running.{run_on}
use Rattle.jl_state.specs.Stands.{Stands}
use Rattle.jl_state.specs.States as states
use Rattle.jl_state.specs.declared.state.State.{State}
use Rattle.jl_state.proofs.RunLaw.{runs_decode}
use Rattle.jl_resolve.specs.declared.resolving.Resolved.{Resolved}
use Rattle.jl_resolve.specs.Ends.{said_of}

-- an equal state runs over equal rows alike
runs_alike : (bytes here : List ℕ) (state copy : State) (R Q : Reading Placed Fault) → here ≡ bytes → copy.options ≡ state.options → state_seen bytes copy ≡ state_seen bytes state → Q ≡ R
    → run_on (options_seen here copy.options) (state_seen here copy) Q ≡ run_on (options_seen bytes state.options) (state_seen bytes state) R
runs_alike bytes here state copy R Q same options seen read =
    ap (λ (b : List ℕ). run_on (options_seen b copy.options) (state_seen b copy) Q) same
    ∙ ap (λ (o : Options). run_on (options_seen bytes o) (state_seen bytes copy) Q) options
    ∙ ap (λ (s : states.State). run_on (options_seen bytes state.options) s Q) seen
    ∙ ap (run_on (options_seen bytes state.options) (state_seen bytes state)) read

-- and what runs from a copy of a state decodes what follows the rows that the state stands for
pub copy_decodes : {E : Type 0} (bytes here : List ℕ) (state copy : State) (R Q : Reading Placed Fault) (result : Result Resolved E) → here ≡ bytes → copy.options ≡ state.options → state_seen bytes copy ≡ state_seen bytes state → Q ≡ R
    → IfOk result (λ r. said_of r ≡ run_on (options_seen here copy.options) (state_seen here copy) Q)
    → IfOk result (λ r. (H : History) → Stands (options_seen bytes state.options) (state_seen bytes state) H → said_of r ≡ decoded_on (options_seen bytes state.options) H R)
copy_decodes bytes here state copy R Q (Ok r) same options seen read said = λ H stands. said ∙ runs_alike bytes here state copy R Q same options seen read ∙ runs_decode (options_seen bytes state.options) (state_seen bytes state) H R stands
copy_decodes bytes here state copy R Q (Err e) same options seen read said = said
