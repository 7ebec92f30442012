-- A run follows the decoder, row by row.
use Rattle.std.proofs.Common.{◌≡◌, List, [], ◌∷◌, Option, None, Result, Ok, Err, refl, ap, sym, ◌∙◌}
use Rattle.jl_base.specs.Results.{Reading, followed}
use Rattle.jl_base.specs.Terms.{Item}
use Rattle.jl_base.specs.declared.kind.Kind.{Kind}
use Rattle.jl_base.specs.declared.place.Place.{Place}
use Rattle.jl_base.specs.declared.place.Fault.{Fault}
use Rattle.jl_rows.specs.Written.{StreamOptions, Row}
use Rattle.jl_rows.specs.Files.{Placed}
use Rattle.jl_rows.specs.History.{History}
use Rattle.jl_rows.specs.Decoder.{meaning, led_at, decoded}
use Rattle.jl_state.specs.States.{State}
use Rattle.jl_state.specs.Steps.{Stepped, step}
use Rattle.jl_state.specs.Stands.{Stands, Answers}
use Rattle.jl_state.specs.Running.{stepped, run, RunsDecode}
use Rattle.jl_state.proofs.StepLaw.{steps_follow}

-- one row, where what follows agrees
one_row : (o : StreamOptions) (r : Row) (H : History) (place : Place) (x : Stepped) (said : Result (List Item) Kind) (f : State → Reading Item Fault) (next : Reading Item Fault)
    → Answers o r H x said → ((t : State) → Stands o t (r ∷ H) → f t ≡ next) → stepped place x f ≡ led_at place said next
one_row o r H place (Ok n) said f next h same = ap (followed n.1 None) (same n.0 h.1) ∙ ap (λ (s : Result (List Item) Kind). led_at place s next) (sym h.0)
one_row o r H place (Err k) said f next h same = ap (λ (s : Result (List Item) Kind). led_at place s next) (sym h)

over_rows : (o : StreamOptions) (s : State) (H : History) (rows : List Placed) (fault : Option Fault) → Stands o s H → run o s rows fault ≡ decoded o H rows fault
unfolding run decoded
over_rows o s H [] fault h = refl
over_rows o s H (r ∷ rs) fault h =
    one_row o r.row H r.place (step o r.row s) (meaning o r.row H) (λ t. run o t rs fault) (decoded o (r.row ∷ H) rs fault) (steps_follow o s H r.row h) (λ t stands. over_rows o t (r.row ∷ H) rs fault stands)

pub runs_decode : RunsDecode
runs_decode o s H R h = over_rows o s H R.items R.fault h
