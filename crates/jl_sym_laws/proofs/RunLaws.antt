-- The summaries of rows, of readings and of two readings, one after the other.
use Rattle.std.proofs.Common.{◌≡◌, List, [], ◌∷◌, ◌++◌, Option, Some, None, Result, Ok, Err, refl, ap, sym, ◌∙◌, ◌≤◌, arith}
use Rattle.jl_base.specs.Results.{◌>>=◌, Reading, followed, refused}
use Rattle.jl_base.specs.Terms.{Item}
use Rattle.jl_base.specs.declared.place.Place.{Place}
use Rattle.jl_base.specs.declared.place.Fault.{Fault}
use Rattle.jl_rows.specs.Written.{StreamOptions}
use Rattle.jl_rows.specs.Files.{Placed}
use Rattle.jl_state.specs.States.{State}
use Rattle.jl_state.specs.Steps.{Stepped, step}
use Rattle.jl_state.specs.Running.{stepped, run, settled, at_place, state_of, after_rows, after_reading}
use Rattle.jl_sym_laws.specs.Summaries.{Summary, unit}
use Rattle.jl_sym_laws.specs.Acting.{unmet, act}
use Rattle.jl_sym_laws.specs.Composing.{composed, Timed}
use Rattle.jl_sym_laws.specs.Runs.{of_row, extended, never, ended}
use Rattle.jl_sym_laws.specs.Laws.{AfterIsRun, UnitDoesNothing, UnitBefore, UnitAfter, GroupsAlike, ReadingsSum, ReadingsTimed, JoinedSum, RowSums, FaultSums}
use Rattle.jl_sym_laws.proofs.Composition.{composes}
use Rattle.jl_sym_laws.proofs.Times.{stays_timed}
use Rattle.jl_sym_laws.proofs.SmallLaws.{unit_timed}
use Rattle.jl_sym_laws.proofs.RowLaws.{unit_acts, row_timed, rows_sum}

abbrev pub Led : Type 0
Led = Result State Fault

bind_assoc : (r : Led) (f g : State → Led) → ((r >>= f) >>= g) ≡ (r >>= λ t. f t >>= g)
bind_assoc (Ok t) f g = refl
bind_assoc (Err e) f g = refl

bind_ext : (r : Led) (f g : State → Led) → ((t : State) → f t ≡ g t) → (r >>= f) ≡ (r >>= g)
bind_ext (Ok t) f g h = h t
bind_ext (Err e) f g h = refl

bind_ok : (r : Led) → (r >>= λ t. Ok t) ≡ r
bind_ok (Ok t) = refl
bind_ok (Err e) = refl

pub unit_does_nothing : UnitDoesNothing
unit_does_nothing s = unit_acts s

pub unit_before : UnitBefore
unit_before a s = composes unit a s unit_timed ∙ ap (λ (r : Led). r >>= λ t. act a t) (unit_acts s)

pub unit_after : UnitAfter
unit_after a s h = composes a unit s h ∙ bind_ext (act a s) (λ t. act unit t) (λ t. Ok t) unit_acts ∙ bind_ok (act a s)

pub groups_alike : GroupsAlike
groups_alike a b c s h k =
    composes (composed a b) c s (stays_timed a b h k)
    ∙ ap (λ (r : Led). r >>= λ t. act c t) (composes a b s h)
    ∙ bind_assoc (act a s) (λ t. act b t) (λ t. act c t)
    ∙ bind_ext (act a s) (λ t. act b t >>= λ u. act c u) (λ t. act (composed b c) t) (λ t. sym (composes b c t k))
    ∙ sym (composes a (composed b c) s h)

-- rows after a summary
extended_timed : (o : StreamOptions) (m : Summary) (rs : List Placed) → Timed m → Timed (extended o m rs)
unfolding extended
extended_timed o m [] h = h
extended_timed o m (r ∷ rs) h = extended_timed o (composed m (of_row o r)) rs (stays_timed m (of_row o r) h (row_timed o r))

extended_sum : (o : StreamOptions) (m : Summary) (rs : List Placed) (s : State) → Timed m → act (extended o m rs) s ≡ (act m s >>= λ t. after_rows o t rs None)
unfolding extended after_rows
extended_sum o m [] s h = sym (bind_ok (act m s))
extended_sum o m (r ∷ rs) s h =
    extended_sum o (composed m (of_row o r)) rs s (stays_timed m (of_row o r) h (row_timed o r))
    ∙ ap (λ (x : Led). x >>= λ t. after_rows o t rs None) (composes m (of_row o r) s h)
    ∙ bind_assoc (act m s) (λ t. act (of_row o r) t) (λ t. after_rows o t rs None)
    ∙ bind_ext (act m s) (λ t. act (of_row o r) t >>= λ u. after_rows o u rs None) (λ t. at_place r.place (state_of (step o r.row t)) >>= λ u. after_rows o u rs None)
    (λ t. ap (λ (x : Led). x >>= λ u. after_rows o u rs None) (rows_sum o r t))

-- the fault that ends a reading comes after its rows
after_ends : (o : StreamOptions) (s : State) (rs : List Placed) (fault : Option Fault) → after_rows o s rs fault ≡ (after_rows o s rs None >>= λ t. settled fault t)
unfolding after_rows
after_ends o s [] fault = refl
after_ends o s (r ∷ rs) fault =
    bind_ext (at_place r.place (state_of (step o r.row s))) (λ t. after_rows o t rs fault) (λ t. after_rows o t rs None >>= λ u. settled fault u) (λ t. after_ends o t rs fault)
    ∙ sym (bind_assoc (at_place r.place (state_of (step o r.row s))) (λ t. after_rows o t rs None) (λ u. settled fault u))

pub never_timed : (fault : Fault) → Timed (never fault)
never_timed fault = let at_once : 0 ≤ 0 = omega arith in record { writes = tt; demands = (at_once, tt); subject = tt; predicate = tt; object = tt; graph = tt; open_graph = tt }

ended_timed : (m : Summary) (fault : Option Fault) → Timed m → Timed (ended m fault)
ended_timed m None h = h
ended_timed m (Some fault) h = stays_timed m (never fault) h (never_timed fault)

ended_sum : (m : Summary) (fault : Option Fault) (s : State) → Timed m → act (ended m fault) s ≡ (act m s >>= λ t. settled fault t)
unfolding unmet
ended_sum m None s h = sym (bind_ok (act m s))
ended_sum m (Some fault) s h = composes m (never fault) s h

pub readings_timed : ReadingsTimed
readings_timed o R = ended_timed (extended o unit R.items) R.fault (extended_timed o unit R.items unit_timed)

pub readings_sum : ReadingsSum
readings_sum o R s =
    ended_sum (extended o unit R.items) R.fault s (extended_timed o unit R.items unit_timed)
    ∙ ap (λ (x : Led). x >>= λ t. settled R.fault t) (extended_sum o unit R.items s unit_timed ∙ ap (λ (x : Led). x >>= λ t. after_rows o t R.items None) (unit_acts s))
    ∙ sym (after_ends o s R.items R.fault)

-- two readings
after_both : (o : StreamOptions) (s : State) (xs ys : List Placed) (fault : Option Fault) → after_rows o s (xs ++ ys) fault ≡ (after_rows o s xs None >>= λ t. after_rows o t ys fault)
unfolding after_rows
after_both o s [] ys fault = refl
after_both o s (r ∷ rs) ys fault =
    bind_ext (at_place r.place (state_of (step o r.row s))) (λ t. after_rows o t (rs ++ ys) fault) (λ t. after_rows o t rs None >>= λ u. after_rows o u ys fault) (λ t. after_both o t rs ys fault)
    ∙ sym (bind_assoc (at_place r.place (state_of (step o r.row s))) (λ t. after_rows o t rs None) (λ u. after_rows o u ys fault))

after_joined : (o : StreamOptions) (s : State) (xs : List Placed) (fault : Option Fault) (Q : Reading Placed Fault)
    → after_reading o s (followed xs fault Q) ≡ (after_rows o s xs fault >>= λ t. after_reading o t Q)
after_joined o s xs None Q = after_both o s xs Q.items Q.fault
after_joined o s xs (Some e) Q =
    after_ends o s xs (Some e)
    ∙ sym (ap (λ (x : Led). x >>= λ t. after_reading o t Q) (after_ends o s xs (Some e)) ∙ bind_assoc (after_rows o s xs None) (λ t. Err e) (λ t. after_reading o t Q))

pub joined_sum : JoinedSum
joined_sum o R Q a b h x y s =
    composes a b s h
    ∙ ap (λ (r : Led). r >>= λ t. act b t) (x s)
    ∙ bind_ext (after_reading o s R) (λ t. act b t) (λ t. after_reading o t Q) y
    ∙ sym (after_joined o s R.items R.fault Q)

-- the decoder's own run, of which only the fault is told
step_fault : (place : Place) (x : Stepped) (f : State → Reading Item Fault) (g : State → Led) → ((t : State) → (f t).fault ≡ refused (g t))
    → (stepped place x f).fault ≡ refused (at_place place (state_of x) >>= g)
step_fault place (Ok next) f g h = h next.0
step_fault place (Err kind) f g h = refl

no_step_fault : (fault : Option Fault) (s : State) → fault ≡ refused (settled fault s)
no_step_fault None s = refl
no_step_fault (Some e) s = refl

run_fault : (o : StreamOptions) (s : State) (rs : List Placed) (fault : Option Fault) → (run o s rs fault).fault ≡ refused (after_rows o s rs fault)
unfolding run after_rows
run_fault o s [] fault = no_step_fault fault s
run_fault o s (r ∷ rs) fault = step_fault r.place (step o r.row s) (λ t. run o t rs fault) (λ t. after_rows o t rs fault) (λ t. run_fault o t rs fault)

pub after_is_run : AfterIsRun
after_is_run o s R = run_fault o s R.items R.fault

-- one row, and a fault alone
pub row_sums : RowSums
unfolding after_rows
row_sums o r s = rows_sum o r s ∙ sym (bind_ok (at_place r.place (state_of (step o r.row s))))

pub fault_sums : FaultSums
unfolding unmet after_rows
fault_sums o fault s = refl
