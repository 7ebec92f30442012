-- A run over some rows, and then over others.
use Rattle.std.proofs.Common.{◌≡◌, List, [], ◌∷◌, ◌++◌, Option, Some, None, Result, Ok, Err, refl, ap, sym, ◌∙◌, append_assoc}
use Rattle.jl_base.specs.Results.{◌>>=◌, Reading, followed, joined}
use Rattle.jl_base.specs.Terms.{Item}
use Rattle.jl_base.specs.declared.place.Fault.{Fault}
use Rattle.jl_base.specs.declared.place.Place.{Place}
use Rattle.jl_rows.specs.Written.{StreamOptions}
use Rattle.jl_rows.specs.Files.{Placed}
use Rattle.jl_state.specs.States.{State}
use Rattle.jl_state.specs.Steps.{Stepped, step}
use Rattle.jl_state.specs.Running.{after_reading, after_rows, at_place, run, run_on, settled, state_of, stepped}

-- one row, where what follows it goes on
row_goes : (place : Place) (x : Stepped) (f g : State → Reading Item Fault) (h : State → Result State Fault) (next : Reading Item Fault) (t : State) → ((u : State) → h u ≡ Ok t → f u ≡ followed (g u).items None next)
    → (at_place place (state_of x) >>= h) ≡ Ok t → stepped place x f ≡ followed (stepped place x g).items None next
row_goes place (Ok n) f g h next t go e =
    ap (followed n.1 None) (go n.0 e) ∙ ap (λ (xs : List Item). record { items = xs; fault = next.fault }) (sym (append_assoc n.1 (g n.0).items next.items))
row_goes place (Err k) f g h next t go e = absurd (let none = e in cc)

rows_go : (o : StreamOptions) (s t : State) (xs ys : List Placed) (fault : Option Fault) → after_rows o s xs None ≡ Ok t → run o s (xs ++ ys) fault ≡ followed (run o s xs None).items None (run o t ys fault)
unfolding run after_rows
rows_go o s t [] ys fault e = let same : s ≡ t = cc in ap (λ (u : State). run o u ys fault) same
rows_go o s t (r ∷ rs) ys fault e =
    row_goes r.place (step o r.row s) (λ u. run o u (rs ++ ys) fault) (λ u. run o u rs None) (λ u. after_rows o u rs None) (run o t ys fault) t (λ u here. rows_go o u t rs ys fault here) e

-- one row, where what follows it has a fault
row_stays : (place : Place) (x : Stepped) (f g : State → Reading Item Fault) (h : State → Result State Fault) (e : Fault) → ((u : State) → h u ≡ Err e → f u ≡ g u) → (at_place place (state_of x) >>= h) ≡ Err e → stepped place x f ≡ stepped place x g
row_stays place (Ok n) f g h e go is = ap (followed n.1 None) (go n.0 is)
row_stays place (Err k) f g h e go is = refl

rows_stay : (o : StreamOptions) (s : State) (xs ys : List Placed) (fault : Option Fault) (e : Fault) → after_rows o s xs None ≡ Err e → run o s (xs ++ ys) fault ≡ run o s xs None
unfolding run after_rows
rows_stay o s [] ys fault e is = absurd (let none = is in cc)
rows_stay o s (r ∷ rs) ys fault e is =
    row_stays r.place (step o r.row s) (λ u. run o u (rs ++ ys) fault) (λ u. run o u rs None) (λ u. after_rows o u rs None) e (λ u here. rows_stay o u rs ys fault e here) is

-- rows that end in a fault lead to no state
row_fails : (r : Result State Fault) (h : State → Result State Fault) (t : State) → ((u : State) → h u ≡ Ok t → ⊥) → (r >>= h) ≡ Ok t → ⊥
row_fails (Ok u) h t go e = go u e
row_fails (Err f) h t go e = let none = e in cc

rows_fail : (o : StreamOptions) (s t : State) (xs : List Placed) (e : Fault) → after_rows o s xs (Some e) ≡ Ok t → ⊥
unfolding after_rows
rows_fail o s t [] e is = let none = is in cc
rows_fail o s t (r ∷ rs) e is = row_fails (at_place r.place (state_of (step o r.row s))) (λ u. after_rows o u rs (Some e)) t (λ u here. rows_fail o u t rs e here) is

goes_on : (o : StreamOptions) (s t : State) (xs : List Placed) (fault : Option Fault) (Q : Reading Placed Fault) → after_rows o s xs fault ≡ Ok t → run_on o s (followed xs fault Q) ≡ followed (run o s xs fault).items None (run_on o t Q)
goes_on o s t xs None Q e = rows_go o s t xs Q.items Q.fault e
goes_on o s t xs (Some f) Q e = absurd (rows_fail o s t xs f e)

stays_on : (o : StreamOptions) (s : State) (xs : List Placed) (fault : Option Fault) (Q : Reading Placed Fault) (e : Fault) → after_rows o s xs fault ≡ Err e → run_on o s (followed xs fault Q) ≡ run o s xs fault
stays_on o s xs None Q e is = rows_stay o s xs Q.items Q.fault e is
stays_on o s xs (Some f) Q e is = refl

-- over rows that lead to a state, and on from it
pub run_goes : (o : StreamOptions) (s t : State) (R Q : Reading Placed Fault) → after_reading o s R ≡ Ok t → run_on o s (joined R Q) ≡ followed (run_on o s R).items None (run_on o t Q)
run_goes o s t R Q e = goes_on o s t R.items R.fault Q e

-- over rows that have a fault, and no further
pub run_stays : (o : StreamOptions) (s : State) (R Q : Reading Placed Fault) (e : Fault) → after_reading o s R ≡ Err e → run_on o s (joined R Q) ≡ run_on o s R
run_stays o s R Q e is = stays_on o s R.items R.fault Q e is

-- the fault of a run is that of the state after its rows
row_faulty : (place : Place) (x : Stepped) (g : State → Reading Item Fault) (h : State → Result State Fault) (f : Fault) → ((u : State) → (g u).fault ≡ Some f → h u ≡ Err f) → (stepped place x g).fault ≡ Some f → (at_place place (state_of x) >>= h) ≡ Err f
row_faulty place (Ok n) g h f go e = go n.0 e
row_faulty place (Err k) g h f go e = let same : record { place = place; kind = k } ≡ f = cc in ap (λ (x : Fault). let r : Result State Fault = Err x in r) same

rows_faulty : (o : StreamOptions) (s : State) (xs : List Placed) (fault : Option Fault) (f : Fault) → (run o s xs fault).fault ≡ Some f → after_rows o s xs fault ≡ Err f
unfolding run after_rows
rows_faulty o s [] fault f e = ap (λ (x : Option Fault). settled x s) e
rows_faulty o s (r ∷ rs) fault f e = row_faulty r.place (step o r.row s) (λ u. run o u rs fault) (λ u. after_rows o u rs fault) f (λ u here. rows_faulty o u rs fault f here) e

pub run_faulty : (o : StreamOptions) (s : State) (R : Reading Placed Fault) (f : Fault) → (run_on o s R).fault ≡ Some f → after_reading o s R ≡ Err f
run_faulty o s R f e = rows_faulty o s R.items R.fault f e

row_ends : (place : Place) (x : Stepped) (g : State → Reading Item Fault) (h : State → Result State Fault) (f : Fault) → ((u : State) → h u ≡ Err f → (g u).fault ≡ Some f) → (at_place place (state_of x) >>= h) ≡ Err f → (stepped place x g).fault ≡ Some f
row_ends place (Ok n) g h f go e = go n.0 e
row_ends place (Err k) g h f go e = let same : record { place = place; kind = k } ≡ f = cc in ap (λ (x : Fault). Some x) same

rows_end : (o : StreamOptions) (s : State) (xs : List Placed) (fault : Option Fault) (f : Fault) → after_rows o s xs fault ≡ Err f → (run o s xs fault).fault ≡ Some f
unfolding run after_rows
rows_end o s [] None f e = absurd (let none = e in cc)
rows_end o s [] (Some g) f e = let same : g ≡ f = cc in ap (λ (x : Fault). Some x) same
rows_end o s (r ∷ rs) fault f e = row_ends r.place (step o r.row s) (λ u. run o u rs fault) (λ u. after_rows o u rs fault) f (λ u here. rows_end o u rs fault f here) e

pub run_ends : (o : StreamOptions) (s : State) (R : Reading Placed Fault) (f : Fault) → after_reading o s R ≡ Err f → (run_on o s R).fault ≡ Some f
run_ends o s R f e = rows_end o s R.items R.fault f e
