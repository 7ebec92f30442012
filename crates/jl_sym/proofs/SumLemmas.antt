-- A summary over the rows of a tape.
use Rattle.std.proofs.Common.{◌≡◌, ℕ, zero, suc, ◌+◌, List, [], ◌∷◌, ◌++◌, map, take, drop, slice_get, Option, Some, None, Result, Ok, Err, refl, ap, sym, ◌∙◌, subst, arith}
use Rattle.std.specs.Option.{option_or}
use Rattle.jl_base.specs.Results.{◌>>=◌, Reading}
use Rattle.jl_base.specs.declared.kind.Kind.{Kind}
use Rattle.jl_base.specs.declared.place.Place.{Place}
use Rattle.jl_base.specs.declared.place.Fault.{Fault}
use Rattle.jl_rows.specs.Written.{StreamOptions}
use Rattle.jl_rows.specs.Files.{Placed}
use Rattle.jl_rows.specs.Seen.{HasRow}
use Rattle.jl_tape.specs.declared.tape.PlacedRow.{PlacedRow}
use Rattle.jl_tape.specs.Tapes.{HasRows}
use Rattle.jl_state.specs.States.{State}
use Rattle.jl_state.specs.Steps.{step}
use Rattle.jl_state.specs.declared.stop.Stop.TheVariants as stops
use Rattle.jl_sym_laws.specs.Summaries.{Need, Summary}
use Rattle.jl_state.specs.Running.{settled, at_place, state_of, after_rows}
use Rattle.jl_sym_laws.specs.Acting.{unmet, act, state_after}
use Rattle.jl_sym_laws.specs.Cutting.{Sized}
use Rattle.jl_sym_laws.specs.Runs.{Leads, Summarises}
use Rattle.jl_sym_laws.proofs.Cuts.{stands_sized}
use Rattle.jl_sym_laws.proofs.DecodeLaws.{decodes}
use Rattle.jl_sym_laws.proofs.Later.{unmet_both}
use Rattle.jl_sym_laws.specs.Summaries.{unit}
use Rattle.jl_sym_laws.specs.Cutting.{IsMade}
use Rattle.jl_sym_laws.proofs.RowLaws.{unit_acts}
use Rattle.jl_sym.proofs.AskLemmas.{good_push}
use Rattle.jl_sym.specs.Asking.{Grows}
use Rattle.jl_sym.specs.Growth.{with_never}
use Rattle.jl_sym.proofs.GrowLemmas.{Led, stop_at, bind_assoc, bind_ext}

-- on the states of a file it does what the decoder's steps do
abbrev pub SumsRows : StreamOptions → List Placed → Option Fault → Summary → Type 0
SumsRows o rs fault m = (s : State) → Sized o s → act m s ≡ after_rows o s rs fault

pub sums_on_summarise : (o : StreamOptions) (R : Reading Placed Fault) (m : Summary) → SumsRows o R.items R.fault m → Summarises o R m
sums_on_summarise o R m h H s stands = subst (Leads o H R) (sym (h s (stands_sized o s H stands))) (decodes o R H s stands)

pub after_both : (o : StreamOptions) (s : State) (xs ys : List Placed) (fault : Option Fault) → after_rows o s (xs ++ ys) fault ≡ (after_rows o s xs None >>= λ t. after_rows o t ys fault)
unfolding after_rows
after_both o s [] ys fault = refl
after_both o s (r ∷ rs) ys fault =
    bind_ext (at_place r.place (state_of (step o r.row s))) (λ t. after_rows o t (rs ++ ys) fault) (λ t. after_rows o t rs None >>= λ u. after_rows o u ys fault) (λ t. after_both o t rs ys fault)
    ∙ sym (bind_assoc (at_place r.place (state_of (step o r.row s))) (λ t. after_rows o t rs None) (λ u. after_rows o u ys fault))

bind_ok : (r : Led) → (r >>= λ t. Ok t) ≡ r
bind_ok (Ok t) = refl
bind_ok (Err e) = refl

abbrev pub row_step : StreamOptions → Placed → State → Result State Kind
row_step o r t = state_of (step o r.row t)

-- one row more
pub sums_next : (o : StreamOptions) (rs : List Placed) (r : Placed) (m m' : Summary) → SumsRows o rs None m → Grows o r.place (row_step o r) m m' (Ok tt) → SumsRows o (rs ++ r ∷ []) None m'
unfolding after_rows
sums_next o rs r m m' so_far grew s sized =
    grew s sized
    ∙ ap (λ (x : Led). x >>= λ t. at_place r.place (row_step o r t)) (so_far s sized)
    ∙ bind_ext (after_rows o s rs None) (λ t. at_place r.place (row_step o r t)) (λ t. after_rows o t (r ∷ []) None) (λ t. sym (bind_ok (at_place r.place (row_step o r t))))
    ∙ sym (after_both o s rs (r ∷ []) None)

-- a certain fault after it
fails : (u : Option Fault) (fault : Fault) (t v : State) → settled (option_or u (Some fault)) v ≡ (settled u t >>= λ (x : State). let r : Led = Err fault in r)
fails None fault t v = refl
fails (Some f) fault t v = refl

pub never_acts : (m : Summary) (fault : Fault) (s : State) → act (with_never m fault) s ≡ (act m s >>= λ (x : State). let r : Led = Err fault in r)
unfolding unmet
never_acts m fault s =
    ap (λ (u : Option Fault). settled u (state_after m s)) (unmet_both s m.writes m.demands (record { moment = m.rows; fault = fault; need = Need.Never } ∷ []))
    ∙ fails (unmet s m.writes m.demands) fault (state_after m s) (state_after m s)

-- the fault that ends a reading
ends : (o : StreamOptions) (fault : Fault) (s : State) (rs : List Placed) → (after_rows o s rs None >>= λ (t : State). let r : Led = Err fault in r) ≡ after_rows o s rs (Some fault)
unfolding after_rows
ends o fault s [] = refl
ends o fault s (r ∷ rs) =
    bind_assoc (at_place r.place (state_of (step o r.row s))) (λ t. after_rows o t rs None) (λ t. Err fault)
    ∙ bind_ext (at_place r.place (state_of (step o r.row s))) (λ t. after_rows o t rs None >>= λ u. Err fault) (λ t. after_rows o t rs (Some fault)) (λ t. ends o fault t rs)

pub sums_ended : (o : StreamOptions) (rs : List Placed) (m : Summary) (fault : Fault) → SumsRows o rs None m → SumsRows o rs (Some fault) (with_never m fault)
sums_ended o rs m fault so_far s sized = never_acts m fault s ∙ ap (λ (x : Led). x >>= λ (t : State). let r : Led = Err fault in r) (so_far s sized) ∙ ends o fault s rs

stopped : (r : Led) (place : Place) (kind : Kind) (g : State → Led) → ((r >>= stop_at place kind) >>= g) ≡ (r >>= stop_at place kind)
stopped (Ok t) place kind g = refl
stopped (Err e) place kind g = refl

-- a row with a certain fault, whatever comes after it
pub sums_refused : (o : StreamOptions) (rs : List Placed) (r : Placed) (more : List Placed) (fault : Option Fault) (kind : Kind) (m m' : Summary) → SumsRows o rs None m
    → Grows o r.place (row_step o r) m m' (Err (stops.Fault kind)) → SumsRows o (rs ++ (r ∷ more)) fault (with_never m' (record { place = r.place; kind = kind }))
unfolding after_rows
sums_refused o rs r more fault kind m m' so_far grew s sized =
    let here : (act m' s >>= stop_at r.place kind) ≡ (after_rows o s rs None >>= λ t. at_place r.place (row_step o r t))
    = grew s sized ∙ ap (λ (x : Led). x >>= λ t. at_place r.place (row_step o r t)) (so_far s sized) in
    never_acts m' (record { place = r.place; kind = kind }) s
    ∙ sym (stopped (act m' s) r.place kind (λ t. after_rows o t more fault))
    ∙ ap (λ (x : Led). x >>= λ t. after_rows o t more fault) here
    ∙ bind_assoc (after_rows o s rs None) (λ t. at_place r.place (row_step o r t)) (λ t. after_rows o t more fault)
    ∙ sym (after_both o s rs (r ∷ more) fault)

pub unit_sums : (o : StreamOptions) → SumsRows o [] None unit
unfolding after_rows
unit_sums o s sized = unit_acts s

pub never_made : (m : Summary) (fault : Fault) → IsMade m → IsMade (with_never m fault)
never_made m fault made =
    let good = good_push m.rows m.demands (record { moment = m.rows; fault = fault; need = Need.Never }) (record { made = made.demands; within = made.timed.demands }) refl tt in
    record {
      timed = record { writes = made.timed.writes; demands = good.within; subject = made.timed.subject; predicate = made.timed.predicate; object = made.timed.object; graph = made.timed.graph; open_graph = made.timed.open_graph };
      writes = made.writes;
      demands = good.made;
      prefix = made.prefix;
    }

-- the rows of a list around one of them
module _ {A B : Type 0} (f : A → B) where
  map_suc : (xs : List A) (i : ℕ) (x : A) → slice_get xs i ≡ Some x → map f (take (suc i) xs) ≡ map f (take i xs) ++ f x ∷ []
  map_suc [] i x e = cc
  map_suc (y ∷ xs) zero x e = let same : y ≡ x = cc in ap (λ z. f z ∷ []) same
  map_suc (y ∷ xs) (suc i) x e = ap (λ ys. f y ∷ ys) (map_suc xs i x e)

  pub map_next : (xs : List A) (i : ℕ) (x : A) → slice_get xs i ≡ Some x → map f (take (i + 1) xs) ≡ map f (take i xs) ++ f x ∷ []
  map_next xs i x e = let next : i + 1 ≡ suc i = omega arith in ap (λ (n : ℕ). map f (take n xs)) next ∙ map_suc xs i x e

  pub map_around : (xs : List A) (i : ℕ) (x : A) → slice_get xs i ≡ Some x → map f xs ≡ map f (take i xs) ++ (f x ∷ map f (drop (suc i) xs))
  map_around [] i x e = cc
  map_around (y ∷ xs) zero x e = let same : y ≡ x = cc in ap (λ z. f z ∷ map f xs) same
  map_around (y ∷ xs) (suc i) x e = ap (λ ys. f y ∷ ys) (map_around xs i x e)

-- the texts of a tape's row
pub has_at : (bytes : List ℕ) (tape : List PlacedRow) (i : ℕ) (p : PlacedRow) → slice_get tape i ≡ Some p → HasRows bytes tape → HasRow bytes p.row
has_at bytes [] i p e has = cc
has_at bytes (q ∷ tape) zero p e has = let same : q ≡ p = cc in subst (λ (x : PlacedRow). HasRow bytes x.row) same has.0
has_at bytes (q ∷ tape) (suc i) p e has = has_at bytes tape i p e has.1
