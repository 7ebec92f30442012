-- The log, played write by write.
use Rattle.std.proofs.Common.{◌≡◌, ℕ, ◌<◌, ◌≤◌, List, [], ◌∷◌, refl, ap, sym, subst, ◌∙◌, arith, lt-ltb, le-ltb}
use Rattle.jl_rows.specs.declared.row.Table.{Table}
use Rattle.jl_state.specs.States.{Tables, State, entry_of}
use Rattle.jl_sym_laws.specs.RelativeIds.{real}
use Rattle.jl_sym_laws.specs.Summaries.{Written}
use Rattle.jl_sym_laws.specs.Acting.{filled_in, put, played, tables_at}
use Rattle.jl_sym_laws.specs.Cutting.{AreMadeWrites}
use Rattle.jl_apply.specs.Incoming.{IsIncoming, last_of}
use Rattle.jl_apply.specs.declared.incoming.Incoming.{Incoming}
use Rattle.jl_apply.specs.Playing.{Advances}

-- writes that aren't before a moment are not seen by then
pub played_late : (last : Table → ℕ) (k n : ℕ) (x : Tables) (ws : List Written) → AreMadeWrites n ws → k ≤ n → played last k x ws ≡ x
unfolding played
played_late last k n x [] h le = refl
played_late last k n x (w ∷ ws) h le =
    let first = h.0 in
    let late : k ≤ w.moment = omega (arith, first, le) in
    let same : put last k x w ≡ x = rw (le-ltb w.moment k late) refl in
    ap (λ (y : Tables). played last k y ws) same ∙ played_late last k w.moment x ws h.2 late

pub made_from_0 : (n : ℕ) (ws : List Written) → AreMadeWrites n ws → AreMadeWrites 0 ws
made_from_0 n [] h = tt
made_from_0 n (w ∷ ws) h = let least : 0 ≤ w.moment = omega arith in (least, h.1, h.2)

-- one write further
pub played_on : (last : Table → ℕ) (k n : ℕ) (y z : Tables) (w : Written) (ws : List Written) → w.moment < k → k ≤ n
    → z ≡ filled_in y w.table (real w.id (last w.table)) w.text → played last n y (w ∷ ws) ≡ played last n z ws
unfolding played
played_on last k n y z w ws lt le e =
    let early : w.moment < n = omega (arith, lt, le) in
    let same : put last n y w ≡ filled_in y w.table (real w.id (last w.table)) w.text = rw (lt-ltb w.moment n early) refl in
    ap (λ (t : Tables). played last n t ws) (same ∙ sym e)

-- at the log's end
pub advances_all : (last : Table → ℕ) (x : Tables) (ws : List Written) (k : ℕ) (y : Tables) (vs : List Written) → vs ≡ [] → ((n : ℕ) → k ≤ n → played last n x ws ≡ played last n y vs)
    → AreMadeWrites 0 vs → Advances last x ws k y vs
unfolding played
advances_all last x ws k y vs e ahead rises =
    let le : k ≤ k = omega arith in
    record { ahead = ahead; now = ahead k le ∙ ap (played last k y) e; rises = rises }

-- before a write that isn't before the moment
pub advances_to : (last : Table → ℕ) (x : Tables) (ws : List Written) (k : ℕ) (y : Tables) (vs : List Written) (w : Written) (us : List Written) → vs ≡ (w ∷ us) → k ≤ w.moment → ((n : ℕ) → k ≤ n → played last n x ws ≡ played last n y vs)
    → AreMadeWrites 0 vs → Advances last x ws k y vs
advances_to last x ws k y vs w us e late ahead rises =
    let le : k ≤ k = omega arith in
    let made : AreMadeWrites 0 (w ∷ us) = subst (AreMadeWrites 0) e rises in
    let from_k : AreMadeWrites k (w ∷ us) = (late, made.1, made.2) in
    record { ahead = ahead; now = ahead k le ∙ ap (played last k y) e ∙ played_late last k k y (w ∷ us) from_k le; rises = rises }

pub advances_then : (last : Table → ℕ) (x : Tables) (ws : List Written) (k : ℕ) (y : Tables) (vs : List Written) (j : ℕ) (z : Tables) (us : List Written) → k ≤ j
    → Advances last x ws k y vs → Advances last y vs j z us → Advances last x ws j z us
advances_then last x ws k y vs j z us le p q = record {
  ahead = λ n h. (let far : k ≤ n = omega (arith, le, h) in p.ahead n far) ∙ q.ahead n h;
  now = p.ahead j le ∙ q.now;
  rises = q.rises;
}

pub entries_are : (i : Incoming) (s : State) → IsIncoming i s → entry_of s ≡ last_of i
entries_are i s h = λ j t. h.entries t j

pub tables_are : (i : Incoming) (s : State) (ws : List Written) (k : ℕ) (x : Tables) (vs : List Written) → IsIncoming i s → Advances (last_of i) s.tables ws k x vs → tables_at s ws k ≡ x
tables_are i s ws k x vs h p = ap (λ (last : Table → ℕ). played last k s.tables ws) (entries_are i s h) ∙ p.now
