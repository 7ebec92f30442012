-- Needs, asked of tables as they are at a moment.
use Rattle.std.proofs.Common.{◌≡◌, ℕ, ◌≤◌, Bool, true, false, List, [], ◌∷◌, length, Some, None, is_some, refl, ap, sym, ◌∙◌, cond, arith, nat_lt, le-ltb}
use Rattle.jl_base.specs.Results.{answered}
use Rattle.jl_rows.specs.declared.row.Table.{Table}
use Rattle.jl_state.specs.States.{Tables, State, table_in, entry_of, slots_of_tables}
use Rattle.jl_sym_laws.specs.RelativeIds.{real}
use Rattle.jl_sym_laws.specs.Summaries.{Written, Need, Demand}
use Rattle.jl_sym_laws.specs.Acting.{put, played, tables_at, text_in, last_id, meets, unmet}
use Rattle.jl_sym_laws.proofs.Logs.{played_length}
use Rattle.jl_sym_laws.proofs.Drops.{meets_stays}
use Rattle.jl_apply.specs.Incoming.{need_met}

-- no write is before the first row
pub played_start : (last : Table → ℕ) (x : Tables) (ws : List Written) → played last 0 x ws ≡ x
unfolding played
played_start last x [] = refl
played_start last x (w ∷ ws) =
    let late : 0 ≤ w.moment = omega arith in
    let same : put last 0 x w ≡ x = rw (le-ltb w.moment 0 late) refl in
    ap (λ (y : Tables). played last 0 y ws) same ∙ played_start last x ws

pub need_at : (s : State) (ws : List Written) (k : ℕ) (x : Tables) (need : Need) → tables_at s ws k ≡ x → meets s ws k need ≡ need_met s x need
need_at s ws k x (Need.Fits t id) e =
    let same : length (table_in x t) ≡ length (table_in s.tables t) = ap (λ (y : Tables). length (table_in y t)) (sym e) ∙ played_length (entry_of s) k s.tables ws t in
    ap (nat_lt (real id (entry_of s t))) (sym same)
need_at s ws k x (Need.Filled t id) e = ap (λ (y : Tables). is_some (answered (text_in (slots_of_tables y) t (real id (last_id s.ids t))))) e
need_at s ws k x (Need.Has y) e = refl
need_at s ws k x (Need.Lacks y) e = refl
need_at s ws k x Need.Never e = refl

-- what the incoming state meets by itself is met at every moment
pub met_always : (s : State) (ws : List Written) (k : ℕ) (need : Need) → need_met s s.tables need ≡ true → meets s ws k need ≡ true
met_always s ws k need h =
    let least : 0 ≤ k = omega arith in
    meets_stays s ws 0 k need least (need_at s ws 0 s.tables need (played_start (entry_of s) s.tables ws) ∙ h)

pub unmet_on : (s : State) (ws : List Written) (d : Demand) (ds : List Demand) → meets s ws d.moment d.need ≡ true → unmet s ws (d ∷ ds) ≡ unmet s ws ds
unfolding unmet
unmet_on s ws d ds h = ap (λ (b : Bool). cond b (unmet s ws ds) (Some d.fault)) h

pub unmet_here : (s : State) (ws : List Written) (d : Demand) (ds : List Demand) → meets s ws d.moment d.need ≡ false → unmet s ws (d ∷ ds) ≡ Some d.fault
unfolding unmet
unmet_here s ws d ds h = ap (λ (b : Bool). cond b (unmet s ws ds) (Some d.fault)) h

pub unmet_none : (s : State) (ws : List Written) → unmet s ws [] ≡ None
unfolding unmet
unmet_none s ws = refl
