-- Certain faults may be cut off.
use Rattle.std.proofs.Common.{◌≡◌, ℕ, ◌+◌, ◌<◌, ◌≤◌, ◌==◌, Bool, true, false, ◌&&◌, ◌||◌, List, [], ◌∷◌, length, Option, Some, None, is_some, refl, ap, sym, ◌∙◌, cond, arith, nat_lt, nat_le, inl, inr}
use Rattle.std.proofs.lemmas.Bool.{ltb-true, ltb-false, leb-true, leb-false, lt-ltb, le-ltb, le-leb, and_parts, and_cases, and_right, and_left, ne_eqb, false≢true, true≢false}
use Rattle.std.proofs.lemmas.List.{set_past}
use Rattle.std.specs.Option.{option_or}
use Rattle.jl_base.specs.Results.{answered}
use Rattle.jl_base.specs.Terms.{Value}
use Rattle.jl_base.specs.declared.place.Fault.{Fault}
use Rattle.jl_rows.specs.declared.row.Table.{Table}
use Rattle.jl_rows.specs.Written.{StreamOptions, Row}
use Rattle.jl_rows.specs.History.{History, is_table, slot, entry_id, ids_written, text_written}
use Rattle.jl_rows.specs.Decoder.{size_of}
use Rattle.jl_state.specs.States.{Tables, State, table_in, table_of, entry_of, slots_in, slots_of_tables}
use Rattle.jl_state.proofs.Looks.{counted-cons}
use Rattle.jl_sym_laws.specs.RelativeIds.{Id, real}
use Rattle.jl_sym_laws.specs.Symbols.{sym_value}
use Rattle.jl_sym_laws.specs.Summaries.{Written, Kept, Need, Demand, Left, Summary}
use Rattle.jl_state.specs.Running.{settled}
use Rattle.jl_sym_laws.specs.Acting.{filled_in, put, played, tables_at, slots_at, text_in, last_id, meets, unmet, left_after, state_after}
use Rattle.jl_sym_laws.specs.Compacting.{last_write, goes_to}
use Rattle.jl_sym_laws.specs.Sizes.{IsIdIn, IsNeedIn, AreWritesIn, AreDemandsIn}
use Rattle.jl_sym_laws.specs.Cutting.{IsNext, IsMadeNeed, AreMadeWrites, AreMadeDemands, is_id_in, is_need_in, cut_writes, cut_demands, cut, Sized, StandsSized, CutKeeps, CutIsIn}
use Rattle.jl_sym_laws.proofs.Logs.{put_length}
use Rattle.jl_sym_laws.proofs.LastWrites.{slot_played}
use Rattle.jl_sym_laws.proofs.Drops.{is_there, there_test, no_slot}

-- ids that the test finds inside, and those that it doesn't
inside : (size : ℕ) (id : Id) → is_id_in size id ≡ true → IsIdIn size id
inside size (Id.Given n) e = let p = and_parts (nat_lt 0 n) (nat_le n size) e in (ltb-true 0 n p.0, leb-true n size p.1)
inside size (Id.After k) e = let p = and_parts (nat_lt 0 k) (nat_le k size) e in (ltb-true 0 k p.0, leb-true k size p.1)

not_within : (n size : ℕ) → 0 < n → (nat_lt 0 n && nat_le n size) ≡ false → size < n
not_within n size above e = elim (and_cases (nat_lt 0 n) (nat_le n size) e) [
  | inl x ↦ absurd (true≢false (sym (lt-ltb 0 n above) ∙ x))
  | inr x ↦ leb-false n size x
]

beyond : (size : ℕ) (id : Id) (last : ℕ) → IsNext id → is_id_in size id ≡ false → size < real id last
beyond size (Id.Given n) last next e = not_within n size next e
beyond size (Id.After k) last next e = let far = not_within k size next e in omega (arith, far)

-- a write outside of its table
filled_past : (x : Tables) (t : Table) (n : ℕ) (text : List ℕ) → length (table_in x t) ≤ n → filled_in x t n text ≡ x
filled_past x Table.Name n text h = λ i. record x { names = set_past x.names n (Some text) h i }
filled_past x Table.Prefix n text h = λ i. record x { prefixes = set_past x.prefixes n (Some text) h i }
filled_past x Table.Datatype n text h = λ i. record x { datatypes = set_past x.datatypes n (Some text) h i }

put_past : (b : Bool) (x : Tables) (t : Table) (n : ℕ) (text : List ℕ) → length (table_in x t) ≤ n → cond b (filled_in x t n text) x ≡ x
put_past true x t n text h = filled_past x t n text h
put_past false x t n text h = refl

module _ (o : StreamOptions) (last : Table → ℕ) (k : ℕ) where
  cut_by : (x : Tables) (w : Written) (ws : List Written) (b : Bool) → ((t : Table) → length (table_in x t) ≡ size_of o t + 1) → IsNext w.id → is_id_in (size_of o w.table) w.id ≡ b
      → ((y : Tables) → ((t : Table) → length (table_in y t) ≡ size_of o t + 1) → played last k y (cut_writes o ws) ≡ played last k y ws)
      → played last k x (cond b (w ∷ cut_writes o ws) (cut_writes o ws)) ≡ played last k x (w ∷ ws)
  unfolding played
  cut_by x w ws true sizes next e go = go (put last k x w) (λ t. put_length (nat_lt w.moment k) x w.table t (real w.id (last w.table)) w.text ∙ sizes t)
  cut_by x w ws false sizes next e go =
      let far = beyond (size_of o w.table) w.id (last w.table) next e in
      let size = sizes w.table in
      let outside : length (table_in x w.table) ≤ real w.id (last w.table) = omega (arith, far, size) in
      go x sizes ∙ ap (λ (y : Tables). played last k y ws) (sym (put_past (nat_lt w.moment k) x w.table (real w.id (last w.table)) w.text outside))

  played_cut : (n : ℕ) (ws : List Written) → AreMadeWrites n ws → (x : Tables) → ((t : Table) → length (table_in x t) ≡ size_of o t + 1) → played last k x (cut_writes o ws) ≡ played last k x ws
  unfolding cut_writes
  played_cut n [] made x sizes = refl
  played_cut n (w ∷ ws) made x sizes = cut_by x w ws (is_id_in (size_of o w.table) w.id) sizes made.1 refl (λ y sizes'. played_cut w.moment ws made.2 y sizes')

-- no write goes to id 0
not_zero : (id : Id) (last : ℕ) → IsNext id → (real id last == 0) ≡ false
not_zero (Id.Given n) last next = ne_eqb n 0 (λ e. let no : ⊥ = omega (arith, next, e) in no)
not_zero (Id.After k) last next = ne_eqb (last + k) 0 (λ e. let no : ⊥ = omega (arith, next, e) in no)

none_at_zero : (last : Table → ℕ) (k n : ℕ) (t : Table) (ws : List Written) → AreMadeWrites n ws → last_write (goes_to last k t 0) ws ≡ None
unfolding last_write
none_at_zero last k n t [] made = refl
none_at_zero last k n t (w ∷ ws) made =
    let never = and_right (is_table w.table t) ((real w.id (last w.table) == 0) && nat_lt w.moment k) (and_left (real w.id (last w.table) == 0) (nat_lt w.moment k) (not_zero w.id (last w.table) made.1)) in
    ap (λ (b : Bool). option_or (last_write (goes_to last k t 0) ws) (cond b (Some w.text) None)) never ∙ ap (λ (x : Option (List ℕ)). option_or x None) (none_at_zero last k w.moment t ws made.2)

module _ (o : StreamOptions) (s : State) (sized : Sized o s) (ws : List Written) (n : ℕ) (made : AreMadeWrites n ws) (k : ℕ) where
  zero_slot : slots_at s ws k Table.Datatype 0 ≡ None
  zero_slot =
      let size = sized.sizes Table.Datatype in
      let within : 0 < length (table_of s Table.Datatype) = omega (arith, size) in
      slot_played (entry_of s) k s.tables ws Table.Datatype 0 within
      ∙ ap (λ (x : Option (List ℕ)). option_or x (slots_in s Table.Datatype 0)) (none_at_zero (entry_of s) k n Table.Datatype ws made) ∙ sized.zero

  far_slot : (t : Table) (id : ℕ) → size_of o t < id → slots_at s ws k t id ≡ None
  far_slot t id h = let size = sized.sizes t in let outside : length (table_of s t) ≤ id = omega (arith, h, size) in no_slot (entry_of s) k s.tables ws t id outside

  absent : (t : Table) (id : ℕ) → is_there (slots_at s ws k) t id ≡ false → is_some (answered (text_in (slots_at s ws k) t id)) ≡ false
  absent t id h = there_test (slots_at s ws k) t id ∙ h

  datatype_absent : (id : ℕ) → (nat_lt 0 id && nat_le id o.datatypes) ≡ false → is_some (slots_at s ws k Table.Datatype id) ≡ false
  datatype_absent id e = elim (and_cases (nat_lt 0 id) (nat_le id o.datatypes) e) [
    | inl x ↦
        let none = ltb-false 0 id x in
        let is : id ≡ 0 = omega (arith, none) in
        ap (λ (i : ℕ). is_some (slots_at s ws k Table.Datatype i)) is ∙ ap is_some zero_slot
    | inr x ↦ ap is_some (far_slot Table.Datatype id (leb-false id o.datatypes x))
  ]

  prefix_absent : (id : ℕ) → 0 < id → o.prefixes < id → is_there (slots_at s ws k) Table.Prefix id ≡ false
  prefix_absent id above far =
      ap (λ (b : Bool). b || is_some (slots_at s ws k Table.Prefix id)) (ne_eqb id 0 (λ e. let no : ⊥ = omega (arith, above, e) in no)) ∙ ap is_some (far_slot Table.Prefix id far)

  -- a demand outside of the tables is never met
  never_met : (need : Need) → IsMadeNeed need → is_need_in o need ≡ false → meets s ws k need ≡ false
  never_met (Need.Fits t id) h e =
      let far = beyond (size_of o t) id (entry_of s t) h e in
      let size = sized.sizes t in
      let outside : length (table_of s t) ≤ real id (entry_of s t) = omega (arith, far, size) in
      le-ltb _ _ outside
  never_met (Need.Filled Table.Name id) h e = absent Table.Name (real id s.ids.name) (ap is_some (far_slot Table.Name (real id s.ids.name) (beyond o.names id s.ids.name h e)))
  never_met (Need.Filled Table.Prefix (Id.Given id)) h e = absent Table.Prefix id (prefix_absent id h (not_within id o.prefixes h e))
  never_met (Need.Filled Table.Prefix (Id.After j)) h e = absurd (true≢false (sym (le-leb j 0 h) ∙ e))
  never_met (Need.Filled Table.Datatype (Id.Given id)) h e = absent Table.Datatype id (datatype_absent id e)
  never_met (Need.Filled Table.Datatype (Id.After j)) h e = absurd h
  never_met (Need.Has x) h e = absurd (true≢false e)
  never_met (Need.Lacks (Kept.LastAt x)) h e = absurd h
  never_met (Need.Lacks Kept.OpenGraph) h e = absurd (true≢false e)
  never_met Need.Never h e = refl

module _ (o : StreamOptions) (s : State) (sized : Sized o s) (ws : List Written) (n : ℕ) (made : AreMadeWrites n ws) where
  demand_by : (d : Demand) (ds : List Demand) (b : Bool) → is_need_in o d.need ≡ b → IsMadeNeed d.need → unmet s ws (cut_demands o ds) ≡ unmet s ws ds
      → unmet s ws (cond b (d ∷ cut_demands o ds) (record d { need = Need.Never } ∷ [])) ≡ unmet s ws (d ∷ ds)
  unfolding unmet
  demand_by d ds true e h go = ap (λ (f : Option Fault). cond (meets s ws d.moment d.need) f (Some d.fault)) go
  demand_by d ds false e h go = sym (ap (λ (b : Bool). cond b (unmet s ws ds) (Some d.fault)) (never_met o s sized ws n made d.moment d.need h e))

  demands_cut : (k : ℕ) (ds : List Demand) → AreMadeDemands k ds → unmet s ws (cut_demands o ds) ≡ unmet s ws ds
  unfolding cut_demands
  demands_cut k [] h = refl
  demands_cut k (d ∷ ds) h = demand_by d ds (is_need_in o d.need) refl h.1 (demands_cut d.moment ds h.2)

-- writes that give the same tables at every moment
module _ (s : State) (ws vs : List Written) (same : (k : ℕ) → tables_at s ws k ≡ tables_at s vs k) where
  meets_alike : (k : ℕ) (need : Need) → meets s ws k need ≡ meets s vs k need
  meets_alike k (Need.Fits t id) = refl
  meets_alike k (Need.Filled t id) = ap (λ (x : Tables). is_some (answered (text_in (slots_of_tables x) t (real id (last_id s.ids t))))) (same k)
  meets_alike k (Need.Has x) = refl
  meets_alike k (Need.Lacks x) = refl
  meets_alike k Need.Never = refl

  unmet_alike : (ds : List Demand) → unmet s ws ds ≡ unmet s vs ds
  unfolding unmet
  unmet_alike [] = refl
  unmet_alike (d ∷ ds) =
      ap (λ (b : Bool). cond b (unmet s ws ds) (Some d.fault)) (meets_alike d.moment d.need)
      ∙ ap (λ (f : Option Fault). cond (meets s vs d.moment d.need) f (Some d.fault)) (unmet_alike ds)

  left_alike : (l : Left) (before : Option Value) → left_after s ws l before ≡ left_after s vs l before
  left_alike Left.Incoming before = refl
  left_alike Left.Cleared before = refl
  left_alike (Left.Set h) before = ap (λ (x : Tables). Some (sym_value (slots_of_tables x) s.ids h.term)) (same h.moment)

  state_alike : (m : Summary) → state_after (record m { writes = ws }) s ≡ state_after (record m { writes = vs }) s
  state_alike m = λ i. record (state_after (record m { writes = ws }) s) {
    tables = same m.rows i;
    subject = left_alike m.subject s.subject i;
    predicate = left_alike m.predicate s.predicate i;
    object = left_alike m.object s.object i;
    graph = left_alike m.graph s.graph i;
    open_graph = left_alike m.open_graph s.open_graph i;
  }

pub cut_keeps : CutKeeps
cut_keeps o m s made sized =
    let same : (k : ℕ) → tables_at s (cut_writes o m.writes) k ≡ tables_at s m.writes k = λ k. played_cut o (entry_of s) k 0 m.writes made.writes s.tables sized.sizes in
    let faults : unmet s (cut_writes o m.writes) (cut_demands o m.demands) ≡ unmet s m.writes m.demands
    = unmet_alike s (cut_writes o m.writes) m.writes same (cut_demands o m.demands) ∙ demands_cut o s sized m.writes 0 made.writes 0 m.demands made.demands in
    ap (λ (f : Option Fault). settled f (state_after (cut o m) s)) faults ∙ ap (settled (unmet s m.writes m.demands)) (state_alike s (cut_writes o m.writes) m.writes same m)

-- what stays is inside
need_inside : (o : StreamOptions) (need : Need) → is_need_in o need ≡ true → IsNeedIn o need
need_inside o (Need.Fits t id) e = inside (size_of o t) id e
need_inside o (Need.Filled Table.Name id) e = inside o.names id e
need_inside o (Need.Filled Table.Prefix (Id.Given n)) e = inside o.prefixes (Id.Given n) e
need_inside o (Need.Filled Table.Prefix (Id.After k)) e = leb-true k 0 e
need_inside o (Need.Filled Table.Datatype (Id.Given n)) e = inside o.datatypes (Id.Given n) e
need_inside o (Need.Filled Table.Datatype (Id.After k)) e = absurd (false≢true e)
need_inside o (Need.Has x) e = tt
need_inside o (Need.Lacks (Kept.LastAt x)) e = absurd (false≢true e)
need_inside o (Need.Lacks Kept.OpenGraph) e = tt
need_inside o Need.Never e = tt

writes_from : (o : StreamOptions) (j n : ℕ) (ws : List Written) → j ≤ n → AreWritesIn o n ws → AreWritesIn o j ws
writes_from o j n [] le h = tt
writes_from o j n (w ∷ ws) le h = let first = h.0 in let later : j ≤ w.moment = omega (arith, first, le) in (later, h.1, h.2)

write_in_by : (o : StreamOptions) (n : ℕ) (w : Written) (ws : List Written) (b : Bool) → is_id_in (size_of o w.table) w.id ≡ b → n ≤ w.moment → AreWritesIn o w.moment ws → AreWritesIn o n (cond b (w ∷ ws) ws)
write_in_by o n w ws true e le h = (le, inside (size_of o w.table) w.id e, h)
write_in_by o n w ws false e le h = writes_from o n w.moment ws le h

writes_in : (o : StreamOptions) (n : ℕ) (ws : List Written) → AreMadeWrites n ws → AreWritesIn o n (cut_writes o ws)
unfolding cut_writes
writes_in o n [] h = tt
writes_in o n (w ∷ ws) h = write_in_by o n w (cut_writes o ws) (is_id_in (size_of o w.table) w.id) refl h.0 (writes_in o w.moment ws h.2)

demand_in_by : (o : StreamOptions) (n : ℕ) (d : Demand) (ds : List Demand) (b : Bool) → is_need_in o d.need ≡ b → n ≤ d.moment → AreDemandsIn o d.moment ds
    → AreDemandsIn o n (cond b (d ∷ ds) (record d { need = Need.Never } ∷ []))
demand_in_by o n d ds true e le h = (le, need_inside o d.need e, h)
demand_in_by o n d ds false e le h = (le, tt, tt)

demands_in : (o : StreamOptions) (n : ℕ) (ds : List Demand) → AreMadeDemands n ds → AreDemandsIn o n (cut_demands o ds)
unfolding cut_demands
demands_in o n [] h = tt
demands_in o n (d ∷ ds) h = demand_in_by o n d (cut_demands o ds) (is_need_in o d.need) refl h.0 (demands_in o d.moment ds h.2)

pub cut_is_in : CutIsIn
cut_is_in o m made = (writes_in o 0 m.writes made.writes, demands_in o 0 m.demands made.demands)

-- no entry has id 0
never_zero : (n last : ℕ) (b : Bool) → (n == 0) ≡ b → (cond b (last + 1) n == 0) ≡ false
never_zero n last true e = ne_eqb (last + 1) 0 (λ k. let no : ⊥ = omega (arith, k) in no)
never_zero n last false e = e

no_text_at_zero : (r : Row) (H : History) → text_written Table.Datatype 0 r H ≡ None
no_text_at_zero (Row.Options p) H = refl
no_text_at_zero (Row.Triple x y z) H = refl
no_text_at_zero (Row.Quad x y z w) H = refl
no_text_at_zero (Row.GraphStart g) H = refl
no_text_at_zero Row.GraphEnd H = refl
no_text_at_zero (Row.Namespace name i) H = refl
no_text_at_zero (Row.Entry Table.Name id text) H = refl
no_text_at_zero (Row.Entry Table.Prefix id text) H = refl
no_text_at_zero (Row.Entry Table.Datatype id text) H =
    ap (λ (n : ℕ). cond (n == 0) (Some text) None) (counted-cons id (ids_written Table.Datatype H)) ∙ ap (λ (b : Bool). cond b (Some text) None) (never_zero id (entry_id Table.Datatype H) (id == 0) refl)

no_slot_zero : (H : History) → slot Table.Datatype 0 H ≡ None
unfolding slot
no_slot_zero [] = refl
no_slot_zero (r ∷ H) = ap (λ (x : Option (List ℕ)). option_or x (slot Table.Datatype 0 H)) (no_text_at_zero r H) ∙ no_slot_zero H

pub stands_sized : StandsSized
stands_sized o s H h = record { sizes = h.sizes; zero = h.slots Table.Datatype 0 ∙ no_slot_zero H }
