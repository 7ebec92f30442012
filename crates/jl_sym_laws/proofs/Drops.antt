-- Writes that nothing sees, and demands that are met already.
use Rattle.std.proofs.Common.{◌≡◌, ℕ, ◌<◌, ◌≤◌, ◌==◌, Bool, true, false, ◌&&◌, ◌||◌, not, List, [], ◌∷◌, ◌++◌, length, Option, Some, None, is_some, Ok, refl, ap, subst, sym, ◌∙◌, cond, arith, nat_lt, nat_le, ◌⊎◌, inl, inr, ext_get_or}
use Rattle.std.proofs.lemmas.Bool.{cases_lt, lt-ltb, ltb-true, leb-true, and_parts, and_from, or_cases, not-true, false≢true}
use Rattle.std.proofs.lemmas.List.{get_or_past}
use Rattle.std.specs.Option.{option_or}
use Rattle.jl_base.specs.Results.{some_or, answered}
use Rattle.jl_base.specs.Terms.{Value}
use Rattle.jl_base.specs.declared.kind.Kind.TheVariants.{NoEntry}
use Rattle.jl_base.specs.declared.place.Fault.{Fault}
use Rattle.jl_rows.specs.declared.row.Table.{Table}
use Rattle.jl_rows.specs.History.{is_table}
use Rattle.jl_rows.specs.Values.{Slots}
use Rattle.jl_state.specs.States.{Tables, State, table_in, entry_of, slots_of_tables}
use Rattle.jl_sym_laws.specs.RelativeIds.{Id, real}
use Rattle.jl_sym_laws.specs.Symbols.{sym_value}
use Rattle.jl_sym_laws.specs.Summaries.{Written, Need, Demand, Left}
use Rattle.jl_state.specs.Running.{settled}
use Rattle.jl_sym_laws.specs.Acting.{played, slots_at, text_in, last_id, meets, unmet, left_after, state_after}
use Rattle.jl_sym_laws.specs.Compacting.{last_write, goes_to, same_id, same_address, is_overwritten, is_hidden, is_unseen, was_filled, moments_of, DropsWrite, same_need, was_asked, DropsDemand}
use Rattle.jl_sym_laws.proofs.Logs.{played_length}
use Rattle.jl_sym_laws.proofs.Later.{unmet_both}
use Rattle.jl_sym_laws.proofs.LastWrites.{slot_played, or_assoc}
use Rattle.jl_sym_laws.proofs.Sameness.{id_is, table_is, need_is}

abbrev pub Text : Type 0
Text = Option (List ℕ)

or_none : (x : Text) → option_or x None ≡ x
or_none None = refl
or_none (Some v) = refl

pub first_some : (x y : Text) → is_some x ≡ true → is_some (option_or x y) ≡ true
first_some None y h = absurd (false≢true h)
first_some (Some v) y h = refl

second_some : (x y : Text) → is_some y ≡ true → is_some (option_or x y) ≡ true
second_some None y h = h
second_some (Some v) y h = refl

absorbs : (x y : Text) → is_some x ≡ true → option_or x y ≡ x
absorbs None y h = absurd (false≢true h)
absorbs (Some v) y h = refl

more_some : (x y z : Text) → (is_some x ≡ true → is_some y ≡ true) → is_some (option_or x z) ≡ true → is_some (option_or y z) ≡ true
more_some None y z h k = second_some y z k
more_some (Some v) y z h k = first_some y z (h refl)

last_both : (p : Written → Bool) (us vs : List Written) → last_write p (us ++ vs) ≡ option_or (last_write p vs) (last_write p us)
unfolding last_write
last_both p [] vs = sym (or_none (last_write p vs))
last_both p (u ∷ us) vs =
    ap (λ (x : Text). option_or x (cond (p u) (Some u.text) None)) (last_both p us vs)
    ∙ sym (or_assoc (last_write p vs) (last_write p us) (cond (p u) (Some u.text) None))

-- the first write counts, or one of those after it does
pub here : (p : Written → Bool) (w : Written) (ws : List Written) → p w ≡ true → is_some (last_write p (w ∷ ws)) ≡ true
unfolding last_write
here p w ws h = second_some (last_write p ws) (cond (p w) (Some w.text) None) (rw h refl)

pub there : (p : Written → Bool) (w : Written) (ws : List Written) → is_some (last_write p ws) ≡ true → is_some (last_write p (w ∷ ws)) ≡ true
unfolding last_write
there p w ws h = first_some (last_write p ws) (cond (p w) (Some w.text) None) h

module _ (last : Table → ℕ) (t : Table) (id : ℕ) where
  -- a write to the same address goes to the same slot, where it comes before the moment
  goes_alike : (k n : ℕ) (w v : Written) → same_address w v ≡ true → goes_to last k t id w ≡ true → v.moment < n → goes_to last n t id v ≡ true
  goes_alike k n w v same goes early =
      let parts = and_parts (is_table w.table v.table) (same_id w.id v.id) same in
      let table = table_is w.table v.table parts.0 in
      let ident = id_is w.id v.id parts.1 in
      let there = and_parts (is_table w.table t) ((real w.id (last w.table) == id) && nat_lt w.moment k) goes in
      let slot = and_parts (real w.id (last w.table) == id) (nat_lt w.moment k) there.1 in
      let in_table : is_table v.table t ≡ true = subst (λ (u : Table). is_table u t ≡ true) table there.0 in
      let at_id : (real v.id (last v.table) == id) ≡ true = subst (λ (u : Table). (real v.id (last u) == id) ≡ true) table (subst (λ (i : Id). (real i (last w.table) == id) ≡ true) ident slot.0) in
      and_from _ _ in_table (and_from _ _ at_id (lt-ltb v.moment n early))

  -- the same with the addresses the other way round
  goes_back : (k n : ℕ) (u w : Written) → same_address u w ≡ true → goes_to last k t id w ≡ true → u.moment < n → goes_to last n t id u ≡ true
  goes_back k n u w same goes early =
      let parts = and_parts (is_table u.table w.table) (same_id u.id w.id) same in
      let table = table_is u.table w.table parts.0 in
      let ident = id_is u.id w.id parts.1 in
      let there = and_parts (is_table w.table t) ((real w.id (last w.table) == id) && nat_lt w.moment k) goes in
      let slot = and_parts (real w.id (last w.table) == id) (nat_lt w.moment k) there.1 in
      let in_table : is_table u.table t ≡ true = subst (λ (x : Table). is_table x t ≡ true) (sym table) there.0 in
      let at_id : (real u.id (last u.table) == id) ≡ true = subst (λ (x : Table). (real u.id (last x) == id) ≡ true) (sym table) (subst (λ (i : Id). (real i (last w.table) == id) ≡ true) (sym ident) slot.0) in
      and_from _ _ in_table (and_from _ _ at_id (lt-ltb u.moment n early))

  goes_before : (k : ℕ) (w : Written) → goes_to last k t id w ≡ true → w.moment < k
  goes_before k w goes =
      let there = and_parts (is_table w.table t) ((real w.id (last w.table) == id) && nat_lt w.moment k) goes in
      let slot = and_parts (real w.id (last w.table) == id) (nat_lt w.moment k) there.1 in
      ltb-true w.moment k slot.1

  goes_later : (k n : ℕ) (w : Written) → k ≤ n → goes_to last k t id w ≡ true → goes_to last n t id w ≡ true
  goes_later k n w le goes =
      let there = and_parts (is_table w.table t) ((real w.id (last w.table) == id) && nat_lt w.moment k) goes in
      let slot = and_parts (real w.id (last w.table) == id) (nat_lt w.moment k) there.1 in
      let before = ltb-true w.moment k slot.1 in
      let early : w.moment < n = omega (arith, before, le) in
      and_from _ _ there.0 (and_from _ _ slot.0 (lt-ltb w.moment n early))

  overwritten_by : (k : ℕ) (w v : Written) (vs : List Written) → goes_to last k t id w ≡ true → ((same_address w v && nat_lt v.moment k) ≡ true) ⊎ (is_overwritten w k vs ≡ true)
      → (is_overwritten w k vs ≡ true → is_some (last_write (goes_to last k t id) vs) ≡ true) → is_some (last_write (goes_to last k t id) (v ∷ vs)) ≡ true
  overwritten_by k w v vs goes (inl e) go =
      let parts = and_parts (same_address w v) (nat_lt v.moment k) e in
      here (goes_to last k t id) v vs (goes_alike k k w v parts.0 goes (ltb-true v.moment k parts.1))
  overwritten_by k w v vs goes (inr e) go = there (goes_to last k t id) v vs (go e)

  overwritten : (k : ℕ) (w : Written) (vs : List Written) → is_overwritten w k vs ≡ true → goes_to last k t id w ≡ true → is_some (last_write (goes_to last k t id) vs) ≡ true
  unfolding is_overwritten
  overwritten k w [] h goes = absurd (false≢true h)
  overwritten k w (v ∷ vs) h goes = overwritten_by k w v vs goes (or_cases (same_address w v && nat_lt v.moment k) (is_overwritten w k vs) h) (λ e. overwritten k w vs e goes)

  -- a hidden write
  hidden_last : (k : ℕ) (w : Written) (vs : List Written) (b : Bool) → goes_to last k t id w ≡ b → is_hidden w vs k ≡ true
      → option_or (last_write (goes_to last k t id) vs) (cond b (Some w.text) None) ≡ last_write (goes_to last k t id) vs
  hidden_last k w vs false e h = or_none (last_write (goes_to last k t id) vs)
  hidden_last k w vs true e h = elim (or_cases (not (nat_lt w.moment k)) (is_overwritten w k vs) h) [
    | inl late ↦ absurd (false≢true (sym (not-true _ late) ∙ lt-ltb w.moment k (goes_before k w e)))
    | inr over ↦ absorbs (last_write (goes_to last k t id) vs) (Some w.text) (overwritten k w vs over e)
  ]

  hidden_same : (k : ℕ) (us : List Written) (w : Written) (vs : List Written) → is_hidden w vs k ≡ true → last_write (goes_to last k t id) (us ++ (w ∷ vs)) ≡ last_write (goes_to last k t id) (us ++ vs)
  unfolding last_write
  hidden_same k us w vs h =
      last_both (goes_to last k t id) us (w ∷ vs)
      ∙ ap (λ (x : Text). option_or x (last_write (goes_to last k t id) us)) (hidden_last k w vs (goes_to last k t id w) refl h)
      ∙ sym (last_both (goes_to last k t id) us vs)

  -- a write to a slot that was filled before
  filled_by : (k : ℕ) (w u : Written) (us : List Written) → goes_to last k t id w ≡ true → ((same_address u w && nat_le u.moment w.moment) ≡ true) ⊎ (was_filled w us ≡ true)
      → (was_filled w us ≡ true → is_some (last_write (goes_to last k t id) us) ≡ true) → is_some (last_write (goes_to last k t id) (u ∷ us)) ≡ true
  filled_by k w u us goes (inl e) go =
      let parts = and_parts (same_address u w) (nat_le u.moment w.moment) e in
      let first = leb-true u.moment w.moment parts.1 in
      let before = goes_before k w goes in
      let early : u.moment < k = omega (arith, first, before) in
      here (goes_to last k t id) u us (goes_back k k u w parts.0 goes early)
  filled_by k w u us goes (inr e) go = there (goes_to last k t id) u us (go e)

  filled_before : (k : ℕ) (w : Written) (us : List Written) → was_filled w us ≡ true → goes_to last k t id w ≡ true → is_some (last_write (goes_to last k t id) us) ≡ true
  unfolding was_filled
  filled_before k w [] h goes = absurd (false≢true h)
  filled_before k w (u ∷ us) h goes = filled_by k w u us goes (or_cases (same_address u w && nat_le u.moment w.moment) (was_filled w us) h) (λ e. filled_before k w us e goes)

  filled_go : (k : ℕ) (us : List Written) (w : Written) (vs : List Written) (o : Text) (b : Bool) → goes_to last k t id w ≡ b → was_filled w us ≡ true
      → is_some (option_or (option_or (option_or (last_write (goes_to last k t id) vs) (cond b (Some w.text) None)) (last_write (goes_to last k t id) us)) o)
      ≡ is_some (option_or (option_or (last_write (goes_to last k t id) vs) (last_write (goes_to last k t id) us)) o)
  filled_go k us w vs o false e h = ap (λ (x : Text). is_some (option_or (option_or x (last_write (goes_to last k t id) us)) o)) (or_none (last_write (goes_to last k t id) vs))
  filled_go k us w vs o true e h =
      let some = filled_before k w us h e in
      first_some _ o (second_some (option_or (last_write (goes_to last k t id) vs) (Some w.text)) (last_write (goes_to last k t id) us) some)
      ∙ sym (first_some _ o (second_some (last_write (goes_to last k t id) vs) (last_write (goes_to last k t id) us) some))

  filled_same : (k : ℕ) (us : List Written) (w : Written) (vs : List Written) (o : Text) → was_filled w us ≡ true
      → is_some (option_or (last_write (goes_to last k t id) (us ++ (w ∷ vs))) o) ≡ is_some (option_or (last_write (goes_to last k t id) (us ++ vs)) o)
  unfolding last_write
  filled_same k us w vs o h =
      ap (λ (x : Text). is_some (option_or x o)) (last_both (goes_to last k t id) us (w ∷ vs))
      ∙ filled_go k us w vs o (goes_to last k t id w) refl h
      ∙ sym (ap (λ (x : Text). is_some (option_or x o)) (last_both (goes_to last k t id) us vs))

  -- what is filled stays filled
  more_by : (k n : ℕ) (w : Written) (ws : List Written) (x : Text) (b : Bool) → goes_to last k t id w ≡ b → last_write (goes_to last k t id) ws ≡ x → k ≤ n → is_some (option_or x (cond b (Some w.text) None)) ≡ true
      → (is_some (last_write (goes_to last k t id) ws) ≡ true → is_some (last_write (goes_to last n t id) ws) ≡ true) → is_some (last_write (goes_to last n t id) (w ∷ ws)) ≡ true
  more_by k n w ws (Some v) b e was le h go = there (goes_to last n t id) w ws (go (ap is_some was))
  more_by k n w ws None true e was le h go = here (goes_to last n t id) w ws (goes_later k n w le e)
  more_by k n w ws None false e was le h go = absurd (false≢true h)

  more_last : (k n : ℕ) (ws : List Written) → k ≤ n → is_some (last_write (goes_to last k t id) ws) ≡ true → is_some (last_write (goes_to last n t id) ws) ≡ true
  unfolding last_write
  more_last k n [] le h = h
  more_last k n (w ∷ ws) le h = more_by k n w ws (last_write (goes_to last k t id) ws) (goes_to last k t id w) refl refl le h (more_last k n ws le)

-- the same tables, slot by slot
same_table : (last : Table → ℕ) (k : ℕ) (x : Tables) (ws vs : List Written) (t : Table) → ((id : ℕ) → last_write (goes_to last k t id) ws ≡ last_write (goes_to last k t id) vs)
    → table_in (played last k x ws) t ≡ table_in (played last k x vs) t
same_table last k x ws vs t same =
    let size = played_length last k x ws t in
    ext_get_or None (table_in (played last k x ws) t) (table_in (played last k x vs) t) (size ∙ sym (played_length last k x vs t))
    (λ id h. let within : id < length (table_in x t) = rw (sym size) h in
    slot_played last k x ws t id within ∙ ap (λ (o : Text). option_or o (slots_of_tables x t id)) (same id) ∙ sym (slot_played last k x vs t id within))

pub tables_hidden : (last : Table → ℕ) (k : ℕ) (x : Tables) (us : List Written) (w : Written) (vs : List Written) → is_hidden w vs k ≡ true
    → played last k x (us ++ (w ∷ vs)) ≡ played last k x (us ++ vs)
tables_hidden last k x us w vs h = λ i. record {
  names = same_table last k x (us ++ (w ∷ vs)) (us ++ vs) Table.Name (λ id. hidden_same last Table.Name id k us w vs h) i;
  prefixes = same_table last k x (us ++ (w ∷ vs)) (us ++ vs) Table.Prefix (λ id. hidden_same last Table.Prefix id k us w vs h) i;
  datatypes = same_table last k x (us ++ (w ∷ vs)) (us ++ vs) Table.Datatype (λ id. hidden_same last Table.Datatype id k us w vs h) i;
}

-- a slot outside of its table
pub no_slot : (last : Table → ℕ) (k : ℕ) (x : Tables) (ws : List Written) (t : Table) (id : ℕ) → length (table_in x t) ≤ id → slots_of_tables (played last k x ws) t id ≡ None
no_slot last k x ws t id h = let size = played_length last k x ws t in let outside : length (table_in (played last k x ws) t) ≤ id = omega (arith, h, size) in get_or_past (table_in (played last k x ws) t) id None outside

slot_filled : (last : Table → ℕ) (k : ℕ) (x : Tables) (us : List Written) (w : Written) (vs : List Written) (t : Table) (id : ℕ) → was_filled w us ≡ true
    → is_some (slots_of_tables (played last k x (us ++ (w ∷ vs))) t id) ≡ is_some (slots_of_tables (played last k x (us ++ vs)) t id)
slot_filled last k x us w vs t id h = elim (cases_lt id (length (table_in x t))) [
  | inl within ↦
      ap is_some (slot_played last k x (us ++ (w ∷ vs)) t id within)
      ∙ filled_same last t id k us w vs (slots_of_tables x t id) h
      ∙ sym (ap is_some (slot_played last k x (us ++ vs) t id within))
  | inr outside ↦ ap is_some (no_slot last k x (us ++ (w ∷ vs)) t id outside ∙ sym (no_slot last k x (us ++ vs) t id outside))
]

slot_stays : (last : Table → ℕ) (k n : ℕ) (x : Tables) (ws : List Written) (t : Table) (id : ℕ) → k ≤ n
    → is_some (slots_of_tables (played last k x ws) t id) ≡ true → is_some (slots_of_tables (played last n x ws) t id) ≡ true
slot_stays last k n x ws t id le h = elim (cases_lt id (length (table_in x t))) [
  | inl within ↦
      ap is_some (slot_played last n x ws t id within)
      ∙ more_some (last_write (goes_to last k t id) ws) (last_write (goes_to last n t id) ws) (slots_of_tables x t id) (more_last last t id k n ws le)
      (sym (ap is_some (slot_played last k x ws t id within)) ∙ h)
  | inr outside ↦ absurd (false≢true (sym (ap is_some (no_slot last k x ws t id outside)) ∙ h))
]

-- whether a text is there
filled_test : (o : Text) → is_some (answered (some_or o NoEntry)) ≡ is_some o
filled_test None = refl
filled_test (Some v) = refl

prefix_test : (b : Bool) (o : Text) → is_some (answered (cond b (Ok []) (some_or o NoEntry))) ≡ (b || is_some o)
prefix_test true o = refl
prefix_test false o = filled_test o

abbrev pub is_there : Slots → Table → ℕ → Bool
is_there slots Table.Name id = is_some (slots Table.Name id)
is_there slots Table.Prefix id = (id == 0) || is_some (slots Table.Prefix id)
is_there slots Table.Datatype id = is_some (slots Table.Datatype id)

pub there_test : (slots : Slots) (t : Table) (id : ℕ) → is_some (answered (text_in slots t id)) ≡ is_there slots t id
there_test slots Table.Name id = filled_test (slots Table.Name id)
there_test slots Table.Prefix id = prefix_test (id == 0) (slots Table.Prefix id)
there_test slots Table.Datatype id = filled_test (slots Table.Datatype id)

there_same : (x y : Slots) (t : Table) (id : ℕ) → is_some (x t id) ≡ is_some (y t id) → is_there x t id ≡ is_there y t id
there_same x y Table.Name id h = h
there_same x y Table.Prefix id h = ap (λ (b : Bool). (id == 0) || b) h
there_same x y Table.Datatype id h = h

or_more : (b x y : Bool) → (x ≡ true → y ≡ true) → (b || x) ≡ true → (b || y) ≡ true
or_more true x y h k = refl
or_more false x y h k = h k

there_stays : (x y : Slots) (t : Table) (id : ℕ) → (is_some (x t id) ≡ true → is_some (y t id) ≡ true) → is_there x t id ≡ true → is_there y t id ≡ true
there_stays x y Table.Name id h k = h k
there_stays x y Table.Prefix id h k = or_more (id == 0) (is_some (x Table.Prefix id)) (is_some (y Table.Prefix id)) h k
there_stays x y Table.Datatype id h k = h k

-- a write that is dropped
module _ (s : State) (us : List Written) (w : Written) (vs : List Written) where
  abbrev pub long : List Written
  long = us ++ (w ∷ vs)

  abbrev pub short : List Written
  short = us ++ vs

  meets_same : (k : ℕ) (need : Need) → was_filled w us ≡ true → meets s long k need ≡ meets s short k need
  meets_same k (Need.Fits t id) h = refl
  meets_same k (Need.Filled t id) h =
      there_test (slots_at s long k) t (real id (last_id s.ids t))
      ∙ there_same (slots_at s long k) (slots_at s short k) t (real id (last_id s.ids t)) (slot_filled (entry_of s) k s.tables us w vs t (real id (last_id s.ids t)) h)
      ∙ sym (there_test (slots_at s short k) t (real id (last_id s.ids t)))
  meets_same k (Need.Has x) h = refl
  meets_same k (Need.Lacks x) h = refl
  meets_same k Need.Never h = refl

  unmet_same : (ds : List Demand) → was_filled w us ≡ true → unmet s long ds ≡ unmet s short ds
  unfolding unmet
  unmet_same [] h = refl
  unmet_same (d ∷ ds) h =
      ap (λ (b : Bool). cond b (unmet s long ds) (Some d.fault)) (meets_same d.moment d.need h)
      ∙ ap (λ (f : Option Fault). cond (meets s short d.moment d.need) f (Some d.fault)) (unmet_same ds h)

  left_same : (l : Left) (before : Option Value) → is_unseen w vs (moments_of l) ≡ true → left_after s long l before ≡ left_after s short l before
  unfolding is_unseen
  left_same Left.Incoming before h = refl
  left_same Left.Cleared before h = refl
  left_same (Left.Set x) before h =
      let hidden = and_parts (is_hidden w vs x.moment) true h in
      ap (λ (y : Tables). Some (sym_value (slots_of_tables y) s.ids x.term)) (tables_hidden (entry_of s) x.moment s.tables us w vs hidden.0)

unseen_both : (w : Written) (vs : List Written) (ks ns : List ℕ) → is_unseen w vs (ks ++ ns) ≡ true → (is_unseen w vs ks ≡ true) × (is_unseen w vs ns ≡ true)
unfolding is_unseen
unseen_both w vs [] ns h = (refl, h)
unseen_both w vs (k ∷ ks) ns h =
    let parts = and_parts (is_hidden w vs k) (is_unseen w vs (ks ++ ns)) h in
    let rest = unseen_both w vs ks ns parts.1 in
    (and_from _ _ parts.0 rest.0, rest.1)

pub drops_write : DropsWrite
unfolding is_unseen
drops_write m us w vs s filled unseen =
    let all = and_parts (is_hidden w vs m.rows) _ unseen in
    let a = unseen_both w vs (moments_of m.subject) _ all.1 in
    let b = unseen_both w vs (moments_of m.predicate) _ a.1 in
    let c = unseen_both w vs (moments_of m.object) _ b.1 in
    let d = unseen_both w vs (moments_of m.graph) _ c.1 in
    let states : state_after (record m { writes = us ++ (w ∷ vs) }) s ≡ state_after (record m { writes = us ++ vs }) s
    = λ i. record (state_after (record m { writes = us ++ vs }) s) {
      tables = tables_hidden (entry_of s) m.rows s.tables us w vs all.0 i;
      subject = left_same s us w vs m.subject s.subject a.0 i;
      predicate = left_same s us w vs m.predicate s.predicate b.0 i;
      object = left_same s us w vs m.object s.object c.0 i;
      graph = left_same s us w vs m.graph s.graph d.0 i;
      open_graph = left_same s us w vs m.open_graph s.open_graph d.1 i;
    } in
    ap (λ (f : Option Fault). settled f (state_after (record m { writes = us ++ (w ∷ vs) }) s)) (unmet_same s us w vs m.demands filled)
    ∙ ap (settled (unmet s (us ++ vs) m.demands)) states

-- a demand that is dropped
pub meets_stays : (s : State) (ws : List Written) (k n : ℕ) (need : Need) → k ≤ n → meets s ws k need ≡ true → meets s ws n need ≡ true
meets_stays s ws k n (Need.Fits t id) le h = h
meets_stays s ws k n (Need.Filled t id) le h =
    there_test (slots_at s ws n) t (real id (last_id s.ids t))
    ∙ there_stays (slots_at s ws k) (slots_at s ws n) t (real id (last_id s.ids t)) (slot_stays (entry_of s) k n s.tables ws t (real id (last_id s.ids t)) le)
    (sym (there_test (slots_at s ws k) t (real id (last_id s.ids t))) ∙ h)
meets_stays s ws k n (Need.Has x) le h = h
meets_stays s ws k n (Need.Lacks x) le h = h
meets_stays s ws k n Need.Never le h = h

some_not_none : {f : Fault} → Some f ≡ None → ⊥
some_not_none e = cc

asked_by : (s : State) (ws : List Written) (d e : Demand) (es : List Demand) (b : Bool) → meets s ws e.moment e.need ≡ b → cond b (unmet s ws es) (Some e.fault) ≡ None
    → ((same_need e.need d.need && nat_le e.moment d.moment) ≡ true) ⊎ (was_asked d es ≡ true) → (was_asked d es ≡ true → unmet s ws es ≡ None → meets s ws d.moment d.need ≡ true)
    → meets s ws d.moment d.need ≡ true
asked_by s ws d e es true met none (inl h) go =
    let parts = and_parts (same_need e.need d.need) (nat_le e.moment d.moment) h in
    let same = need_is e.need d.need parts.0 in
    meets_stays s ws e.moment d.moment d.need (leb-true e.moment d.moment parts.1) (subst (λ (n : Need). meets s ws e.moment n ≡ true) same met)
asked_by s ws d e es true met none (inr h) go = go h none
asked_by s ws d e es false met none h go = absurd (some_not_none none)

asked_meets : (s : State) (ws : List Written) (d : Demand) (ds : List Demand) → was_asked d ds ≡ true → unmet s ws ds ≡ None → meets s ws d.moment d.need ≡ true
unfolding was_asked unmet
asked_meets s ws d [] h none = absurd (false≢true h)
asked_meets s ws d (e ∷ es) h none =
    asked_by s ws d e es (meets s ws e.moment e.need) refl none (or_cases (same_need e.need d.need && nat_le e.moment d.moment) (was_asked d es) h) (λ k n. asked_meets s ws d es k n)

first_decides : (u x y : Option Fault) → (u ≡ None → x ≡ y) → option_or u x ≡ option_or u y
first_decides None x y h = h refl
first_decides (Some f) x y h = refl

pub drops_demand : DropsDemand
unfolding unmet
drops_demand m ds d es s asked =
    let faults : unmet s m.writes (ds ++ (d ∷ es)) ≡ unmet s m.writes (ds ++ es)
    = unmet_both s m.writes ds (d ∷ es)
    ∙ first_decides (unmet s m.writes ds) (unmet s m.writes (d ∷ es)) (unmet s m.writes es)
    (λ none. ap (λ (b : Bool). cond b (unmet s m.writes es) (Some d.fault)) (asked_meets s m.writes d ds asked none))
    ∙ sym (unmet_both s m.writes ds es) in
    ap (λ (f : Option Fault). settled f (state_after m s)) faults
