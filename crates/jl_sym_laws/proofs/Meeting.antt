-- Demands that the run's own writes meet.
use Rattle.std.proofs.Common.{◌≡◌, ℕ, ◌<◌, ◌≤◌, ◌==◌, Bool, true, false, ◌&&◌, ◌||◌, List, [], ◌∷◌, ◌++◌, length, Option, Some, is_some, refl, ap, subst, sym, ◌∙◌, cond, arith, nat_lt, nat_le, ◌⊎◌, inl, inr, eq-eqb}
use Rattle.std.proofs.lemmas.Bool.{leb-true, lt-ltb, and_parts, and_from, or_cases, false≢true}
use Rattle.std.specs.Option.{option_or}
use Rattle.jl_base.specs.declared.place.Fault.{Fault}
use Rattle.jl_rows.specs.declared.row.Table.{Table}
use Rattle.jl_rows.specs.History.{is_table}
use Rattle.jl_rows.specs.Decoder.{size_of}
use Rattle.jl_rows.specs.Written.{StreamOptions}
use Rattle.jl_rows.specs.Values.{Slots}
use Rattle.jl_state.specs.States.{State, table_of, entry_of, slots_in}
use Rattle.jl_state.specs.Running.{settled}
use Rattle.jl_sym_laws.specs.RelativeIds.{Id, real}
use Rattle.jl_sym_laws.specs.Summaries.{Written, Need, Demand}
use Rattle.jl_sym_laws.specs.Acting.{slots_at, meets, unmet, state_after}
use Rattle.jl_sym_laws.specs.Compacting.{last_write, goes_to, same_id}
use Rattle.jl_sym_laws.specs.Cutting.{Sized, is_reference_in, is_need_in}
use Rattle.jl_sym_laws.specs.Meeting.{is_slot_written, is_written, DropsWritten}
use Rattle.jl_sym_laws.proofs.Drops.{first_some, here, there, is_there, there_test}
use Rattle.jl_sym_laws.proofs.LastWrites.{slot_is_last_write}
use Rattle.jl_sym_laws.proofs.Later.{unmet_both}
use Rattle.jl_sym_laws.proofs.Sameness.{id_is}

-- a reference of a known id is one to a slot of each state of the options' sizes
in_table : (o : StreamOptions) (t : Table) (n : ℕ) → is_reference_in o t (Id.Given n) ≡ true → n ≤ size_of o t
in_table o Table.Name n e = leb-true n o.names (and_parts (nat_lt 0 n) (nat_le n o.names) e).1
in_table o Table.Prefix n e = leb-true n o.prefixes (and_parts (nat_lt 0 n) (nat_le n o.prefixes) e).1
in_table o Table.Datatype n e = leb-true n o.datatypes (and_parts (nat_lt 0 n) (nat_le n o.datatypes) e).1

known_within : (o : StreamOptions) (s : State) (t : Table) (n : ℕ) → Sized o s → is_reference_in o t (Id.Given n) ≡ true → n < length (table_of s t)
known_within o s t n sized e = let within = in_table o t n e in let size = sized.sizes t in omega (arith, within, size)

-- a write to the slot is one that goes there
module _ (s : State) (k : ℕ) (t : Table) (n : ℕ) where
  written_by : (w : Written) (ws : List Written) → ((is_table w.table t && (same_id w.id (Id.Given n) && nat_lt w.moment k)) ≡ true) ⊎ (is_slot_written t n k ws ≡ true)
      → (is_slot_written t n k ws ≡ true → is_some (last_write (goes_to (entry_of s) k t n) ws) ≡ true) → is_some (last_write (goes_to (entry_of s) k t n) (w ∷ ws)) ≡ true
  written_by w ws (inl e) go =
      let parts = and_parts (is_table w.table t) (same_id w.id (Id.Given n) && nat_lt w.moment k) e in
      let slot = and_parts (same_id w.id (Id.Given n)) (nat_lt w.moment k) parts.1 in
      let at_id : (real w.id (entry_of s w.table) == n) ≡ true = subst (λ (i : Id). (real i (entry_of s w.table) == n) ≡ true) (sym (id_is w.id (Id.Given n) slot.0)) (eq-eqb n n refl) in
      here (goes_to (entry_of s) k t n) w ws (and_from _ _ parts.0 (and_from _ _ at_id slot.1))
  written_by w ws (inr e) go = there (goes_to (entry_of s) k t n) w ws (go e)

  slot_written : (ws : List Written) → is_slot_written t n k ws ≡ true → is_some (last_write (goes_to (entry_of s) k t n) ws) ≡ true
  unfolding is_slot_written
  slot_written [] h = absurd (false≢true h)
  slot_written (w ∷ ws) h = written_by w ws (or_cases (is_table w.table t && (same_id w.id (Id.Given n) && nat_lt w.moment k)) (is_slot_written t n k ws) h) (λ e. slot_written ws e)

or_second : (b c : Bool) → c ≡ true → (b || c) ≡ true
or_second true c h = refl
or_second false c h = h

there_from : (slots : Slots) (t : Table) (n : ℕ) → is_some (slots t n) ≡ true → is_there slots t n ≡ true
there_from slots Table.Name n h = h
there_from slots Table.Prefix n h = or_second (n == 0) (is_some (slots Table.Prefix n)) h
there_from slots Table.Datatype n h = h

-- what a run wrote is there
pub written_meets : (o : StreamOptions) (s : State) (ws : List Written) (k : ℕ) (need : Need) → Sized o s → is_need_in o need ≡ true → is_written need k ws ≡ true → meets s ws k need ≡ true
written_meets o s ws k (Need.Filled t (Id.Given n)) sized inside h =
    let is : is_some (slots_at s ws k t n) ≡ true
    = ap is_some (slot_is_last_write s ws k t n (known_within o s t n sized inside)) ∙ first_some (last_write (goes_to (entry_of s) k t n) ws) (slots_in s t n) (slot_written s k t n ws h) in
    there_test (slots_at s ws k) t n ∙ there_from (slots_at s ws k) t n is
written_meets o s ws k (Need.Filled t (Id.After j)) sized inside h = absurd (false≢true h)
written_meets o s ws k (Need.Fits t id) sized inside h = absurd (false≢true h)
written_meets o s ws k (Need.Has x) sized inside h = absurd (false≢true h)
written_meets o s ws k (Need.Lacks x) sized inside h = absurd (false≢true h)
written_meets o s ws k Need.Never sized inside h = absurd (false≢true h)

-- a demand that the writes meet is none
pub unmet_written : (o : StreamOptions) (s : State) (ws : List Written) (ds : List Demand) (d : Demand) (es : List Demand) → Sized o s → is_need_in o d.need ≡ true → is_written d.need d.moment ws ≡ true
    → unmet s ws (ds ++ (d ∷ es)) ≡ unmet s ws (ds ++ es)
unfolding unmet
unmet_written o s ws ds d es sized inside h =
    unmet_both s ws ds (d ∷ es)
    ∙ ap (λ (b : Bool). option_or (unmet s ws ds) (cond b (unmet s ws es) (Some d.fault))) (written_meets o s ws d.moment d.need sized inside h)
    ∙ sym (unmet_both s ws ds es)

pub drops_written : DropsWritten
drops_written o m ds d es s sized inside h = ap (λ (f : Option Fault). settled f (state_after m s)) (unmet_written o s m.writes ds d es sized inside h)

-- more writes, and later moments
or_step : (b c d e : Bool) → (b ≡ true → d ≡ true) → (c ≡ true → e ≡ true) → (b || c) ≡ true → (d || e) ≡ true
or_step true c true e f g h = refl
or_step true c false e f g h = absurd (false≢true (f refl))
or_step false c true e f g h = refl
or_step false c false e f g h = g h

slot_more : (t : Table) (n k : ℕ) (ws vs : List Written) → is_slot_written t n k ws ≡ true → is_slot_written t n k (ws ++ vs) ≡ true
unfolding is_slot_written
slot_more t n k [] vs h = absurd (false≢true h)
slot_more t n k (w ∷ ws) vs h =
    let b = is_table w.table t && (same_id w.id (Id.Given n) && nat_lt w.moment k) in
    or_step b (is_slot_written t n k ws) b (is_slot_written t n k (ws ++ vs)) (λ e. e) (slot_more t n k ws vs) h

pub written_more : (need : Need) (k : ℕ) (ws vs : List Written) → is_written need k ws ≡ true → is_written need k (ws ++ vs) ≡ true
written_more (Need.Filled t (Id.Given n)) k ws vs h = slot_more t n k ws vs h
written_more (Need.Filled t (Id.After j)) k ws vs h = h
written_more (Need.Fits t id) k ws vs h = h
written_more (Need.Has x) k ws vs h = h
written_more (Need.Lacks x) k ws vs h = h
written_more Need.Never k ws vs h = h

table_itself : (t : Table) → is_table t t ≡ true
table_itself Table.Name = refl
table_itself Table.Prefix = refl
table_itself Table.Datatype = refl

or_first : (b c : Bool) → b ≡ true → (b || c) ≡ true
or_first true c h = refl
or_first false c h = absurd (false≢true h)

-- the write that was just made
slot_now : (w : Written) (n k : ℕ) (ws : List Written) → same_id w.id (Id.Given n) ≡ true → w.moment < k → is_slot_written w.table n k (ws ++ w ∷ []) ≡ true
unfolding is_slot_written
slot_now w n k [] id early = or_first _ false (and_from _ _ (table_itself w.table) (and_from _ _ id (lt-ltb w.moment k early)))
slot_now w n k (v ∷ ws) id early = or_second _ (is_slot_written w.table n k (ws ++ w ∷ [])) (slot_now w n k ws id early)

pub written_now : (w : Written) (n k : ℕ) (ws : List Written) → w.id ≡ Id.Given n → w.moment < k → is_written (Need.Filled w.table (Id.Given n)) k (ws ++ w ∷ []) ≡ true
written_now w n k ws id early = slot_now w n k ws (subst (λ (i : Id). same_id i (Id.Given n) ≡ true) (sym id) (eq-eqb n n refl)) early
