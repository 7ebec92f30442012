-- Demands that are made one after another.
use Rattle.std.proofs.Common.{◌≡◌, ℕ, ◌+◌, ◌<◌, ◌≤◌, Bool, true, false, List, [], ◌∷◌, ◌++◌, Option, Some, None, Result, Ok, Err, refl, ap, sym, ◌∙◌, subst, inl, inr, cond, append_assoc, append-nil, arith}
use Rattle.std.specs.Option.{option_or}
use Rattle.jl_base.specs.declared.kind.Kind.{Kind}
use Rattle.jl_base.specs.declared.place.Place.{Place}
use Rattle.jl_base.specs.declared.place.Fault.{Fault}
use Rattle.jl_rows.specs.Written.{StreamOptions, Term}
use Rattle.jl_sym_laws.specs.RelativeIds.{Id, Refs, refs_after}
use Rattle.jl_state.specs.States.{State, table_of}
use Rattle.jl_state.specs.declared.stop.Stop.{Stop}
use Rattle.jl_state.specs.declared.stop.Stop.TheVariants as stops
use Rattle.jl_sym_laws.specs.Summaries.{Written, Need, Demand, Summary, unit}
use Rattle.jl_state.specs.Running.{settled}
use Rattle.jl_sym_laws.specs.Acting.{unmet, act, state_after}
use Rattle.jl_sym_laws.specs.Composing.{AreWithin}
use Rattle.jl_sym_laws.specs.SmallSteps.{demand, term_demands}
use Rattle.jl_sym_laws.specs.Cutting.{IsMadeNeed, AreMadeDemands, IsMade, Sized, is_id_in, is_need_in, cut_demands, cut}
use Rattle.jl_sym_laws.proofs.Later.{unmet_both}
use Rattle.jl_sym_laws.proofs.Cuts.{cut_keeps}
use Rattle.std.proofs.Common.{◌&&◌, ◌||◌, nat_lt, nat_le, length}
use Rattle.std.proofs.lemmas.Bool.{and_parts, leb-true, lt-ltb}
use Rattle.jl_sym_laws.specs.Compacting.{same_need, was_asked}
use Rattle.jl_sym_laws.proofs.Drops.{drops_demand}
use Rattle.jl_sym_laws.specs.Meeting.{is_written}
use Rattle.jl_sym_laws.proofs.Meeting.{unmet_written, written_more}
use Rattle.jl_rows.specs.declared.row.Table.{Table}
use Rattle.jl_rows.specs.Decoder.{size_of}
use Rattle.jl_rows.specs.Values.{Position}
use Rattle.jl_state.specs.Positions.{under}
use Rattle.jl_sym.specs.Checked.{checked}
use Rattle.jl_sym.specs.declared.marks.Marks.{Marks}
use Rattle.jl_sym.specs.Earlier.{Earlier}
use Rattle.jl_sym.specs.Asking.{moved, AreOfRun, never_at, Asks}
use Rattle.jl_sym.specs.Marking.{is_marked, AreGood, AreMarked}
use Rattle.jl_sym.proofs.Following.{moved_both}

-- a demand more
made_push : (n rows : ℕ) (ds : List Demand) (d : Demand) → n ≤ rows → d.moment ≡ rows → IsMadeNeed d.need → AreMadeDemands n ds → AreWithin rows ds → AreMadeDemands n (ds ++ d ∷ [])
made_push n rows [] d le e made h w = let first : n ≤ d.moment = omega (arith, le, e) in (first, made, tt)
made_push n rows (x ∷ ds) d le e made h w = (h.0, h.1, made_push x.moment rows ds d w.0 e made h.2 w.1)

within_push : (rows : ℕ) (ds : List Demand) (d : Demand) → d.moment ≡ rows → AreWithin rows ds → AreWithin rows (ds ++ d ∷ [])
within_push rows [] d e w = let here : d.moment ≤ rows = omega (arith, e) in (here, tt)
within_push rows (x ∷ ds) d e w = (w.0, within_push rows ds d e w.1)

pub good_push : (rows : ℕ) (ds : List Demand) (d : Demand) → AreGood rows ds → d.moment ≡ rows → IsMadeNeed d.need → AreGood rows (ds ++ d ∷ [])
good_push rows ds d good e made =
    let start : 0 ≤ rows = omega arith in
    record { made = made_push 0 rows ds d start e made good.made good.within; within = within_push rows ds d e good.within }

-- a demand outside of the tables is a certain fault
settled_err : {A : Type 0} (u : Option Fault) (x : A) (f : Fault) → settled u x ≡ Err f → u ≡ Some f
settled_err None x f e = cc
settled_err (Some g) x f e = cc

pub never_unmet : (o : StreamOptions) (s : State) (was : Earlier) (ws : List Written) (d : Demand) → Sized o s → AreOfRun was ws → d.moment ≡ was.rows → IsMadeNeed d.need → is_need_in o d.need ≡ false
    → unmet s ws (d ∷ []) ≡ Some d.fault
unfolding unmet cut_demands
never_unmet o s was ws d sized of moment made out =
    let within : d.moment ≤ was.rows + 1 = omega (arith, moment) in
    let start : 0 ≤ d.moment = omega arith in
    let zero : 0 ≤ 0 = omega arith in
    let m : Summary = record unit { rows = was.rows + 1; writes = ws; demands = d ∷ [] } in
    let is : IsMade m = record { timed = record { writes = of.before; demands = (within, tt); subject = tt; predicate = tt; object = tt; graph = tt; open_graph = tt }; writes = of.made; demands = (start, made, tt); prefix = zero } in
    let fault : act (cut o m) s ≡ Err d.fault
    = ap (λ (b : Bool). settled (unmet s (cut o m).writes (cond b (d ∷ cut_demands o []) (record d { need = Need.Never } ∷ []))) (state_after (cut o m) s)) out in
    settled_err (unmet s ws (d ∷ [])) (state_after m s) d.fault (sym (cut_keeps o m s is sized) ∙ fault)

or_is : (u : Option Fault) (f : Fault) → option_or u (Some f) ≡ None → ⊥
or_is None f e = cc
or_is (Some g) f e = cc

stays : (u w x : Option Fault) (f : Fault) → option_or u (Some f) ≡ w → w ≡ option_or w x
stays u None x f e = absurd (or_is u f e)
stays u (Some g) x f e = refl

module _ (o : StreamOptions) (was : Earlier) (place : Place) (old said : List Demand) where
  both_said : (s : State) (ws : List Written) (more : List Demand) → unmet s ws (old ++ moved was.rows (said ++ more)) ≡ option_or (unmet s ws (old ++ moved was.rows said)) (unmet s ws (moved was.rows more))
  both_said s ws more =
      ap (λ (ds : List Demand). unmet s ws (old ++ ds)) (moved_both was.rows said more)
      ∙ ap (unmet s ws) (sym (append_assoc old (moved was.rows said) (moved was.rows more)))
      ∙ unmet_both s ws (old ++ moved was.rows said) (moved was.rows more)

  pub asks_then : (mid more new : List Demand) (result : Result (Unit {0}) Stop) → Asks o was place old said mid (Ok tt) → Asks o was place mid more new result → Asks o was place old (said ++ more) new result
  asks_then mid more new (Ok _) first second = λ s ws sized of.
      second s ws sized of ∙ unmet_both s ws mid (moved was.rows more) ∙ ap (λ (u : Option Fault). option_or u (unmet s ws (moved was.rows more))) (first s ws sized of) ∙ sym (both_said s ws more)
  asks_then mid more new (Err (stops.Fault kind)) first second = λ s ws sized of.
      second s ws sized of ∙ unmet_both s ws mid (moved was.rows more) ∙ ap (λ (u : Option Fault). option_or u (unmet s ws (moved was.rows more))) (first s ws sized of) ∙ sym (both_said s ws more)
  asks_then mid more new (Err stops.NoMemory) first second = tt

  -- nothing is asked after a certain fault
  pub asks_stopped : (more new : List Demand) (stop : Stop) → Asks o was place old said new (Err stop) → Asks o was place old (said ++ more) new (Err stop)
  unfolding unmet
  asks_stopped more new (stops.Fault kind) first = λ s ws sized of.
      first s ws sized of
      ∙ stays (unmet s ws new) (unmet s ws (old ++ moved was.rows said)) (unmet s ws (moved was.rows more)) (record { place = place; kind = kind }) (sym (unmet_both s ws new (never_at was.rows place kind ∷ [])) ∙ first s ws sized of)
      ∙ sym (both_said s ws more)
  asks_stopped more new stops.NoMemory first = tt

-- a need that is never met is a certain fault
pub asks_never : (o : StreamOptions) (was : Earlier) (place : Place) (old : List Demand) (kind : Kind) (need : Need) → IsMadeNeed need → is_need_in o need ≡ false → Asks o was place old (demand place kind need ∷ []) old (Err (stops.Fault kind))
unfolding unmet
asks_never o was place old kind need made out s ws sized of =
    unmet_both s ws old (never_at was.rows place kind ∷ [])
    ∙ ap (option_or (unmet s ws old)) (sym (never_unmet o s was ws (record (demand place kind need) { moment = was.rows }) sized of refl made out))
    ∙ sym (unmet_both s ws old (record (demand place kind need) { moment = was.rows } ∷ []))

-- the slot of a known id is there on every state
known_in : (o : StreamOptions) (s : State) (t : Table) (n : ℕ) → Sized o s → is_id_in (size_of o t) (Id.Given n) ≡ true → nat_lt n (length (table_of s t)) ≡ true
known_in o s t n sized e =
    let p = and_parts (nat_lt 0 n) (nat_le n (size_of o t)) e in
    let within = leb-true n (size_of o t) p.1 in
    let size = sized.sizes t in
    let below : n < length (table_of s t) = omega (arith, within, size) in
    lt-ltb n (length (table_of s t)) below

or_none : (u : Option Fault) → option_or u None ≡ u
or_none None = refl
or_none (Some f) = refl

pub asks_met : (o : StreamOptions) (was : Earlier) (place : Place) (old : List Demand) (kind : Kind) (t : Table) (n : ℕ) → is_id_in (size_of o t) (Id.Given n) ≡ true → Asks o was place old (demand place kind (Need.Fits t (Id.Given n)) ∷ []) old (Ok tt)
unfolding unmet
asks_met o was place old kind t n inside s ws sized of =
    let d = record (demand place kind (Need.Fits t (Id.Given n))) { moment = was.rows } in
    let met : unmet s ws (d ∷ []) ≡ None = ap (λ b. cond b None (Some d.fault)) (known_in o s t n sized inside) in
    sym (unmet_both s ws old (d ∷ []) ∙ ap (option_or (unmet s ws old)) met ∙ or_none (unmet s ws old))

-- so is Never itself
pub asks_refused : (o : StreamOptions) (was : Earlier) (place : Place) (old : List Demand) (kind : Kind) → Asks o was place old (demand place kind Need.Never ∷ []) old (Err (stops.Fault kind))
asks_refused o was place old kind s ws sized of = refl

-- a triple term's three
module _ (o : StreamOptions) (was : Earlier) (place : Place) (old d1 : List Demand) (r r1 : Refs) (x y z : Term) where
  pub nested_first : (stop : Stop) → Asks o was place old (term_demands place r x) d1 (Err stop) → Asks o was place old (term_demands place r (Term.Nested x y z)) d1 (Err stop)
  nested_first stop first = asks_stopped o was place old (term_demands place r x) (term_demands place (refs_after x r) y ++ term_demands place (refs_after y (refs_after x r)) z) d1 stop first

  module _ (d2 : List Demand) (first : Asks o was place old (term_demands place r x) d1 (Ok tt)) (after : r1 ≡ refs_after x r) where
    pub nested_second : (stop : Stop) → Asks o was place d1 (term_demands place r1 y) d2 (Err stop) → Asks o was place old (term_demands place r (Term.Nested x y z)) d2 (Err stop)
    nested_second stop second =
        asks_then o was place old (term_demands place r x) d1 (term_demands place (refs_after x r) y ++ term_demands place (refs_after y (refs_after x r)) z) d2 (Err stop) first
        (asks_stopped o was place d1 (term_demands place (refs_after x r) y) (term_demands place (refs_after y (refs_after x r)) z) d2 stop (subst (λ (q : Refs). Asks o was place d1 (term_demands place q y) d2 (Err stop)) after second))

    pub nested_third : (d3 : List Demand) (r2 : Refs) (result : Result (Unit {0}) Stop) → Asks o was place d1 (term_demands place r1 y) d2 (Ok tt) → r2 ≡ refs_after y r1 → Asks o was place d2 (term_demands place r2 z) d3 result
        → Asks o was place old (term_demands place r (Term.Nested x y z)) d3 result
    nested_third d3 r2 result second after2 third =
        asks_then o was place old (term_demands place r x) d1 (term_demands place (refs_after x r) y ++ term_demands place (refs_after y (refs_after x r)) z) d3 result first
        (asks_then o was place d1 (term_demands place (refs_after x r) y) d2 (term_demands place (refs_after y (refs_after x r)) z) d3 result
        (subst (λ (q : Refs). Asks o was place d1 (term_demands place q y) d2 (Ok tt)) after second)
        (subst (λ (q : Refs). Asks o was place d2 (term_demands place q z) d3 result) (after2 ∙ ap (refs_after y) after) third))

-- an unset term is checked nowhere
by_unset : (b : Bool) (o : StreamOptions) (x : Position) → under b o x Term.Unset ≡ Term.Unset
by_unset true o x = refl
by_unset false o x = refl

pub unset_checked : (o : StreamOptions) (x : Position) → checked o x Term.Unset ≡ Term.Unset
unset_checked o x = by_unset o.strict o x

-- the same term by other words
pub asks_as : (o : StreamOptions) (was : Earlier) (place : Place) (old : List Demand) (r : Refs) (t u : Term) (new : List Demand) (result : Result (Unit {0}) Stop) → t ≡ u
    → Asks o was place old (term_demands place r u) new result → Asks o was place old (term_demands place r t) new result
asks_as o was place old r t u new result e h = subst (λ (x : Term). Asks o was place old (term_demands place r x) new result) (sym e) h

-- a demand that was made before needn't be made again
settled_same : {A : Type 0} (u v : Option Fault) (x : A) → settled u x ≡ settled v x → u ≡ v
settled_same None None x e = refl
settled_same None (Some g) x e = cc
settled_same (Some f) None x e = cc
settled_same (Some f) (Some g) x e = cc

asks_again : (o : StreamOptions) (was : Earlier) (place : Place) (old : List Demand) (kind : Kind) (need : Need) → was_asked (record (demand place kind need) { moment = was.rows }) old ≡ true → Asks o was place old (demand place kind need ∷ []) old (Ok tt)
asks_again o was place old kind need asked s ws sized of =
    let m : Summary = record unit { rows = was.rows; writes = ws } in
    let d = record (demand place kind need) { moment = was.rows } in
    ap (unmet s ws) (sym (append-nil old))
    ∙ sym (settled_same (unmet s ws (old ++ d ∷ [])) (unmet s ws (old ++ [])) (state_after m s) (drops_demand m old d [] s asked))

-- nor one of a slot that was written before
asks_written : (o : StreamOptions) (was : Earlier) (place : Place) (old : List Demand) (kind : Kind) (need : Need) → is_need_in o need ≡ true → is_written need was.rows was.writes ≡ true
    → Asks o was place old (demand place kind need ∷ []) old (Ok tt)
asks_written o was place old kind need inside written s ws sized of =
    let d = record (demand place kind need) { moment = was.rows } in
    let more : is_written need was.rows ws ≡ true = subst (λ (xs : List Written). is_written need was.rows xs ≡ true) (sym of.begin.1) (written_more need was.rows was.writes of.begin.0 written) in
    ap (unmet s ws) (sym (append-nil old)) ∙ sym (unmet_written o s ws old d [] sized inside more)

-- so what is marked needn't be asked
pub asks_marked : (o : StreamOptions) (was : Earlier) (place : Place) (old : List Demand) (marks : Marks) (kind : Kind) (need : Need) → is_need_in o need ≡ true → AreMarked was old marks → is_marked need marks ≡ true
    → Asks o was place old (demand place kind need ∷ []) old (Ok tt)
asks_marked o was place old marks kind need inside marked is = elim (marked need (record (demand place kind need) { moment = was.rows }) is refl (omega arith)) [
  | inl asked ↦ asks_again o was place old kind need asked
  | inr written ↦ asks_written o was place old kind need inside written
]

or_left : (b c : Bool) → b ≡ true → (b || c) ≡ true
or_left true c e = refl
or_left false c e = cc

or_right : (b c : Bool) → c ≡ true → (b || c) ≡ true
or_right true c e = refl
or_right false c e = e

asked_by : (b x y : Bool) → (x ≡ true → y ≡ true) → (b || x) ≡ true → (b || y) ≡ true
asked_by true x y h e = refl
asked_by false x y h e = h e

-- a mark stays right while demands are made
pub asked_more : (d : Demand) (ds es : List Demand) → was_asked d ds ≡ true → was_asked d (ds ++ es) ≡ true
unfolding was_asked
asked_more d [] es e = cc
asked_more d (x ∷ ds) es e = asked_by (same_need x.need d.need && nat_le x.moment d.moment) (was_asked d ds) (was_asked d (ds ++ es)) (λ h. asked_more d ds es h) e

-- the mark of a demand that was just made
pub asked_now : (d x : Demand) (ds : List Demand) → (same_need x.need d.need && nat_le x.moment d.moment) ≡ true → was_asked d (ds ++ x ∷ []) ≡ true
unfolding was_asked
asked_now d x [] e = or_left (same_need x.need d.need && nat_le x.moment d.moment) false e
asked_now d x (y ∷ ds) e = or_right (same_need y.need d.need && nat_le y.moment d.moment) (was_asked d (ds ++ x ∷ [])) (asked_now d x ds e)
