-- Two summaries in turn: what they sum, what they lead to, and what they keep.
use Rattle.std.proofs.Common.{◌≡◌, List, ℕ, Result, Ok, Err, refl, ap, subst, sym, ◌∙◌}
use Rattle.jl_base.specs.Results.{◌>>=◌, Reading, joined}
use Rattle.jl_base.specs.declared.place.Fault.{Fault}
use Rattle.jl_rows.specs.Written.{StreamOptions}
use Rattle.jl_rows.specs.Files.{Placed}
use Rattle.jl_state.specs.States.{State}
use Rattle.jl_state.specs.Running.{after_reading}
use Rattle.jl_sym_laws.specs.Summaries as sums
use Rattle.jl_sym_laws.specs.Acting.{act}
use Rattle.jl_sym_laws.specs.Composing.{composed, Timed}
use Rattle.jl_sym_laws.specs.Cutting.{IsMade}
use Rattle.jl_sym_laws.specs.Runs.{of_reading, history_after, Leads}
use Rattle.jl_sym_laws.specs.Staying.{IsSettled, Settles}
use Rattle.jl_sym_laws.proofs.Composition.{composes}
use Rattle.jl_sym_laws.proofs.DecodeLaws.{decodes, both_lead}
use Rattle.jl_sym_laws.proofs.RunLaws.{unit_does_nothing, readings_sum, readings_timed, joined_sum}
use Rattle.jl_sym.specs.declared.summary.Summary.{Summary}
use Rattle.jl_sym.specs.Held.{HasSummary}
use Rattle.jl_sym.specs.Lawful.{IsLawful}
use Rattle.jl_sym.specs.Seen.{summary_seen}
use Rattle.jl_sym.proofs.GrowLemmas.{bind_assoc}
use Rattle.jl_compose.specs.Appending.{appended}
use Rattle.jl_compose.specs.Turns.{Change, HasTables, ActsInTurn, KeepsSettled, Turns, StaysLawful, seen_act}
use Rattle.jl_compose.specs.Laws.{SumsOnSettled, LeadsOnSettled, SumsLead, AlikeSum, AlikeLead, BothSum, BothLead, UnitFirst, UnitSecond, GroupsAlike}
use Rattle.jl_compose.proofs.Acts.{appended_acts}
use Rattle.jl_compose.proofs.Mades.{appended_made}

abbrev pub Led : Type 0
Led = Result State Fault

-- what goes on from an answer, where it is one
pub bind_where : (r : Led) (f g : State → Led) → ((t : State) → r ≡ Ok t → f t ≡ g t) → (r >>= f) ≡ (r >>= g)
bind_where (Ok t) f g h = h t refl
bind_where (Err e) f g h = refl

pub bind_ok : (r : Led) → (r >>= λ t. Ok t) ≡ r
bind_ok (Ok t) = refl
bind_ok (Err e) = refl

pub record Bound (r : Led) (f : State → Led) (u : State) : Type 0 where
  pub value : State
  pub was : r ≡ Ok value
  pub next : f value ≡ Ok u

pub bound : (r : Led) (f : State → Led) (u : State) → (r >>= f) ≡ Ok u → Bound r f u
bound (Ok t) f u e = record { value = t; was = refl; next = e }
bound (Err e) f u h = absurd (cc)

-- two that settle settle in turn
pub turns_settle : (o : StreamOptions) (f g h : Change) → ActsInTurn o f g h → KeepsSettled o f → KeepsSettled o g → KeepsSettled o h
turns_settle o f g h turns first second s u now e =
    let p = bound (f s) g u (sym (turns s now) ∙ e) in
    second p.value u (first s p.value now p.was) p.next

composed_settles : (o : StreamOptions) (a b : sums.Summary) → Timed a → Settles o a → Settles o b → Settles o (composed a b)
composed_settles o a b timed first second = turns_settle o (act a) (act b) (act (composed a b)) (λ s now. composes a b s timed) first second

-- one summary after another, as the code puts them
pub appended_turns : (o : StreamOptions) (bytes : List ℕ) (a b c : Summary) → summary_seen bytes c ≡ appended bytes a b → HasTables o → IsLawful o bytes a → IsLawful o bytes b
    → ActsInTurn o (seen_act bytes a) (seen_act bytes b) (seen_act bytes c)
appended_turns o bytes a b c e small h k s now =
    let x = summary_seen bytes a in
    let y = summary_seen bytes b in
    ap (λ (m : sums.Summary). act m s) e
    ∙ appended_acts o bytes a b s small (composed_settles o x y h.made.timed h.settles k.settles) now
    ∙ composes x y s h.made.timed

pub appended_lawful : (o : StreamOptions) (bytes : List ℕ) (a b c : Summary) → summary_seen bytes c ≡ appended bytes a b → (HasSummary bytes a → HasSummary bytes b → HasSummary bytes c)
    → HasTables o → IsLawful o bytes a → IsLawful o bytes b → IsLawful o bytes c
appended_lawful o bytes a b c e held small h k = record {
  made = subst IsMade (sym e) (appended_made bytes a b h.made k.made);
  settles = turns_settle o (seen_act bytes a) (seen_act bytes b) (seen_act bytes c) (appended_turns o bytes a b c e small h k) h.settles k.settles;
  held = held h.held k.held;
}

-- no rows
pub unit_settles : (o : StreamOptions) → Settles o sums.unit
unit_settles o s t now e =
    let same : s ≡ t = (let both = sym (unit_does_nothing s) ∙ e in cc) in
    subst (IsSettled o) same now

pub unit_first : UnitFirst
unit_first o f h turns s now = turns s now ∙ ap (λ (r : Led). r >>= λ t. f t) (unit_does_nothing s)

pub unit_second : UnitSecond
unit_second o f h turns s now = turns s now ∙ bind_where (f s) (λ t. act sums.unit t) (λ t. Ok t) (λ t e. unit_does_nothing t) ∙ bind_ok (f s)

-- a copy of the first one, and then the second
pub copied_turns : (bytes : List ℕ) (none a b first c : Summary) → summary_seen bytes none ≡ sums.unit → ((o : StreamOptions) → IsLawful o bytes none)
    → Turns bytes none a first → StaysLawful bytes none a first → Turns bytes first b c → Turns bytes a b c
copied_turns bytes none a b first c e lawful first_turns first_stays turns o small h k s now =
    turns o small (first_stays o small (lawful o) h) k s now
    ∙ ap (λ (r : Led). r >>= λ t. seen_act bytes b t)
    (unit_first o (seen_act bytes a) (seen_act bytes first) (subst (λ (m : sums.Summary). ActsInTurn o (act m) (seen_act bytes a) (seen_act bytes first)) e (first_turns o small (lawful o) h)) s now)

pub copied_lawful : (bytes : List ℕ) (none a b first c : Summary) → ((o : StreamOptions) → IsLawful o bytes none) → StaysLawful bytes none a first → StaysLawful bytes first b c → StaysLawful bytes a b c
copied_lawful bytes none a b first c lawful first_stays stays o small h k = stays o small (first_stays o small (lawful o) h) k

-- what they sum
pub sums_on_settled : SumsOnSettled
sums_on_settled o R m h s now = h s now.sized

pub leads_on_settled : LeadsOnSettled
leads_on_settled o R m h H s stands now = h H s stands

pub sums_lead : SumsLead
sums_lead o R f h H s stands now = subst (Leads o H R) (sym (h s now)) (decodes o R H s stands)

pub alike_sum : AlikeSum
alike_sum o R f g alike h s now = alike s now ∙ h s now

pub alike_lead : AlikeLead
alike_lead o R f g alike h H s stands now = subst (Leads o H R) (sym (alike s now)) (h H s stands now)

after_joined : (o : StreamOptions) (R Q : Reading Placed Fault) (s : State) → (after_reading o s R >>= λ t. after_reading o t Q) ≡ after_reading o s (joined R Q)
after_joined o R Q s =
    let a = of_reading o R in
    let b = of_reading o Q in
    ap (λ (r : Led). r >>= λ t. after_reading o t Q) (sym (readings_sum o R s))
    ∙ bind_where (act a s) (λ t. after_reading o t Q) (λ t. act b t) (λ t e. sym (readings_sum o Q t))
    ∙ sym (composes a b s (readings_timed o R))
    ∙ joined_sum o R Q a b (readings_timed o R) (readings_sum o R) (readings_sum o Q) s

pub both_sum : BothSum
both_sum o R Q f g h settles turns first second s now =
    turns s now
    ∙ bind_where (f s) g (λ t. after_reading o t Q) (λ t e. second t (settles s t now e))
    ∙ ap (λ (r : Led). r >>= λ t. after_reading o t Q) (first s now)
    ∙ after_joined o R Q s

pub both_lead_settled : BothLead
both_lead_settled o R Q f g h settles turns first second H s stands now =
    subst (Leads o H (joined R Q)) (sym (turns s now))
    (both_lead o H R.items R.fault Q (f s) g (first H s stands now) (λ t e next. second (history_after R.items H) t next (settles s t now e)))

-- in both groupings
pub groups_alike : GroupsAlike
groups_alike o f g h fg gh left right settles first lefts second rights s now =
    lefts s now
    ∙ ap (λ (r : Led). r >>= λ t. h t) (first s now)
    ∙ bind_assoc (f s) g h
    ∙ bind_where (f s) (λ t. g t >>= λ u. h u) gh (λ t e. sym (second t (settles s t now e)))
    ∙ sym (rights s now)
