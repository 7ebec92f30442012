-- What a run of steps, and what a summary, leads to against the definitions of the decoder.
use Rattle.std.proofs.Common.{◌≡◌, List, [], ◌∷◌, ◌++◌, Option, Some, None, Result, Ok, Err, refl, ap, subst, sym, ◌∙◌}
use Rattle.std.specs.Option.{option_or}
use Rattle.jl_base.specs.Results.{◌>>=◌, Reading, joined, followed}
use Rattle.jl_base.specs.Terms.{Item}
use Rattle.jl_base.specs.declared.kind.Kind.{Kind}
use Rattle.jl_base.specs.declared.place.Fault.{Fault}
use Rattle.jl_rows.specs.Written.{StreamOptions}
use Rattle.jl_rows.specs.Files.{Placed}
use Rattle.jl_rows.specs.History.{History}
use Rattle.jl_rows.specs.Decoder.{meaning, led_at, decoded}
use Rattle.jl_state.specs.States.{State}
use Rattle.jl_state.specs.Steps.{Stepped, step}
use Rattle.jl_state.specs.Stands.{Stands, Answers}
use Rattle.jl_state.proofs.StepLaw.{steps_follow}
use Rattle.jl_state.specs.Running.{settled, at_place, state_of, after_rows}
use Rattle.jl_sym_laws.specs.Acting.{act}
use Rattle.jl_sym_laws.specs.Runs.{history_after, Leads}
use Rattle.jl_sym_laws.specs.Laws.{Decodes, SumsSummarise, JoinedSummarise}
use Rattle.jl_sym_laws.proofs.Composition.{composes}

abbrev pub reading_of : List Placed → Option Fault → Reading Placed Fault
reading_of rs fault = record { items = rs; fault = fault }

end_leads : (o : StreamOptions) (H : History) (s : State) (fault : Option Fault) → Stands o s H → Leads o H (reading_of [] fault) (settled fault s)
unfolding decoded history_after
end_leads o H s None h = (refl, h)
end_leads o H s (Some e) h = refl

-- a row without a fault, where what follows leads on
leads_on : (o : StreamOptions) (H : History) (r : Placed) (rs : List Placed) (fault : Option Fault) (items : List Item) (x : Result State Fault)
    → meaning o r.row H ≡ Ok items → Leads o (r.row ∷ H) (reading_of rs fault) x → Leads o H (reading_of (r ∷ rs) fault) x
unfolding decoded history_after
leads_on o H r rs fault items (Ok t) e h = (ap (λ (said : Result (List Item) Kind). (led_at r.place said (decoded o (r.row ∷ H) rs fault)).fault) e ∙ h.0, h.1)
leads_on o H r rs fault items (Err kind) e h = ap (λ (said : Result (List Item) Kind). (led_at r.place said (decoded o (r.row ∷ H) rs fault)).fault) e ∙ h

-- one row, where what follows leads on
row_leads : (o : StreamOptions) (H : History) (r : Placed) (rs : List Placed) (fault : Option Fault) (x : Stepped) (f : State → Result State Fault)
    → Answers o r.row H x (meaning o r.row H) → ((t : State) → Stands o t (r.row ∷ H) → Leads o (r.row ∷ H) (reading_of rs fault) (f t))
    → Leads o H (reading_of (r ∷ rs) fault) (at_place r.place (state_of x) >>= f)
unfolding decoded history_after
row_leads o H r rs fault (Ok next) f h go = leads_on o H r rs fault next.1 (f next.0) h.0 (go next.0 h.1)
row_leads o H r rs fault (Err kind) f h go = ap (λ (said : Result (List Item) Kind). (led_at r.place said (decoded o (r.row ∷ H) rs fault)).fault) h

over_rows : (o : StreamOptions) (H : History) (s : State) (rs : List Placed) (fault : Option Fault) → Stands o s H → Leads o H (reading_of rs fault) (after_rows o s rs fault)
unfolding after_rows
over_rows o H s [] fault h = end_leads o H s fault h
over_rows o H s (r ∷ rs) fault h =
    row_leads o H r rs fault (step o r.row s) (λ t. after_rows o t rs fault) (steps_follow o s H r.row h) (λ t stands. over_rows o (r.row ∷ H) t rs fault stands)

pub decodes : Decodes
decodes o R H s h = over_rows o H s R.items R.fault h

pub sums_summarise : SumsSummarise
sums_summarise o R m h H s stands = subst (Leads o H R) (sym (h s)) (decodes o R H s stands)

-- the first fault of two readings
led_fault : (r : Placed) (said : Result (List Item) Kind) (x y : Reading Item Fault) (fault : Option Fault) → y.fault ≡ option_or x.fault fault
    → (led_at r.place said y).fault ≡ option_or (led_at r.place said x).fault fault
led_fault r (Ok items) x y fault h = h
led_fault r (Err kind) x y fault h = refl

fault_ends : (o : StreamOptions) (H : History) (rs : List Placed) (fault : Option Fault) → (decoded o H rs fault).fault ≡ option_or (decoded o H rs None).fault fault
unfolding decoded
fault_ends o H [] fault = refl
fault_ends o H (r ∷ rs) fault = led_fault r (meaning o r.row H) (decoded o (r.row ∷ H) rs None) (decoded o (r.row ∷ H) rs fault) fault (fault_ends o (r.row ∷ H) rs fault)

fault_both : (o : StreamOptions) (H : History) (xs ys : List Placed) (fault : Option Fault)
    → (decoded o H (xs ++ ys) fault).fault ≡ option_or (decoded o H xs None).fault (decoded o (history_after xs H) ys fault).fault
unfolding decoded history_after
fault_both o H [] ys fault = refl
fault_both o H (r ∷ rs) ys fault =
    led_fault r (meaning o r.row H) (decoded o (r.row ∷ H) rs None) (decoded o (r.row ∷ H) (rs ++ ys) fault) (decoded o (history_after rs (r.row ∷ H)) ys fault).fault (fault_both o (r.row ∷ H) rs ys fault)

history_both : (xs ys : List Placed) (H : History) → history_after (xs ++ ys) H ≡ history_after ys (history_after xs H)
unfolding history_after
history_both [] ys H = refl
history_both (r ∷ rs) ys H = history_both rs ys (r.row ∷ H)

or_some : (x : Option Fault) (e : Fault) → option_or x (Some e) ≡ None → ⊥
or_some None e h = cc
or_some (Some d) e h = cc

second_leads : (o : StreamOptions) (H : History) (xs : List Placed) (Q : Reading Placed Fault) (x : Result State Fault) → (decoded o H xs None).fault ≡ None
    → Leads o (history_after xs H) Q x → Leads o H (followed xs None Q) x
second_leads o H xs Q (Ok t) e h = (
  fault_both o H xs Q.items Q.fault ∙ ap (λ (f : Option Fault). option_or f (decoded o (history_after xs H) Q.items Q.fault).fault) e ∙ h.0,
  subst (λ (K : History). Stands o t K) (sym (history_both xs Q.items H)) h.1,
)
second_leads o H xs Q (Err fault) e h =
    fault_both o H xs Q.items Q.fault ∙ ap (λ (f : Option Fault). option_or f (decoded o (history_after xs H) Q.items Q.fault).fault) e ∙ h

-- the second run goes on from where the first one led to
pub both_lead : (o : StreamOptions) (H : History) (xs : List Placed) (fault : Option Fault) (Q : Reading Placed Fault) (x : Result State Fault) (f : State → Result State Fault)
    → Leads o H (reading_of xs fault) x → ((t : State) → x ≡ Ok t → Stands o t (history_after xs H) → Leads o (history_after xs H) Q (f t)) → Leads o H (followed xs fault Q) (x >>= f)
both_lead o H xs None Q (Ok t) f h go = second_leads o H xs Q (f t) h.0 (go t refl h.1)
both_lead o H xs None Q (Err e) f h go = fault_both o H xs Q.items Q.fault ∙ ap (λ (d : Option Fault). option_or d (decoded o (history_after xs H) Q.items Q.fault).fault) h
both_lead o H xs (Some e) Q (Ok t) f h go = absurd (or_some (decoded o H xs None).fault e (sym (fault_ends o H xs (Some e)) ∙ h.0))
both_lead o H xs (Some e) Q (Err d) f h go = h

pub joined_summarise : JoinedSummarise
joined_summarise o R Q a b timed h k H s stands =
    subst (Leads o H (joined R Q)) (sym (composes a b s timed))
    (both_lead o H R.items R.fault Q (act a s) (λ t. act b t) (h H s stands) (λ t is next. k (history_after R.items H) t next))
