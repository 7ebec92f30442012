-- What a term demands and means is what the decoder finds in it.
use Rattle.std.proofs.Common.{◌≡◌, ℕ, ◌+◌, ◌==◌, Bool, true, false, List, [], ◌∷◌, ◌++◌, Option, Some, None, is_some, Result, Ok, Err, refl, ap, subst, sym, ◌∙◌, cond}
use Rattle.std.specs.Option.{option_or}
use Rattle.jl_base.specs.Results.{◌>>=◌, some_or, answered}
use Rattle.jl_base.specs.Terms.{Tail, Value}
use Rattle.jl_base.specs.declared.kind.Kind.{Kind}
use Rattle.jl_base.specs.declared.kind.Kind.TheVariants.{NoEntry, BadLangtag}
use Rattle.jl_base.specs.declared.place.Place.{Place}
use Rattle.jl_base.specs.declared.place.Fault.{Fault}
use Rattle.jl_rows.specs.declared.row.Table.{Table}
use Rattle.jl_rows.specs.Written.{Ids, Ending, Term}
use Rattle.jl_rows.specs.Values.{Slots, filled, prefix_text, is_tag, tail_of}
use Rattle.jl_state.specs.States.{State, slots_in}
use Rattle.jl_state.specs.Steps.{ids_after, text_at, looked}
use Rattle.jl_sym_laws.specs.RelativeIds.{Id, real, Refs, real_ids, refs_following, incoming, refs_written, refs_after, entry_written}
use Rattle.jl_sym_laws.specs.Symbols.{found, tail_value, sym_value, tail_written, term_written}
use Rattle.jl_sym_laws.specs.Summaries.{Need}
use Rattle.jl_state.specs.Running.{settled, at_place}
use Rattle.jl_sym_laws.specs.Acting.{played, unmet}
use Rattle.jl_sym_laws.specs.SmallSteps.{demand, tail_demands, term_demands}
use Rattle.jl_sym_laws.proofs.Ids.{real_ids_following}
use Rattle.jl_sym_laws.proofs.Later.{unmet_both}
use Rattle.jl_sym_laws.proofs.Quiet.{incoming_is}

abbrev pub fault_of : Place → Kind → Fault
fault_of place kind = record { place = place; kind = kind }

-- the rule for 0, by cases
last_again : (b : Bool) (n last : ℕ) → last + 0 ≡ last → real (cond b (Id.After 0) (Id.Given n)) last ≡ cond b last n
last_again true n last e = e
last_again false n last e = refl

next_one : (b : Bool) (n last : ℕ) → real (cond b (Id.After 1) (Id.Given n)) last ≡ cond b (last + 1) n
next_one true n last = refl
next_one false n last = refl

pub entry_written_is : (n last : ℕ) → real (entry_written n) last ≡ cond (n == 0) (last + 1) n
entry_written_is n last = next_one (n == 0) n last

refs_written_is : (i last : Ids) → real_ids (refs_written i) last ≡ ids_after i last
refs_written_is i last = λ k. record { prefix = last_again (i.prefix == 0) i.prefix last.prefix (ap (λ (x : Ids). x.prefix) (incoming_is last)) k; name = next_one (i.name == 0) i.name last.name k }

pub read_ids : (r : Refs) (i last : Ids) → real_ids (refs_following r (refs_written i)) last ≡ ids_after i (real_ids r last)
read_ids r i last = real_ids_following r (refs_written i) last ∙ refs_written_is i (real_ids r last)

-- answers that go on, with the fault at its place
at_then : {A B : Type 0} (place : Place) (x : Result A Kind) (f : A → Result B Kind) → at_place place (x >>= f) ≡ (at_place place x >>= λ v. at_place place (f v))
at_then place (Ok v) f = refl
at_then place (Err kind) f = refl

settled_then : {A B : Type 0} (u w : Option Fault) (v : A) (y : B) (f : A → Result B Fault) → f v ≡ settled w y → (settled u v >>= f) ≡ settled (option_or u w) y
settled_then None w v y f e = e
settled_then (Some fault) w v y f e = refl

-- a part, and what comes after it
pub goes_on : {A B : Type 0} (place : Place) (x : Result A Kind) (u : Option Fault) (v : A) (f : A → Result B Kind) (w : Option Fault) (y : B)
    → at_place place x ≡ settled u v → at_place place (f v) ≡ settled w y → at_place place (x >>= f) ≡ settled (option_or u w) y
goes_on {A} {B} place x u v f w y e h =
    at_then place x f ∙ ap (λ (r : Result A Fault). r >>= λ a. at_place place (f a)) e ∙ settled_then u w v y (λ a. at_place place (f a)) h

or_none : (u : Option Fault) → option_or u None ≡ u
or_none None = refl
or_none (Some fault) = refl

-- a part, of which something is made
pub made_of : {A B : Type 0} (place : Place) (x : Result A Kind) (u : Option Fault) (v : A) (f : A → B) → at_place place x ≡ settled u v → at_place place (x >>= λ a. Ok (f a)) ≡ settled u (f v)
made_of {A} {B} place x u v f e = goes_on place x u v (λ a. Ok (f a)) None (f v) e refl ∙ ap (λ (w : Option Fault). settled w (f v)) (or_none u)

-- a prefix's text is wanting for one reason only
prefix_wants : (b : Bool) (held : Option (List ℕ)) → cond b (Ok []) (some_or held NoEntry) ≡ some_or (answered (cond b (Ok []) (some_or held NoEntry))) NoEntry
prefix_wants true held = refl
prefix_wants false None = refl
prefix_wants false (Some text) = refl

abbrev pub TextSums : Place → Ids → Result (List ℕ) Kind → Result (List ℕ) Kind → Type 0
TextSums place ids p n =
    ◌≡◌ {A = Result (Value × Ids) Fault}
    (at_place {A = Value × Ids} place (◌>>=◌ {B = Value × Ids} (p >>= λ x. n >>= λ y. Ok (x ++ y)) (λ t. Ok (Value.Iri t, ids))))
    (settled {A = Value × Ids} (cond (is_some (answered p)) (cond (is_some (answered n)) None (Some (fault_of place NoEntry))) (Some (fault_of place NoEntry))) (Value.Iri (found (p >>= λ x. n >>= λ y. Ok (x ++ y))), ids))

text_go : (place : Place) (ids : Ids) (p n : Option (List ℕ)) → TextSums place ids (some_or p NoEntry) (some_or n NoEntry)
text_go place ids (Some p) (Some n) = refl
text_go place ids (Some p) None = refl
text_go place ids None n = refl

text_sums : (place : Place) (slots : Slots) (ids : Ids) → TextSums place ids (prefix_text slots ids.prefix) (filled slots Table.Name ids.name)
text_sums place slots ids =
    subst (λ (p : Result (List ℕ) Kind). TextSums place ids p (filled slots Table.Name ids.name)) (sym (prefix_wants (ids.prefix == 0) (slots Table.Prefix ids.prefix)))
    (text_go place ids (answered (prefix_text slots ids.prefix)) (slots Table.Name ids.name))

-- the end of a literal
tag_go : (place : Place) (s : State) (tag : List ℕ) (b : Bool)
    → at_place place (cond b (Ok (Tail.Lang tag)) (Err BadLangtag)) ≡ settled (unmet s [] (cond b [] (demand place BadLangtag Need.Never ∷ []))) (Tail.Lang tag)
unfolding unmet
tag_go place s tag true = refl
tag_go place s tag false = refl

datatype_go : (place : Place) (held : Option (List ℕ))
    → at_place place (some_or held NoEntry >>= λ t. Ok (Tail.Typed t)) ≡ settled (cond (is_some (answered (some_or held NoEntry))) None (Some (fault_of place NoEntry))) (Tail.Typed (found (some_or held NoEntry)))
datatype_go place None = refl
datatype_go place (Some text) = refl

tail_sums : (place : Place) (s : State) (e : Ending) → at_place place (tail_of (slots_in s) e) ≡ settled (unmet s [] (tail_demands place e)) (tail_value (slots_in s) (tail_written e))
unfolding unmet played
tail_sums place s Ending.Simple = refl
tail_sums place s (Ending.Lang tag) = tag_go place s tag (is_tag tag)
tail_sums place s (Ending.Typed id) = datatype_go place (slots_in s Table.Datatype id)

abbrev pub said_of : State → Refs → Term → Value × Ids
said_of s r t = (sym_value (slots_in s) s.ids (term_written r t), real_ids (refs_after t r) s.ids)

-- a term that must be set, after these last ids
pub term_sums : (place : Place) (s : State) (r : Refs) (t : Term) → at_place place (looked (slots_in s) (real_ids r s.ids) t) ≡ settled (unmet s [] (term_demands place r t)) (said_of s r t)
unfolding unmet played
term_sums place s r Term.Unset = refl
term_sums place s r (Term.Iri i) =
    ap (λ (ids : Ids). at_place {A = Value × Ids} place (text_at (slots_in s) ids >>= λ t. Ok (Value.Iri t, ids))) (sym (read_ids r i s.ids))
    ∙ text_sums place (slots_in s) (real_ids (refs_following r (refs_written i)) s.ids)
term_sums place s r (Term.Bnode label) = refl
term_sums place s r (Term.Literal lex e) =
    made_of {A = Tail} {B = Value × Ids} place (tail_of (slots_in s) e) (unmet s [] (tail_demands place e)) (tail_value (slots_in s) (tail_written e)) (λ t. (Value.Literal lex t, real_ids r s.ids)) (tail_sums place s e)
term_sums place s r (Term.Nested x y z) =
    let second = refs_after x r in
    let third = refs_after y second in
    let a = said_of s r x in
    let b = said_of s second y in
    let c = said_of s third z in
    goes_on {A = Value × Ids} {B = Value × Ids} place (looked (slots_in s) (real_ids r s.ids) x) (unmet s [] (term_demands place r x)) a
    (λ a. looked (slots_in s) a.1 y >>= λ b. looked (slots_in s) b.1 z >>= λ c. Ok (Value.Nested a.0 b.0 c.0, c.1)) _ _ (term_sums place s r x)
    (goes_on {A = Value × Ids} {B = Value × Ids} place (looked (slots_in s) a.1 y) (unmet s [] (term_demands place second y)) b
    (λ b. looked (slots_in s) b.1 z >>= λ c. Ok (Value.Nested a.0 b.0 c.0, c.1)) _ _ (term_sums place s second y)
    (made_of {A = Value × Ids} {B = Value × Ids} place (looked (slots_in s) b.1 z) (unmet s [] (term_demands place third z)) c (λ c. (Value.Nested a.0 b.0 c.0, c.1)) (term_sums place s third z)))
    ∙ ap (λ (u : Option Fault). settled {A = Value × Ids} (option_or (unmet s [] (term_demands place r x)) u) (said_of s r (Term.Nested x y z))) (sym (unmet_both s [] (term_demands place second y) (term_demands place third z)))
    ∙ ap (λ (u : Option Fault). settled {A = Value × Ids} u (said_of s r (Term.Nested x y z))) (sym (unmet_both s [] (term_demands place r x) (term_demands place second y ++ term_demands place third z)))
term_sums place s r Term.Default = refl
term_sums place s r (Term.Refused k) = refl

-- a term that a row sets
pub set_sums : (place : Place) (s : State) (t : Term) → at_place place (looked (slots_in s) s.ids t) ≡ settled (unmet s [] (term_demands place incoming t)) (said_of s incoming t)
set_sums place s t = ap (λ (ids : Ids). at_place place (looked (slots_in s) ids t)) (sym (incoming_is s.ids)) ∙ term_sums place s incoming t
