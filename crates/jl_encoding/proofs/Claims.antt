-- What an item's entries leave as it was, and the slots that it uses.
use Rattle.std.proofs.Common.{◌≡◌, ℕ, ◌<◌, ◌≤◌, ◌==◌, ◌&&◌, Bool, true, false, List, [], ◌∷◌, ◌++◌, Some, Result, Ok, Err, nat_lt, refl, ap, ◌∙◌, append-nil}
use Rattle.std.proofs.lemmas.Bool.{le-ltb, or_parts}
use Rattle.jl_base.specs.Results.{◌>>=◌}
use Rattle.jl_base.specs.Terms.{Item}
use Rattle.jl_base.specs.declared.kind.Kind.{Kind}
use Rattle.jl_rows.specs.declared.row.Table.{Table}
use Rattle.jl_rows.specs.Written.{StreamOptions, Row}
use Rattle.jl_rows.specs.History.{History, is_table, slot, seen_in}
use Rattle.jl_rows.specs.Values.{Position, last_term}
use Rattle.jl_rows.specs.Decoder.{size_of}
use Rattle.jl_encoding.specs.Slots.{Claim, State, is_claimed, entry_written, with_claim, with_entry}
use Rattle.jl_encoding.specs.Items.{stated_by, under}
use Rattle.jl_encoding.proofs.SlotLaws.{entry_is, slot_new, slot_other}

-- these slots have the texts that were used
unfoldable pub Holds : History → List Claim → Type 0
Holds H [] = Unit {0}
Holds H (c ∷ cs) = (slot c.table c.id H ≡ Some c.text) × Holds H cs

pub record Step (o : StreamOptions) (H : History) (st st' : State) : Type 0 where
  pub holds : Holds (st.entries ++ H) st.claims → Holds (st'.entries ++ H) st'.claims
  pub keeps : (K : History) → Holds K st'.claims → Holds K st.claims
  pub quiet : (strict : Bool) → stated_by (under strict o) (st'.entries ++ H) ≡ stated_by (under strict o) (st.entries ++ H)
  pub terms : (x : Position) → last_term x (st'.entries ++ H) ≡ last_term x (st.entries ++ H)
  pub ids : seen_in (st'.entries ++ H) ≡ seen_in (st.entries ++ H)

pub no_step : (o : StreamOptions) (H : History) (st : State) → Step o H st st
no_step o H st = record { holds = λ h. h; keeps = λ K h. h; quiet = λ strict. refl; terms = λ x. refl; ids = refl }

pub steps : {o : StreamOptions} {H : History} {a b c : State} → Step o H a b → Step o H b c → Step o H a c
steps f g = record {
  holds = λ h. g.holds (f.holds h);
  keeps = λ K h. f.keeps K (g.keeps K h);
  quiet = λ strict. g.quiet strict ∙ f.quiet strict;
  terms = λ x. g.terms x ∙ f.terms x;
  ids = g.ids ∙ f.ids;
}

pub newest : (K : History) (t : Table) (n : ℕ) (text : List ℕ) (st : State) → Holds K (with_claim t n text st).claims → slot t n K ≡ Some text
unfolding Holds
newest K t n text st h = h.0

-- a slot that has the text already
pub uses : (o : StreamOptions) (H : History) (t : Table) (n : ℕ) (text : List ℕ) (st : State) → slot t n (st.entries ++ H) ≡ Some text → Step o H st (with_claim t n text st)
unfolding Holds
uses o H t n text st e = record { holds = λ h. (e, h); keeps = λ K h. h.1; quiet = λ strict. refl; terms = λ x. refl; ids = refl }

-- the claims hold still behind an entry of another slot
kept : (t : Table) (n : ℕ) (text : List ℕ) (K : History) → 0 < n → (cs : List Claim) → is_claimed t n cs ≡ false → Holds K cs → Holds (Row.Entry t (entry_written t n K) text ∷ K) cs
unfolding Holds
kept t n text K some [] free h = tt
kept t n text K some (c ∷ cs) free h =
    let p = or_parts (is_table c.table t && (c.id == n)) (is_claimed t n cs) free in
    (slot_other t n text K some c.table c.id p.0 ∙ h.0, kept t n text K some cs p.1 h.1)

with_none : (r : Result (List Item) Kind) → (r >>= λ (xs : List Item). Ok (xs ++ [])) ≡ r
with_none (Ok xs) = ap Ok (append-nil xs)
with_none (Err k) = refl

within : (strict : Bool) (o : StreamOptions) (t : Table) (n : ℕ) → n ≤ size_of o t → nat_lt (size_of (under strict o) t) n ≡ false
within strict o Table.Name n fits = le-ltb o.names n fits
within strict o Table.Prefix n fits = le-ltb o.prefixes n fits
within strict o Table.Datatype n fits = le-ltb o.datatypes n fits

quiet_entry : (strict : Bool) (o : StreamOptions) (t : Table) (n : ℕ) (text : List ℕ) (K : History) → 0 < n → n ≤ size_of o t → stated_by (under strict o) (Row.Entry t (entry_written t n K) text ∷ K) ≡ stated_by (under strict o) K
unfolding stated_by
quiet_entry true o t n text K some fits = let inside = within true o t n fits in rw (entry_is t n text K some, inside) (with_none (stated_by (under true o) K))
quiet_entry false o t n text K some fits = let inside = within false o t n fits in rw (entry_is t n text K some, inside) (with_none (stated_by (under false o) K))

entry_sets_no_term : (x : Position) (t : Table) (id : ℕ) (text : List ℕ) (K : History) → last_term x (Row.Entry t id text ∷ K) ≡ last_term x K
unfolding last_term
entry_sets_no_term Position.Subject t id text K = refl
entry_sets_no_term Position.Predicate t id text K = refl
entry_sets_no_term Position.Object t id text K = refl
entry_sets_no_term Position.Graph t id text K = refl

entry_has_no_iri : (t : Table) (id : ℕ) (text : List ℕ) (K : History) → seen_in (Row.Entry t id text ∷ K) ≡ seen_in K
unfolding seen_in
entry_has_no_iri t id text K = refl

-- a new entry
pub enters : (o : StreamOptions) (H : History) (t : Table) (n : ℕ) (text : List ℕ) (st : State) → 0 < n → n ≤ size_of o t → is_claimed t n st.claims ≡ false → Step o H st (with_claim t n text (with_entry H t n text st))
unfolding Holds
enters o H t n text st some fits free =
    let K = st.entries ++ H in
    record {
      holds = λ h. (slot_new t n text K some, kept t n text K some st.claims free h);
      keeps = λ K h. h.1;
      quiet = λ strict. quiet_entry strict o t n text K some fits;
      terms = λ x. entry_sets_no_term x t (entry_written t n K) text K;
      ids = entry_has_no_iri t (entry_written t n K) text K;
    }
