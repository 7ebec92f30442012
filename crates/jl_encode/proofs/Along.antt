-- The plain steps go along with the definition's: the same answers, the same entries, and tables that stand for them.
use Rattle.std.proofs.Common.{◌≡◌, ℕ, ◌^◌, ◌<◌, ◌≤◌, List, [], ◌∷◌, ◌++◌, length, reverse, Option, Some, None, Result, Ok, Err, refl, ap, sym, ◌∙◌, arith, append_assoc, append-nil}
use Rattle.jl_encoding.specs.Limits.{most_item_bytes}
use Rattle.std.proofs.lemmas.List.{reverse-append}
use Rattle.std.proofs.lemmas.Grind.{flat_map-append}
use Rattle.jl_base.specs.Results.{◌>>=◌}
use Rattle.jl_rows.specs.declared.row.Table.{Table}
use Rattle.jl_rows.specs.Written.{StreamOptions, Row}
use Rattle.jl_rows.specs.History.{History, prefix_id, name_id}
use Rattle.jl_spell.specs.Fields.{Bytes, field_of}
use Rattle.jl_spell.specs.Rows.{row_of}
use Rattle.jl_spell.specs.Frames.{body_of}
use Rattle.jl_encoding.specs.Slots.{Refusal, State}
use Rattle.jl_encode.specs.Desks.{Desk, texts_of}
use Rattle.jl_encode.specs.Putting.{Step, at_once, behind, then_put}
use Rattle.jl_encode.proofs.TableSteps.{TableStands}

-- A desk stands for what an item wrote so far.
pub record Stands (o : StreamOptions) (H : History) (st : State) (D : Desk) : Type 0 where
  pub tables : (t : Table) → TableStands o (st.entries ++ H) st.claims t D.item (texts_of t D)
  pub prefix : D.prefix ≡ prefix_id st.seen
  pub name : D.name ≡ name_id st.seen

-- the bytes of the entries so far
abbrev pub entry_text : State → List ℕ
entry_text st = body_of (reverse st.entries)

pub record GoesWith {A : Type 0} (o : StreamOptions) (H : History) (st : State) (s : Step A) (r : A × State) : Type 0 where
  pub answer : s.answer ≡ r.0
  pub stands : Stands o H r.1 s.desk
  pub bytes : entry_text r.1 ≡ entry_text st ++ s.bytes

-- Both answer, or the plain step doesn't: then the definition doesn't either, or an entry has more than 2^26 bytes.
abbrev pub Along : {A : Type 0} → StreamOptions → History → State → Option (Step A) → Result (A × State) Refusal → Type 0
Along o H st (Some s) (Ok r) = GoesWith o H st s r
Along o H st (Some s) (Err e) = ⊥
Along o H st None (Ok r) = most_item_bytes < length (entry_text r.1)
Along o H st None (Err e) = Unit {0}

-- entries are never taken back
abbrev pub Grows : {A : Type 0} → State → Result (A × State) Refusal → Type 0
Grows st (Ok r) = length (entry_text st) ≤ length (entry_text r.1)
Grows st (Err e) = Unit {0}

pub body_behind : (r : Row) (rs : List Row) → body_of (reverse (r ∷ rs)) ≡ body_of (reverse rs) ++ body_of (r ∷ [])
body_behind r rs = ap body_of (reverse-append (r ∷ []) rs) ∙ flat_map-append (λ (r : Row). field_of 1 (Bytes (row_of r))) (reverse rs) (r ∷ [])

grows_on : {A : Type 0} (st st1 : State) (r : Result (A × State) Refusal) → length (entry_text st) ≤ length (entry_text st1) → Grows st1 r → Grows st r
grows_on st st1 (Ok r) le more = omega (arith, le, more)
grows_on st st1 (Err e) le more = tt

pub then_grows : {A B : Type 0} (st : State) (r : Result (A × State) Refusal) (g : A × State → Result (B × State) Refusal) → Grows st r → ((p : A × State) → Grows p.1 (g p)) → Grows st (r >>= g)
then_grows st (Ok p) g first second = grows_on st p.1 (g p) first (second p)
then_grows st (Err e) g first second = tt

module _ (o : StreamOptions) (H : History) where
  pub once_along : {A : Type 0} (st : State) (D : Desk) (x y : A) → x ≡ y → Stands o H st D → Along o H st (at_once x D) (Ok (y, st))
  once_along st D x y same stands = record { answer = same; stands = stands; bytes = sym (append-nil (entry_text st)) }

  behind_along : {B : Type 0} (st st1 : State) (bytes : List ℕ) (y : Option (Step B)) (r : Result (B × State) Refusal) → entry_text st1 ≡ entry_text st ++ bytes → Along o H st1 y r → Along o H st (behind bytes y) r
  behind_along st st1 bytes (Some s) (Ok r) e w = record {
    answer = w.answer;
    stands = w.stands;
    bytes = w.bytes ∙ ap (λ (bs : List ℕ). bs ++ s.bytes) e ∙ append_assoc (entry_text st) bytes s.bytes;
  }
  behind_along st st1 bytes (Some s) (Err k) e w = w
  behind_along st st1 bytes None (Ok r) e w = w
  behind_along st st1 bytes None (Err k) e w = w

  grown_past : {B : Type 0} (st st1 : State) (r : Result (B × State) Refusal) → most_item_bytes < length (entry_text st1) → Grows st1 r → Along {A = B} o H st None r
  grown_past st st1 (Ok r) long more = omega (arith, long, more)
  grown_past st st1 (Err e) long more = tt

  pub then_along : {A B : Type 0} (st : State) (x : Option (Step A)) (r : Result (A × State) Refusal) (f : A → Desk → Option (Step B)) (g : A × State → Result (B × State) Refusal) → Along o H st x r
      → ((s : Step A) (p : A × State) → r ≡ Ok p → GoesWith o H st s p → Along o H p.1 (f s.answer s.desk) (g p)) → ((p : A × State) → Grows p.1 (g p)) → Along o H st (then_put x f) (r >>= g)
  then_along st (Some s) (Ok p) f g first second grows = behind_along st p.1 s.bytes (f s.answer s.desk) (g p) first.bytes (second s p refl first)
  then_along st (Some s) (Err e) f g first second grows = absurd first
  then_along st None (Ok p) f g first second grows = grown_past st p.1 (g p) first (grows p)
  then_along st None (Err e) f g first second grows = tt
