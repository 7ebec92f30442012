-- How terms and items are put behind a desk, in reading order: the bytes of their entries, and what their own row states.
use Rattle.std.specs.Prelude.{◌≡◌, ℕ, ◌+◌, ◌^◌, ◌<◌, Bool, true, false, ◌==◌, ◌&&◌, ◌||◌, not, List, [], ◌∷◌, ◌++◌, length, Option, Some, None, Result, Ok, Err, nat_lt, if◌then◌else◌}
use Rattle.jl_encoding.specs.Limits.{most_item_bytes}
use Rattle.jl_base.specs.Terms.{Tail, Value, Item}
use Rattle.jl_rows.specs.declared.row.Table.{Table}
use Rattle.jl_rows.specs.Written.{Ids, Ending, Term, Row}
use Rattle.jl_spell.specs.Frames.{body_of}
use Rattle.jl_encoding.specs.Sameness.{is_value}
use Rattle.jl_encoding.specs.Splits.{prefix_of, name_of}
use Rattle.jl_encoding.specs.Slots.{unless_given}
use Rattle.jl_encoding.specs.Terms.{is_empty}
use Rattle.jl_encode.specs.declared.refusal.Refusal.{Refusal}
use Rattle.jl_encode.specs.declared.refusal.Refusal.TheVariants.{TooWide, NoMemory}
use Rattle.jl_encode.specs.Desks.{Texts, InTable, Desk, in_table, texts_of, with_texts, with_ids, with_hidden, for_next, is_overfull}

-- an answer, the bytes of the entries that it took, and the desk behind it
pub record Step (A : Type 0) : Type 0 where
  pub answer : A
  pub bytes : List ℕ
  pub desk : Desk

-- without an entry
abbrev pub at_once : {A : Type 0} → A → Desk → Option (Step A)
at_once x D = Some (record { answer = x; bytes = []; desk = D })

abbrev pub behind : {A : Type 0} → List ℕ → Option (Step A) → Option (Step A)
behind bytes None = None
behind bytes (Some s) = Some (record { answer = s.answer; bytes = bytes ++ s.bytes; desk = s.desk })

-- one step, and then another behind it
abbrev pub then_put : {A B : Type 0} → Option (Step A) → (A → Desk → Option (Step B)) → Option (Step B)
then_put None f = None
then_put (Some s) f = behind s.bytes (f s.answer s.desk)

abbrev pub on_desk : Table → Desk → Option InTable → Option (Step ℕ)
on_desk t D None = None
on_desk t D (Some r) = Some (record { answer = r.id; bytes = r.bytes; desk = with_texts t r.texts D })

abbrev pub put_text : Table → List ℕ → Desk → Option (Step ℕ)
put_text t x D = on_desk t D (in_table D.item t x (texts_of t D))

-- the empty prefix is id 0, and no entry, as long as no prefix id was given
abbrev pub put_prefix : List ℕ → Desk → Option (Step ℕ)
put_prefix x D = if is_empty x && (D.prefix == 0) then at_once 0 (with_hidden true D) else put_text Table.Prefix x (with_hidden (D.hidden && not (is_empty x)) D)

-- the ids as they are written, behind the last ones
abbrev pub ids_behind : ℕ → ℕ → Desk → Ids
ids_behind p n D = record { prefix = unless_given D.prefix p; name = unless_given (D.name + 1) n }

abbrev pub put_iri : List ℕ → Desk → Option (Step Ids)
put_iri text D = then_put (put_prefix (prefix_of text) D) (λ p D1. then_put (put_text Table.Name (name_of text) D1) (λ n D2. at_once (ids_behind p n D2) (with_ids p n D2)))

abbrev pub put_tail : Tail → Desk → Option (Step Ending)
put_tail Tail.Simple D = at_once Ending.Simple D
put_tail (Tail.Lang tag) D = at_once (Ending.Lang tag) D
put_tail (Tail.Typed iri) D = then_put (put_text Table.Datatype iri D) (λ n D1. at_once (Ending.Typed n) D1)

abbrev pub put_term : Value → Desk → Option (Step Term)
put_term (Value.Iri text) D = then_put (put_iri text D) (λ i D1. at_once (Term.Iri i) D1)
put_term (Value.Bnode label) D = at_once (Term.Bnode label) D
put_term (Value.Literal lex tail) D = then_put (put_tail tail D) (λ e D1. at_once (Term.Literal lex e) D1)
put_term (Value.Nested s p o) D = then_put (put_term s D) (λ a D1. then_put (put_term p D1) (λ b D2. then_put (put_term o D2) (λ c D3. at_once (Term.Nested a b c) D3)))
put_term Value.Default D = at_once Term.Default D

-- the terms of the last statements, None before the first
pub record Lasts : Type 0 where
  pub subject : Option Value
  pub predicate : Option Value
  pub object : Option Value
  pub graph : Option Value

-- a term that is the last one at its position is unset
abbrev pub put_unless : Option Value → Value → Desk → Option (Step Term)
put_unless last v D = if is_value v last then at_once Term.Unset D else put_term v D

abbrev pub put_item : Item → Lasts → Desk → Option (Step Row)
put_item (Item.Triple s p o) L D =
    then_put (put_unless L.subject s D) (λ a D1. then_put (put_unless L.predicate p D1) (λ b D2. then_put (put_unless L.object o D2) (λ c D3. at_once (Row.Triple a b c) D3)))
put_item (Item.Quad s p o g) L D =
    then_put (put_unless L.subject s D) (λ a D1. then_put (put_unless L.predicate p D1) (λ b D2. then_put (put_unless L.object o D2) (λ c D3. then_put (put_unless L.graph g D3) (λ d D4. at_once (Row.Quad a b c d) D4))))
put_item (Item.Namespace name iri) L D = then_put (put_iri iri D) (λ i D1. at_once (Row.Namespace name (Some i)) D1)

abbrev pub lasts_behind : Item → Lasts → Lasts
lasts_behind (Item.Triple s p o) L = record { subject = Some s; predicate = Some p; object = Some o; graph = L.graph }
lasts_behind (Item.Quad s p o g) L = record { subject = Some s; predicate = Some p; object = Some o; graph = Some g }
lasts_behind (Item.Namespace name iri) L = L

-- all bytes of an item in its frame: its entries, and its own row
abbrev pub item_bytes : Step Row → List ℕ
item_bytes s = s.bytes ++ body_of (s.answer ∷ [])

-- An item can't be put: no slot is free for a text, or it takes more than 2^26 bytes, or it asks for one prefix too many.
abbrev pub is_refused : Option (Step Row) → Bool
is_refused None = true
is_refused (Some s) = nat_lt most_item_bytes (length (item_bytes s)) || is_overfull s.desk

-- What a step left in code: the answer, the buffer behind the entries' bytes, and the desk.
abbrev pub Did : {A : Type 0} → Option (Step A) → List ℕ → A → List ℕ → Desk → Type 0
Did None out x out' D = ⊥
Did (Some s) out x out' D = (s.answer ≡ x) × (out' ≡ out ++ s.bytes) × (s.desk ≡ D)

-- What putting a text in a table leaves, or why it wasn't put.
abbrev pub PutsIn : Option InTable → List ℕ → List ℕ → Texts → Result ℕ Refusal → Type 0
PutsIn (Some r) out out' T (Ok n) = (r.id ≡ n) × (out' ≡ out ++ r.bytes) × (r.texts ≡ T)
PutsIn None out out' T (Ok n) = ⊥
PutsIn step out out' T (Err TooWide) = step ≡ None
PutsIn step out out' T (Err NoMemory) = Unit {0}

-- What putting something leaves, or why it wasn't put.
abbrev pub Puts : {A X : Type 0} → Option (Step A) → (X → A) → List ℕ → List ℕ → Desk → Result X Refusal → Type 0
Puts step says out out' D (Ok x) = Did step out (says x) out' D
Puts step says out out' D (Err TooWide) = step ≡ None
Puts step says out out' D (Err NoMemory) = Unit {0}

-- A row is written, or it has more than 2^26 bytes.
abbrev pub PutsRow : Row → List ℕ → List ℕ → Result (Unit {0}) Refusal → Type 0
PutsRow r out out' (Ok _) = out' ≡ out ++ body_of (r ∷ [])
PutsRow r out out' (Err TooWide) = most_item_bytes < length (body_of (r ∷ []))
PutsRow r out out' (Err NoMemory) = Unit {0}

-- an item's rows behind the buffer
abbrev pub PutItem : Option (Step Row) → List ℕ → List ℕ → Desk → Type 0
PutItem None out out' D = ⊥
PutItem (Some s) out out' D = (out' ≡ out ++ item_bytes s) × (s.desk ≡ D)

-- What putting an item leaves, before it is asked whether it is too wide.
abbrev pub PutsRows : Option (Step Row) → List ℕ → List ℕ → Desk → Result (Unit {0}) Refusal → Type 0
PutsRows step out out' D (Ok _) = PutItem step out out' D
PutsRows step out out' D (Err TooWide) = is_refused step ≡ true
PutsRows step out out' D (Err NoMemory) = Unit {0}

-- an item that isn't too wide, and the desk for the next one
abbrev pub NextPut : Option (Step Row) → List ℕ → List ℕ → Desk → Type 0
NextPut None out out' D = ⊥
NextPut (Some s) out out' D = (is_refused (Some s) ≡ false) × (out' ≡ out ++ item_bytes s) × (D ≡ for_next s.desk)

-- What putting an item leaves.
abbrev pub PutsItem : Option (Step Row) → List ℕ → List ℕ → Desk → Result (Unit {0}) Refusal → Type 0
PutsItem step out out' D (Ok _) = NextPut step out out' D
PutsItem step out out' D (Err TooWide) = is_refused step ≡ true
PutsItem step out out' D (Err NoMemory) = Unit {0}
