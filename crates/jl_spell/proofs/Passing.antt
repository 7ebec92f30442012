-- Reading a spelled message from its front: what its groups say behind some of its fields, and which fields are left.
use Rattle.std.proofs.Common.{◌≡◌, ℕ, ◌^◌, ◌<◌, ◌==◌, Bool, true, false, List, [], ◌∷◌, ◌++◌, length, slice_set, Option, Some, None, Ok, IsTrue, nat_lt, nat_eq, if◌then◌else◌, refl, ap, ◌∙◌, arith, length-append}
use Rattle.std.proofs.lemmas.Bool.{ltb-true}
use Rattle.jl_wire.specs.Fields.{Content}
use Rattle.jl_wire.proofs.FieldLaws.{fields_end}
use Rattle.jl_rows.specs.declared.message.Message.{Message}
use Rattle.jl_rows.specs.declared.message.Shape.{Shape}
use Rattle.jl_rows.specs.declared.message.Known.{Known}
use Rattle.jl_rows.specs.Messages.{known, known_as, table}
use Rattle.jl_rows.specs.Reading.{Part, Parts, part, is_wrong_wire, walk, read_on, nothing_said}
use Rattle.jl_rows.proofs.Depth.{Says}
use Rattle.jl_rows.proofs.Walking.{walked}
use Rattle.jl_spell.specs.Fields.{Held, Number, Bytes, IsHeld, front_of, field_of, fields_of, content}
use Rattle.jl_spell.specs.Messages.{is_alone, filled_among, message_of}
use Rattle.jl_spell.specs.Rows.{IsText, number, bytes}
use Rattle.jl_spell.proofs.FieldLaws.{fields_front}

-- the bytes of the fields that are left
abbrev pub left : Message → List Known → List (Option Held) → List ℕ
left m ks hs = fields_of (filled_among m ks hs)

pub record Passes (says : Says) (m : Message) (ps : Parts) (whole : List ℕ) (qs : Parts) (ks : List Known) (hs : List (Option Held)) : Type 0 where
  pub reads : read_on says m ps whole ≡ read_on says m qs (left m ks hs)
  pub short : length (left m ks hs) < 2 ^ 64

pub starts : (says : Says) (m : Message) (hs : List (Option Held)) → length (message_of m hs) < 2 ^ 64 → Passes says m nothing_said (message_of m hs) nothing_said (table m) hs
unfolding message_of
starts says m hs short = record { reads = refl; short = short }

-- at the end of the message
pub ended : {says : Says} {m : Message} {ps : Parts} {whole : List ℕ} {qs : Parts} (hs : List (Option Held)) → Passes says m ps whole qs [] hs → read_on says m ps whole ≡ Ok qs
unfolding read_on walk
ended {says} {m} {ps} {whole} {qs} hs passes = passes.reads ∙ ap (walked says m qs) fields_end

-- the message has this field
pub record IsKnown (m : Message) (k : Known) : Type 0 where
  pub known : known_as m k.number ≡ Some k
  pub above : 0 < k.number
  pub below : k.number < 2 ^ 29

pub here : (m : Message) (k : Known) → known_as m k.number ≡ Some k → IsTrue (nat_lt 0 k.number) → IsTrue (nat_lt k.number (2 ^ 29)) → IsKnown m k
here m k known above below = record { known = known; above = ltb-true 0 k.number above; below = ltb-true k.number (2 ^ 29) below }

-- a field in front is taken
taken : (says : Says) (m : Message) (qs : Parts) (k : Known) (h : Held) (p : Part) (rest : List ℕ) → IsKnown m k → IsHeld h → is_wrong_wire k.shape (content h) ≡ false → part qs k.group ≡ None → says k.shape (content h) ≡ Ok p
    → read_on says m qs (field_of k.number h ++ rest) ≡ read_on says m (slice_set qs k.group (Some p)) rest
unfolding read_on walk
taken says m qs k h p rest is held wire none said =
    let known = is.known in
    ap (walked says m qs) (fields_front (record { number = k.number; holds = h }) rest (is.above, is.below, held)) ∙ rw (known, wire, none, said) refl

-- what holds of a field's bytes
pub bytes_short : (number : ℕ) (t rest : List ℕ) → length (field_of number (Bytes t) ++ rest) < 2 ^ 64 → length t < 2 ^ 64
unfolding field_of
bytes_short number t rest short = omega (arith, short, length-append (front_of number (length t) ++ t) rest, length-append (front_of number (length t)) t)

pub rest_short : (front rest : List ℕ) → length (front ++ rest) < 2 ^ 64 → length rest < 2 ^ 64
rest_short front rest short = omega (arith, short, length-append front rest)

-- nothing is said there yet
pub record IsFree (qs : Parts) (g : ℕ) : Type 0 where
  pub none : part qs g ≡ None
  pub same : slice_set qs g None ≡ qs

-- bytes that are written
pub bytes_taken : (says : Says) (m : Message) (ps : Parts) (whole : List ℕ) (qs : Parts) (k : Known) (t : List ℕ) (p : Part) (ks : List Known) (hs : List (Option Held)) → read_on says m ps whole ≡ read_on says m qs (field_of k.number (Bytes t) ++ left m ks hs)
    → length (field_of k.number (Bytes t) ++ left m ks hs) < 2 ^ 64 → IsKnown m k → is_wrong_wire k.shape (Content.Bytes t) ≡ false → part qs k.group ≡ None → (length t < 2 ^ 64 → says k.shape (Content.Bytes t) ≡ Ok p)
    → Passes says m ps whole (slice_set qs k.group (Some p)) ks hs
bytes_taken says m ps whole qs k t p ks hs reads short is wire none said =
    let held : length t < 2 ^ 64 = bytes_short k.number t (left m ks hs) short in
    record {
      reads = reads ∙ taken says m qs k (Bytes t) p (left m ks hs) is held wire none (said held);
      short = rest_short (field_of k.number (Bytes t)) (left m ks hs) short;
    }

-- a number that is written
pub number_taken : (says : Says) (m : Message) (ps : Parts) (whole : List ℕ) (qs : Parts) (k : Known) (v : ℕ) (p : Part) (ks : List Known) (hs : List (Option Held)) → read_on says m ps whole ≡ read_on says m qs (field_of k.number (Number v) ++ left m ks hs)
    → length (field_of k.number (Number v) ++ left m ks hs) < 2 ^ 64 → IsKnown m k → v < 2 ^ 32 → is_wrong_wire k.shape (Content.Number v) ≡ false → part qs k.group ≡ None → says k.shape (Content.Number v) ≡ Ok p
    → Passes says m ps whole (slice_set qs k.group (Some p)) ks hs
number_taken says m ps whole qs k v p ks hs reads short is fits wire none said =
    let held : v < 2 ^ 64 = omega (arith, fits) in
    record {
      reads = reads ∙ taken says m qs k (Number v) p (left m ks hs) is held wire none said;
      short = rest_short (field_of k.number (Number v)) (left m ks hs) short;
    }

-- numbers and texts are read as they are
pub record IsPlain (says : Says) : Type 0 where
  pub number : (v : ℕ) → says Shape.Number (Content.Number v) ≡ Ok (Part.Number v)
  pub text : (t : List ℕ) → IsText t → says Shape.Text (Content.Bytes t) ≡ Ok (Part.Text t)

-- what a scalar that is in no 'one of' says
abbrev pub number_said : ℕ → Option Part
number_said v = if v == 0 then None else Some (Part.Number v)

abbrev pub text_said : List ℕ → Option Part
text_said [] = None
text_said (b ∷ bs) = Some (Part.Text (b ∷ bs))

module _ {says : Says} {m : Message} {ps : Parts} {whole : List ℕ} {qs : Parts} {ks : List Known} {hs : List (Option Held)} {n g v : ℕ} where
  pub number_next : IsPlain says → Passes says m ps whole qs (known n Shape.Number g ∷ ks) (number v ∷ hs) → IsKnown m (known n Shape.Number g) → is_alone m (known n Shape.Number g) ≡ true → IsFree qs g → v < 2 ^ 32
      → Passes says m ps whole (slice_set qs g (number_said v)) ks hs
  number_next is_plain passes is alone free fits = by_value (nat_eq v 0) refl
    where
      by_value : (b : Bool) → nat_eq v 0 ≡ b → Passes says m ps whole (slice_set qs g (number_said v)) ks hs
      by_value true zero =
          let reads = rw (alone, zero) at passes.reads in
          let short = rw (alone, zero) at passes.short in
          rw (zero, free.same) (record { reads = reads; short = short })
      by_value false some =
          let reads = rw (alone, some) at passes.reads in
          let short = rw (alone, some) at passes.short in
          rw some (number_taken says m ps whole qs (known n Shape.Number g) v (Part.Number v) ks hs reads short is fits refl free.none (is_plain.number v))

module _ {says : Says} {m : Message} {ps : Parts} {whole : List ℕ} {qs : Parts} {ks : List Known} {hs : List (Option Held)} {n g : ℕ} where
  pub text_next : (t : List ℕ) → IsPlain says → Passes says m ps whole qs (known n Shape.Text g ∷ ks) (bytes t ∷ hs) → IsKnown m (known n Shape.Text g) → is_alone m (known n Shape.Text g) ≡ true → IsFree qs g → IsText t
      → Passes says m ps whole (slice_set qs g (text_said t)) ks hs
  text_next [] is_plain passes is alone free utf8 =
      let reads = rw alone at passes.reads in
      let short = rw alone at passes.short in
      rw free.same (record { reads = reads; short = short })
  text_next (b ∷ bs) is_plain passes is alone free utf8 =
      let reads = rw alone at passes.reads in
      let short = rw alone at passes.short in
      bytes_taken says m ps whole qs (known n Shape.Text g) (b ∷ bs) (Part.Text (b ∷ bs)) ks hs reads short is refl free.none (λ _. is_plain.text (b ∷ bs) utf8)
