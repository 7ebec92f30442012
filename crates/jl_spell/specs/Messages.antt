-- Messages as bytes, over the table of messages that the reader has (jl_rows, Messages).
use Rattle.std.specs.Prelude.{ℕ, ◌<◌, Bool, true, false, ◌==◌, ◌&&◌, List, [], ◌∷◌, ◌++◌, count_by, Option, Some, None, if◌then◌else◌}
use Rattle.jl_rows.specs.declared.message.Message.{Message}
use Rattle.jl_rows.specs.declared.message.Shape.{Shape}
use Rattle.jl_rows.specs.declared.message.Known.{Known}
use Rattle.jl_rows.specs.Messages.{table}
use Rattle.jl_spell.specs.Fields.{Held, Number, Bytes, Filled, field_of, fields_of}

-- numbers and texts; a message is none, even one without a field
abbrev pub is_scalar : Shape → Bool
is_scalar Shape.Number = true
is_scalar Shape.Text = true
is_scalar _ = false

-- 0, false or empty
abbrev pub is_nothing : Held → Bool
is_nothing (Number n) = n == 0
is_nothing (Bytes []) = true
is_nothing (Bytes (b ∷ bs)) = false

-- a field that is in no 'one of'
abbrev pub is_alone : Message → Known → Bool
is_alone m k = count_by (λ (j : Known). j.group == k.group) (table m) == 1

-- A scalar that is 0, false or empty is left out, but for one in a 'one of', where it tells which one stands.
abbrev pub is_left_out : Message → Known → Held → Bool
is_left_out m k h = is_scalar k.shape && (is_alone m k && is_nothing h)

abbrev pub filled : Message → Known → Option Held → List Filled
filled m k None = []
filled m k (Some h) = if is_left_out m k h then [] else (record { number = k.number; holds = h } ∷ [])

-- What the known fields of a message hold, in the order of its table, which is that of their numbers.
abbrev pub filled_among : Message → List Known → List (Option Held) → List Filled
filled_among m [] hs = []
filled_among m (k ∷ ks) [] = []
filled_among m (k ∷ ks) (h ∷ hs) = filled m k h ++ filled_among m ks hs

abbrev pub fields_filled : Message → List (Option Held) → List Filled
fields_filled m hs = filled_among m (table m) hs

unfoldable pub message_of : Message → List (Option Held) → List ℕ
message_of m hs = fields_of (fields_filled m hs)

-- the numbers of fields ascend, from above one on
abbrev pub Ascend : ℕ → List Filled → Type 0
Ascend low [] = Unit {0}
Ascend low (f ∷ fs) = (low < f.number) × Ascend f.number fs

-- a number that is in no 'one of'
abbrev pub unless_0 : ℕ → ℕ → List ℕ
unless_0 number n = if n == 0 then [] else field_of number (Number n)

-- and such a text
abbrev pub unless_empty : ℕ → List ℕ → List ℕ
unless_empty number [] = []
unless_empty number (b ∷ bs) = field_of number (Bytes (b ∷ bs))
