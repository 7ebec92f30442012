-- Messages: their fields ascend, and are read back.
use Rattle.std.proofs.Common.{◌≡◌, ℕ, ◌^◌, ◌<◌, ◌≤◌, Bool, true, false, List, [], ◌∷◌, ◌++◌, Option, Some, None, nat_lt, if◌then◌else◌, refl, arith}
use Rattle.std.specs.List.{AllByRecursion}
use Rattle.std.proofs.lemmas.Bool.{ltb-true}
use Rattle.jl_rows.specs.declared.message.Message.{Message}
use Rattle.jl_rows.specs.declared.message.Known.{Known}
use Rattle.jl_rows.specs.Messages.{table}
use Rattle.jl_spell.specs.Fields.{Held, Filled, IsFilled}
use Rattle.jl_spell.specs.Messages.{is_left_out, filled_among, fields_filled, message_of, Ascend}
use Rattle.jl_spell.specs.Laws.{IsMaybeHeld, MessagesReadBack, MessagesAscend}
use Rattle.jl_spell.proofs.FieldLaws.{fields_back}

-- numbers of fields that ascend, from one on
AreInOrder : ℕ → List Known → Type 0
AreInOrder low [] = Unit {0}
AreInOrder low (k ∷ ks) = (low < k.number) × (k.number < 2 ^ 29) × AreInOrder k.number ks

are_in_order : ℕ → List Known → Bool
are_in_order low [] = true
are_in_order low (k ∷ ks) = if nat_lt low k.number then (if nat_lt k.number (2 ^ 29) then are_in_order k.number ks else false) else false

from_test : (low : ℕ) (ks : List Known) → are_in_order low ks ≡ true → AreInOrder low ks
unfolding are_in_order AreInOrder
from_test low [] e = tt
from_test low (k ∷ ks) e = by_tests (nat_lt low k.number) (nat_lt k.number (2 ^ 29)) refl refl e (λ h. from_test k.number ks h)
  where
    by_tests : (a b : Bool) → nat_lt low k.number ≡ a → nat_lt k.number (2 ^ 29) ≡ b → (if a then (if b then are_in_order k.number ks else false) else false) ≡ true → (are_in_order k.number ks ≡ true → AreInOrder k.number ks) → (low < k.number) × (k.number < 2 ^ 29) × AreInOrder k.number ks
    by_tests true true above below h rest = (ltb-true low k.number above, ltb-true k.number (2 ^ 29) below, rest h)
    by_tests true false above below h rest = cc
    by_tests false b above below h rest = cc

in_order : (m : Message) → AreInOrder 0 (table m)
unfolding are_in_order
in_order Message.Options = from_test 0 (table Message.Options) refl
in_order Message.Triple = from_test 0 (table Message.Triple) refl
in_order Message.Quad = from_test 0 (table Message.Quad) refl
in_order Message.GraphStart = from_test 0 (table Message.GraphStart) refl
in_order Message.Namespace = from_test 0 (table Message.Namespace) refl
in_order Message.Entry = from_test 0 (table Message.Entry) refl
in_order Message.Iri = from_test 0 (table Message.Iri) refl
in_order Message.Literal = from_test 0 (table Message.Literal) refl
in_order Message.Empty = from_test 0 (table Message.Empty) refl

lower : (low high : ℕ) (fs : List Filled) → low ≤ high → Ascend high fs → Ascend low fs
lower low high [] le up = tt
lower low high (f ∷ fs) le up = let above : high < f.number = up.0 in (omega (arith, le, above), up.1)

among_ascend : (m : Message) (low : ℕ) (ks : List Known) (hs : List (Option Held)) → AreInOrder low ks → Ascend low (filled_among m ks hs)
unfolding AreInOrder
among_ascend m low [] hs order = tt
among_ascend m low (k ∷ ks) [] order = tt
among_ascend m low (k ∷ ks) (None ∷ hs) order = let above : low < k.number = order.0 in lower low k.number (filled_among m ks hs) (omega (arith, above)) (among_ascend m k.number ks hs order.2)
among_ascend m low (k ∷ ks) (Some h ∷ hs) order = by_test (is_left_out m k h) order.0 (among_ascend m k.number ks hs order.2)
  where
    by_test : (b : Bool) → low < k.number → Ascend k.number (filled_among m ks hs) → Ascend low ((if b then [] else (record { number = k.number; holds = h } ∷ [])) ++ filled_among m ks hs)
    by_test true above up = lower low k.number (filled_among m ks hs) (omega (arith, above)) up
    by_test false above up = (above, up)

pub messages_ascend : MessagesAscend
messages_ascend m hs = among_ascend m 0 (table m) hs (in_order m)

among_filled : (m : Message) (low : ℕ) (ks : List Known) (hs : List (Option Held)) → AreInOrder low ks → AllByRecursion IsMaybeHeld hs → AllByRecursion IsFilled (filled_among m ks hs)
unfolding AreInOrder
among_filled m low [] hs order held = tt
among_filled m low (k ∷ ks) [] order held = tt
among_filled m low (k ∷ ks) (None ∷ hs) order held = among_filled m k.number ks hs order.2 held.1
among_filled m low (k ∷ ks) (Some h ∷ hs) order held = by_test (is_left_out m k h) order.0 (among_filled m k.number ks hs order.2 held.1)
  where
    by_test : (b : Bool) → low < k.number → AllByRecursion IsFilled (filled_among m ks hs) → AllByRecursion IsFilled ((if b then [] else (record { number = k.number; holds = h } ∷ [])) ++ filled_among m ks hs)
    by_test true above rest = rest
    by_test false above rest = ((omega (arith, above), order.1, held.0), rest)

pub messages_back : MessagesReadBack
unfolding message_of
messages_back m hs held = fields_back (fields_filled m hs) (among_filled m 0 (table m) hs (in_order m) held)
