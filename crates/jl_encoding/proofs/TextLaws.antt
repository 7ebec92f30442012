-- A text is put into a slot.
use Rattle.std.proofs.Common.{◌≡◌, ℕ, ◌<◌, ◌≤◌, ◌++◌, List, not, find, Option, Some, None, Ok, false, refl, subst, arith}
use Rattle.std.proofs.lemmas.Bool.{not-true}
use Rattle.jl_rows.specs.declared.row.Table.{Table}
use Rattle.jl_rows.specs.Written.{StreamOptions}
use Rattle.jl_rows.specs.History.{History, slot, entry_id}
use Rattle.jl_rows.specs.Decoder.{size_of}
use Rattle.jl_rows.proofs.Binding.{bound}
use Rattle.jl_encoding.specs.Sameness.{is_text}
use Rattle.jl_encoding.specs.Slots.{Full, State, numbers_from, in_turn, is_claimed, holder, next_slot, with_claim, with_entry, used_or_new, put_text}
use Rattle.jl_encoding.proofs.SameLaws.{text_is}
use Rattle.jl_encoding.proofs.SlotLaws.{IsSlot, find_passes, find_all, numbers_are, turn_is, some_or_ok}
use Rattle.jl_encoding.proofs.Claims.{Holds, Step, newest, uses, enters}

pub record PutsText (o : StreamOptions) (H : History) (t : Table) (text : List ℕ) (st st' : State) (n : ℕ) : Type 0 where
  pub step : Step o H st st'
  pub seen : st'.seen ≡ st.seen
  pub some : 0 < n
  pub fits : n ≤ size_of o t
  pub says : (K : History) → Holds K st'.claims → slot t n K ≡ Some text

module _ (o : StreamOptions) (H : History) (t : Table) (text : List ℕ) (st : State) where
  found_slot : (n : ℕ) → holder o t text (st.entries ++ H) ≡ Some n → PutsText o H t text st (with_claim t n text st) n
  found_slot n e =
      let has : slot t n (st.entries ++ H) ≡ Some text = text_is text (slot t n (st.entries ++ H)) (find_passes (λ n. is_text text (slot t n (st.entries ++ H))) (numbers_from 1 (size_of o t)) n e) in
      let is : IsSlot (size_of o t) n = find_all (IsSlot (size_of o t)) (λ n. is_text text (slot t n (st.entries ++ H))) (numbers_from 1 (size_of o t)) n (numbers_are (size_of o t) 1 (size_of o t) (omega arith) (λ some. omega arith)) e in
      record { step = uses o H t n text st has; seen = refl; some = is.0; fits = is.1; says = λ K h. newest K t n text st h }

  pub new_slot : (n : ℕ) → next_slot o t st.claims (st.entries ++ H) ≡ Ok n → PutsText o H t text st (with_claim t n text (with_entry H t n text st)) n
  new_slot n e =
      let turns = in_turn (size_of o t) (entry_id t (st.entries ++ H)) in
      let free = λ (n : ℕ). not (is_claimed t n st.claims) in
      let found : find free turns ≡ Some n = some_or_ok (find free turns) Full n e in
      let is : IsSlot (size_of o t) n = find_all (IsSlot (size_of o t)) free turns n (turn_is (size_of o t) (entry_id t (st.entries ++ H))) found in
      let unused : is_claimed t n st.claims ≡ false = not-true (is_claimed t n st.claims) (find_passes free turns n found) in
      record { step = enters o H t n text st is.0 is.1 unused; seen = refl; some = is.0; fits = is.1; says = λ K h. newest K t n text (with_entry H t n text st) h }

  by_holder : (held : Option ℕ) (r : ℕ × State) → holder o t text (st.entries ++ H) ≡ held → used_or_new o H t text st held ≡ Ok r → PutsText o H t text st r.1 r.0
  by_holder (Some n) r has e =
      let same : ◌≡◌ {A = ℕ × State} (n, with_claim t n text st) r = cc in
      subst (λ (p : ℕ × State). PutsText o H t text st p.1 p.0) same (found_slot n has)
  by_holder None r has e =
      let b = bound (next_slot o t st.claims (st.entries ++ H)) (λ (n : ℕ). Ok (n, with_claim t n text (with_entry H t n text st))) r e in
      let same : ◌≡◌ {A = ℕ × State} (b.value, with_claim t b.value text (with_entry H t b.value text st)) r = let h = b.then in cc in
      subst (λ (p : ℕ × State). PutsText o H t text st p.1 p.0) same (new_slot b.value b.was)

  pub puts_text : (r : ℕ × State) → put_text o H t text st ≡ Ok r → PutsText o H t text st r.1 r.0
  unfolding put_text
  puts_text r e = by_holder (holder o t text (st.entries ++ H)) r refl e
