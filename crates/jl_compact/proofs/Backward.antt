-- The pass from the back: the marks tell when the next write to an address comes.
use Rattle.std.proofs.Common.{◌≡◌, ℕ, zero, suc, ◌+◌, ◌-◌, ◌<◌, ◌≤◌, ◌^◌, Bool, true, false, ◌&&◌, ◌||◌, not, List, [], ◌∷◌, length, refl, ap, sym, subst, ◌∙◌, arith, nat_lt, lt-ltb, le-ltb, inl, inr, set, get_or, get_or-set_same, get_or-set_other, drop}
use Rattle.std.proofs.lemmas.Bool.{cases_lt, cases_eq}
use Rattle.std.proofs.lemmas.List.{drop-set, length-set, drop_all, at_drop_more, get_or_default, length-map}
use Rattle.jl_rows.specs.declared.row.Table.{Table}
use Rattle.jl_sym_laws.specs.Summaries.{Written}
use Rattle.jl_sym_laws.specs.Compacting.{same_address, is_overwritten, is_unseen}
use Rattle.jl_sym_laws.specs.Composing.{AreBefore}
use Rattle.jl_sym.specs.declared.summary.Write.{Write}
use Rattle.jl_sym.specs.declared.relative_id.RelativeId.TheVariants as ids
use Rattle.jl_sym.specs.Seen.{id_seen, write_seen}
use Rattle.jl_compact.specs.Marks.{address_number, is_hidden_by, AreFlags, AreMarkable, AreUpTo}
use Rattle.jl_compact.specs.Parts.{writes_seen}
use Rattle.std.proofs.Math.ListN as listn
use Rattle.jl_compact.proofs.Addresses.{number_of, other_number, one_number}

abbrev pub top : ℕ
top = 2 ^ 32 - 1

-- the mark of each address is the moment of its next write
pub record Marked (room floor : ℕ) (vs : List Written) (marks : List ℕ) : Type 0 where
  pub size : length marks ≡ room
  pub next : (w : Written) (k : ℕ) → number_of w < room → k ≤ top → is_overwritten w k vs ≡ nat_lt (get_or marks (number_of w) 0) k
  pub above : (c : ℕ) → c < room → floor ≤ get_or marks c 0

pub marked_none : (room floor : ℕ) (marks : List ℕ) → length marks ≡ room → ((c : ℕ) → c < room → get_or marks c 0 ≡ top) → floor ≤ top → Marked room floor [] marks
unfolding is_overwritten
marked_none room floor marks size all le = record {
  size = size;
  next = λ w k in_room small. sym (le-ltb (get_or marks (number_of w) 0) k (let e = all (number_of w) in_room in omega (arith, e, small)));
  above = λ c in_room. let e = all c in_room in omega (arith, e, le);
}

absorbed : (a b k : ℕ) → a ≤ b → (nat_lt a k || nat_lt b k) ≡ nat_lt a k
absorbed a b k le = elim (cases_lt a k) [
  | inl lt ↦ rw (lt-ltb a k lt) refl
  | inr ge ↦ let far : k ≤ b = omega (arith, ge, le) in rw (le-ltb a k ge, le-ltb b k far) refl
]

next_by : (room floor : ℕ) (v : Written) (vs : List Written) (marks : List ℕ) (w : Written) (k : ℕ) (b : Bool) → same_address w v ≡ b → Marked room floor vs marks → v.moment ≤ floor → number_of v < room → number_of w < room → k ≤ top
    → ((b && nat_lt v.moment k) || is_overwritten w k vs) ≡ nat_lt (get_or (set marks (number_of v) v.moment) (number_of w) 0) k
next_by room floor v vs marks w k true e m le in_v in_w small =
    let same = one_number w v e in
    let size = m.size in
    let within : number_of v < length marks = omega (arith, size, in_v) in
    let old = m.above (number_of w) in_w in
    let less : v.moment ≤ get_or marks (number_of w) 0 = omega (arith, old, le) in
    ap (λ (x : Bool). nat_lt v.moment k || x) (m.next w k in_w small)
    ∙ absorbed v.moment (get_or marks (number_of w) 0) k less
    ∙ ap (λ (x : ℕ). nat_lt x k) (sym (ap (λ (c : ℕ). get_or (set marks (number_of v) v.moment) c 0) same ∙ get_or-set_same marks (number_of v) v.moment 0 within))
next_by room floor v vs marks w k false e m le in_v in_w small =
    m.next w k in_w small ∙ ap (λ (x : ℕ). nat_lt x k) (sym (get_or-set_other marks (number_of v) (number_of w) v.moment 0 (other_number w v e)))

above_by : (room floor : ℕ) (v : Written) (vs : List Written) (marks : List ℕ) (c : ℕ) → Marked room floor vs marks → v.moment ≤ floor → number_of v < room → c < room → v.moment ≤ get_or (set marks (number_of v) v.moment) c 0
above_by room floor v vs marks c m le in_v in_c = elim (cases_eq c (number_of v)) [
  | inl e ↦
      let size = m.size in
      let within : number_of v < length marks = omega (arith, size, in_v) in
      let here : get_or (set marks (number_of v) v.moment) c 0 ≡ v.moment = ap (λ (n : ℕ). get_or (set marks (number_of v) v.moment) n 0) e ∙ get_or-set_same marks (number_of v) v.moment 0 within in
      omega (arith, here)
  | inr ne ↦
      let old = m.above c in_c in
      let there : get_or (set marks (number_of v) v.moment) c 0 ≡ get_or marks c 0 = get_or-set_other marks (number_of v) c v.moment 0 ne in
      omega (arith, there, old, le)
]

pub marked_on : (room floor : ℕ) (v : Written) (vs : List Written) (marks : List ℕ) → Marked room floor vs marks → v.moment ≤ floor → number_of v < room → Marked room v.moment (v ∷ vs) (set marks (number_of v) v.moment)
unfolding is_overwritten
marked_on room floor v vs marks m le in_v = record {
  size = length-set marks (number_of v) v.moment ∙ m.size;
  next = λ w k in_w small. next_by room floor v vs marks w k (same_address w v) refl m le in_v in_w small;
  above = λ c in_c. above_by room floor v vs marks c m le in_v in_c;
}

-- what the marks tell of the first write
pub unseen_is : (w : Written) (vs : List Written) (later : ℕ) (ks : List ℕ) → ((k : ℕ) → k ≤ top → is_overwritten w k vs ≡ nat_lt later k) → AreUpTo top ks → is_unseen w vs ks ≡ is_hidden_by w.moment later ks
unfolding is_unseen
unseen_is w vs later [] h small = refl
unseen_is w vs later (k ∷ ks) h small =
    ap (λ (b : Bool). (not (nat_lt w.moment k) || b) && is_unseen w vs ks) (h k small.0)
    ∙ ap (λ (b : Bool). (not (nat_lt w.moment k) || nat_lt later k) && b) (unseen_is w vs later ks h small.1)

-- how far the pass has come: so many writes are left
pub record Back (room : ℕ) (ks : List ℕ) (ws : List Written) (left : ℕ) (marks : List ℕ) (flags : List Bool) : Type 0 where
  pub floor : ℕ
  pub marked : Marked room floor (drop left ws) marks
  pub within : left ≤ length ws
  pub before : (i : ℕ) (d : Written) → i < left → (get_or ws i d).moment ≤ floor
  pub many : length flags ≡ length ws
  pub flagged : AreFlags ks (drop left ws) (drop left flags)

small_moments : (room n : ℕ) (ws : List Written) (i : ℕ) (d : Written) → AreMarkable room n ws → i < length ws → n ≤ (get_or ws i d).moment
small_moments room n [] i d h lt = absurd (omega (arith, lt))
small_moments room n (w ∷ ws) zero d h lt = h.0
small_moments room n (w ∷ ws) (suc i) d h lt = let first = h.0 in let rest : i < length ws = omega (arith, lt) in let more = small_moments room w.moment ws i d h.2 rest in omega (arith, first, more)

rising : (room n : ℕ) (ws : List Written) (i j : ℕ) (d : Written) → AreMarkable room n ws → i ≤ j → j < length ws → (get_or ws i d).moment ≤ (get_or ws j d).moment
rising room n [] i j d h le lt = absurd (omega (arith, lt))
rising room n (w ∷ ws) zero zero d h le lt = omega arith
rising room n (w ∷ ws) zero (suc j) d h le lt = let rest : j < length ws = omega (arith, lt) in small_moments room w.moment ws j d h.2 rest
rising room n (w ∷ ws) (suc i) zero d h le lt = absurd (omega (arith, le))
rising room n (w ∷ ws) (suc i) (suc j) d h le lt = let rest : j < length ws = omega (arith, lt) in let in_order : i ≤ j = omega (arith, le) in rising room w.moment ws i j d h.2 in_order rest

marked_at : (room n : ℕ) (ws : List Written) (i : ℕ) (d : Written) → AreMarkable room n ws → i < length ws → number_of (get_or ws i d) < room
marked_at room n [] i d h lt = absurd (omega (arith, lt))
marked_at room n (w ∷ ws) zero d h lt = h.1
marked_at room n (w ∷ ws) (suc i) d h lt = let rest : i < length ws = omega (arith, lt) in marked_at room w.moment ws i d h.2 rest

drop_more : (ws : List Written) (i : ℕ) (d : Written) → i < length ws → drop i ws ≡ get_or ws i d ∷ drop (i + 1) ws
drop_more ws i d lt = at_drop_more (λ (l : List Written). l) ws i d lt

same_default : (ws : List Written) (i j : ℕ) (e d : Written) → i ≤ j → j < length ws → (get_or ws i d).moment ≤ (get_or ws j d).moment → (get_or ws i e).moment ≤ (get_or ws j d).moment
same_default ws i j e d le lt h =
    let inside : i < length ws = omega (arith, le, lt) in
    let same : (get_or ws i e).moment ≡ (get_or ws i d).moment = ap (λ (w : Written). w.moment) (get_or_default ws i e d inside) in
    omega (arith, same, h)

-- one write more, from the back
pub back_on : (room : ℕ) (ks : List ℕ) (ws : List Written) (left : ℕ) (marks : List ℕ) (flags : List Bool) (d : Written) (b : Bool) → AreMarkable room 0 ws → AreUpTo top ks
    → Back room ks ws (left + 1) marks flags → b ≡ is_hidden_by (get_or ws left d).moment (get_or marks (number_of (get_or ws left d)) 0) ks
    → Back room ks ws left (set marks (number_of (get_or ws left d)) (get_or ws left d).moment) (set flags left b)
back_on room ks ws left marks flags d b made small p is =
    let w = get_or ws left d in
    let vs = drop (left + 1) ws in
    let inside = p.within in
    let many = p.many in
    let lt : left < length ws = omega (arith, inside) in
    let lt_flags : left < length flags = omega (arith, many, lt) in
    let in_w : number_of w < room = marked_at room 0 ws left d made lt in
    let last : left < left + 1 = omega arith in
    let le : w.moment ≤ p.floor = p.before left d last in
    let front : drop left ws ≡ w ∷ vs = drop_more ws left d lt in
    let flag : b ≡ is_unseen w vs ks = is ∙ sym (unseen_is w vs (get_or marks (number_of w) 0) ks (λ k h. p.marked.next w k in_w h) small) in
    let flags_front : drop left (set flags left b) ≡ b ∷ drop (left + 1) flags = drop-set flags left b lt_flags in
    record {
      floor = w.moment;
      marked = subst (λ (l : List Written). Marked room w.moment l (set marks (number_of w) w.moment)) (sym front) (marked_on room p.floor w vs marks p.marked le in_w);
      within = omega (arith, lt);
      before = λ i e h. (let in_order : i ≤ left = omega (arith, h) in same_default ws i left e d in_order lt (rising room 0 ws i left d made in_order lt));
      many = length-set flags left b ∙ many;
      flagged = subst (λ (l : List Written). AreFlags ks l (drop left (set flags left b))) (sym front) (subst (λ (l : List Bool). AreFlags ks (w ∷ vs) l) (sym flags_front) (flag, p.flagged));
    }

-- the default that an index of the code has
abbrev pub no_write : Write
no_write = record { moment = 0; table = Table.Name; id = ids.Given 0; text = record { at = 0; len = 0 } }

pub write_at : (bytes : List ℕ) (writes : List Write) (i : ℕ) → get_or (writes_seen bytes writes) i (write_seen bytes no_write) ≡ write_seen bytes (get_or writes i no_write)
write_at bytes writes i = listn.get_or-map (write_seen bytes) writes i no_write

pub back_code : (bytes : List ℕ) (room : ℕ) (ks : List ℕ) (writes : List Write) (left : ℕ) (marks : List ℕ) (flags : List Bool) (at : ℕ) (later : ℕ) (b : Bool) → 0 < left → AreMarkable room 0 (writes_seen bytes writes) → AreUpTo top ks
    → Back room ks (writes_seen bytes writes) left marks flags → at ≡ address_number (get_or writes (left - 1) no_write).table (id_seen (get_or writes (left - 1) no_write).id) → later ≡ get_or marks at 0
    → b ≡ is_hidden_by (get_or writes (left - 1) no_write).moment later ks
    → Back room ks (writes_seen bytes writes) (left - 1) (set marks at (get_or writes (left - 1) no_write).moment) (set flags (left - 1) b)
back_code bytes room ks writes left marks flags at later b some made small p at_is later_is is =
    let ws = writes_seen bytes writes in
    let i = left - 1 in
    let more : left ≡ i + 1 = omega (arith, some) in
    let seen : get_or ws i (write_seen bytes no_write) ≡ write_seen bytes (get_or writes i no_write) = write_at bytes writes i in
    let at_seen : at ≡ number_of (get_or ws i (write_seen bytes no_write)) = at_is ∙ ap number_of (sym seen) in
    let moment_seen : (get_or writes i no_write).moment ≡ (get_or ws i (write_seen bytes no_write)).moment = ap (λ (w : Written). w.moment) (sym seen) in
    let test : b ≡ is_hidden_by (get_or ws i (write_seen bytes no_write)).moment (get_or marks (number_of (get_or ws i (write_seen bytes no_write))) 0) ks
    = is ∙ ap (λ (n : ℕ). is_hidden_by n later ks) moment_seen ∙ ap (λ (n : ℕ). is_hidden_by (get_or ws i (write_seen bytes no_write)).moment n ks) (later_is ∙ ap (λ (n : ℕ). get_or marks n 0) at_seen) in
    let next = back_on room ks ws i marks flags (write_seen bytes no_write) b made small (subst (λ (n : ℕ). Back room ks ws n marks flags) more p) test in
    subst (λ (n : ℕ). Back room ks ws i (set marks n (get_or writes i no_write).moment) (set flags i b)) (sym at_seen)
    (subst (λ (n : ℕ). Back room ks ws i (set marks (number_of (get_or ws i (write_seen bytes no_write))) n) (set flags i b)) (sym moment_seen) next)

pub in_marks : (bytes : List ℕ) (room : ℕ) (writes : List Write) (left : ℕ) (at : ℕ) → 0 < left → left ≤ length writes → AreMarkable room 0 (writes_seen bytes writes) → at ≡ address_number (get_or writes (left - 1) no_write).table (id_seen (get_or writes (left - 1) no_write).id) → at < room
in_marks bytes room writes left at some le made e =
    let same : length (writes_seen bytes writes) ≡ length writes = length-map writes (write_seen bytes) in
    let lt : left - 1 < length (writes_seen bytes writes) = omega (arith, some, le, same) in
    let below = marked_at room 0 (writes_seen bytes writes) (left - 1) (write_seen bytes no_write) made lt in
    let seen : at ≡ number_of (get_or (writes_seen bytes writes) (left - 1) (write_seen bytes no_write)) = e ∙ ap number_of (sym (write_at bytes writes (left - 1))) in
    omega (arith, below, seen)

early_at : (n : ℕ) (ws : List Written) (i : ℕ) (d : Written) → AreBefore n ws → i < length ws → (get_or ws i d).moment < n
early_at n [] i d h lt = absurd (omega (arith, lt))
early_at n (w ∷ ws) zero d h lt = h.0
early_at n (w ∷ ws) (suc i) d h lt = let rest : i < length ws = omega (arith, lt) in early_at n ws i d h.1 rest

pub back_start : (bytes : List ℕ) (room : ℕ) (ks : List ℕ) (writes : List Write) (marks : List ℕ) (flags : List Bool) → length marks ≡ room → ((c : ℕ) → c < room → get_or marks c 0 ≡ top) → length flags ≡ length writes
    → AreBefore top (writes_seen bytes writes) → Back room ks (writes_seen bytes writes) (length writes) marks flags
back_start bytes room ks writes marks flags size fresh many small =
    let same : length (writes_seen bytes writes) ≡ length writes = length-map writes (write_seen bytes) in
    let none : drop (length writes) (writes_seen bytes writes) ≡ [] = drop_all (length writes) (writes_seen bytes writes) (omega (arith, same)) in
    let no_flags : drop (length writes) flags ≡ [] = drop_all (length writes) flags (omega (arith, many)) in
    record {
      floor = top;
      marked = subst (λ (l : List Written). Marked room top l marks) (sym none) (marked_none room top marks size fresh (omega arith));
      within = omega (arith, same);
      before = λ i d lt. (let inside : i < length (writes_seen bytes writes) = omega (arith, lt, same) in let early = early_at top (writes_seen bytes writes) i d small inside in omega (arith, early));
      many = many ∙ sym same;
      flagged = subst (λ (l : List Written). AreFlags ks l (drop (length writes) flags)) (sym none) no_flags;
    }

pub back_end : (room : ℕ) (ks : List ℕ) (ws : List Written) (left : ℕ) (marks : List ℕ) (flags : List Bool) → left ≡ 0 → Back room ks ws left marks flags → AreFlags ks ws flags
back_end room ks ws left marks flags e p = subst (λ (n : ℕ). AreFlags ks (drop n ws) (drop n flags)) e p.flagged
