-- Leaves, one after another.
use Rattle.std.proofs.Common.{◌≡◌, ℕ, ◌+◌, ◌*◌, ◌≤◌, Bool, true, false, ◌||◌, List, [], ◌∷◌, ◌++◌, map, length, Ok, refl, ap, subst, sym, ◌∙◌, arith}
use Rattle.std.proofs.lemmas.List.{length-map}
use Rattle.jl_base.specs.Results.{◌>>=◌}
use Rattle.jl_rows.specs.Written.{StreamOptions}
use Rattle.jl_rows.specs.Seen.{options_seen}
use Rattle.jl_rows.specs.declared.options.Options.{Options}
use Rattle.jl_state.specs.States.{State}
use Rattle.jl_state.specs.Lawful as states
use Rattle.jl_state.specs.Lawful.{state_seen}
use Rattle.jl_state.specs.declared.state.State as code
use Rattle.jl_sym_laws.specs.Summaries as sums
use Rattle.jl_sym_laws.specs.Acting.{act}
use Rattle.jl_sym_laws.specs.Cutting.{IsSmall, Sized}
use Rattle.jl_sym_laws.specs.Sizes.{all_slots}
use Rattle.jl_sym_laws.specs.Staying.{IsSettled}
use Rattle.jl_sym.specs.declared.summary.Summary.{Summary}
use Rattle.jl_sym.specs.Lawful.{IsLawful}
use Rattle.jl_sym.specs.Seen.{write_seen, demand_seen, summary_seen}
use Rattle.jl_sym.proofs.GrowLemmas.{bind_assoc}
use Rattle.jl_apply.specs.Applying.{Halts, WantsFor, leaves_triple_term}
use Rattle.jl_apply.specs.declared.acting.Halt.{Halt}
use Rattle.jl_apply.specs.declared.acting.Halt.TheVariants as halts
use Rattle.jl_compose.specs.Blocks.{act_all, seen_all, all_rows, all_writes, all_demands, leave_triple_term, AreLawful, AreMade, IsBounded, LeavesInTurn, LeavesSettle, StaysLawfulAll, TurnsAll}
use Rattle.jl_compose.specs.Turns.{Change, ActsInTurn, ActsAlike, HasTables, StaysLawful, Turns, seen_act}
use Rattle.jl_compose.proofs.Pushing.{empty_is}
use Rattle.jl_compose.proofs.Turning.{Led, bind_where, bind_ok, bound, unit_first}

pub leaves_turn : LeavesInTurn
unfolding act_all
leaves_turn [] ns s = refl
leaves_turn (m ∷ ms) ns s =
    bind_where (act m s) (λ t. act_all (ms ++ ns) t) (λ t. act_all ms t >>= λ u. act_all ns u) (λ t e. leaves_turn ms ns t)
    ∙ sym (bind_assoc (act m s) (λ t. act_all ms t) (λ t. act_all ns t))

ok_is : (s t : State) → ◌≡◌ {A = Led} (Ok s) (Ok t) → s ≡ t
ok_is s t e = cc

pub leaves_settle : LeavesSettle
unfolding act_all
leaves_settle o bytes [] h s t now e = subst (IsSettled o) (ok_is s t e) now
leaves_settle o bytes (m ∷ ms) h s t now e =
    let p = bound (seen_act bytes m s) (seen_all bytes ms) t e in
    leaves_settle o bytes ms h.1 p.value t (h.0.settles s p.value now p.was) p.next

-- one leaf
pub one_acts : (bytes : List ℕ) (m : Summary) (s : State) → seen_all bytes (m ∷ []) s ≡ seen_act bytes m s
unfolding act_all
one_acts bytes m s = bind_ok (seen_act bytes m s)

pub one_bounded : (o : StreamOptions) (bytes : List ℕ) (m : Summary) → IsSmall o (summary_seen bytes m) → IsBounded o (m ∷ [])
one_bounded o bytes m h =
    let writes : length (map (write_seen bytes) m.writes.items) ≤ 14 * all_slots o = h.0 in
    let demands : length (map demand_seen m.demands.items) ≤ 4 * all_slots o + 8 = h.1 in
    let same_writes = length-map m.writes.items (write_seen bytes) in
    let same_demands = length-map m.demands.items demand_seen in
    record { writes = omega (arith, writes, same_writes); demands = omega (arith, demands, same_demands) }

-- both lists of leaves
map_both : (bytes : List ℕ) (ms ns : List Summary) → map (summary_seen bytes) (ms ++ ns) ≡ map (summary_seen bytes) ms ++ map (summary_seen bytes) ns
map_both bytes [] ns = refl
map_both bytes (m ∷ ms) ns = ap (λ (l : List sums.Summary). summary_seen bytes m ∷ l) (map_both bytes ms ns)

pub both_act : (bytes : List ℕ) (ms ns : List Summary) (s : State) → seen_all bytes (ms ++ ns) s ≡ (seen_all bytes ms s >>= λ t. seen_all bytes ns t)
both_act bytes ms ns s =
    ap (λ (l : List sums.Summary). act_all l s) (map_both bytes ms ns) ∙ leaves_turn (map (summary_seen bytes) ms) (map (summary_seen bytes) ns) s

pub both_lawful : (o : StreamOptions) (bytes : List ℕ) (ms ns : List Summary) → AreLawful o bytes ms → AreLawful o bytes ns → AreLawful o bytes (ms ++ ns)
both_lawful o bytes [] ns h k = k
both_lawful o bytes (m ∷ ms) ns h k = (h.0, both_lawful o bytes ms ns h.1 k)

pub both_rows : (ms ns : List Summary) → all_rows (ms ++ ns) ≡ all_rows ms + all_rows ns
both_rows [] ns = omega arith
both_rows (m ∷ ms) ns = let e = both_rows ms ns in omega (arith, e)

pub both_writes : (ms ns : List Summary) → all_writes (ms ++ ns) ≡ all_writes ms + all_writes ns
both_writes [] ns = omega arith
both_writes (m ∷ ms) ns = let e = both_writes ms ns in omega (arith, e)

pub both_demands : (ms ns : List Summary) → all_demands (ms ++ ns) ≡ all_demands ms + all_demands ns
both_demands [] ns = omega arith
both_demands (m ∷ ms) ns = let e = both_demands ms ns in omega (arith, e)

pub lawful_made : (o : StreamOptions) (bytes : List ℕ) (ms : List Summary) → AreLawful o bytes ms → AreMade bytes ms
lawful_made o bytes [] h = tt
lawful_made o bytes (m ∷ ms) h = (h.0.made, lawful_made o bytes ms h.1)

-- how far leaves were appended
pub record Appending (bytes : List ℕ) (all : List Summary) (old : Summary) (rest : List Summary) (now : Summary) : Type 0 where
  pub acts : (o : StreamOptions) → HasTables o → IsLawful o bytes old → AreLawful o bytes all
      → (s : State) → IsSettled o s → (seen_act bytes now s >>= λ t. seen_all bytes rest t) ≡ (seen_act bytes old s >>= λ t. seen_all bytes all t)
  pub lawful : (o : StreamOptions) → HasTables o → IsLawful o bytes old → AreLawful o bytes all → IsLawful o bytes now × AreLawful o bytes rest
  pub made : AreMade bytes rest
  pub rows : now.rows + all_rows rest ≡ old.rows + all_rows all

pub appending_on : (bytes : List ℕ) (all : List Summary) (old m : Summary) (ms rest : List Summary) (now next : Summary) → rest ≡ m ∷ ms → Appending bytes all old rest now
    → Turns bytes now m next → StaysLawful bytes now m next → next.rows ≡ now.rows + m.rows → Appending bytes all old ms next
unfolding act_all
appending_on bytes all old m ms rest now next e p turns stays counted =
    let q : Appending bytes all old (m ∷ ms) now = subst (λ (l : List Summary). Appending bytes all old l now) e p in
    record {
      acts = λ o small h k s settled.
          let l = q.lawful o small h k in
          ap (λ (r : Led). r >>= λ t. seen_all bytes ms t) (turns o small l.0 l.1.0 s settled)
          ∙ bind_assoc (seen_act bytes now s) (seen_act bytes m) (seen_all bytes ms)
          ∙ q.acts o small h k s settled;
      lawful = λ o small h k. let l = q.lawful o small h k in (stays o small l.0 l.1.0, l.1.1);
      made = q.made.1;
      rows = let total = q.rows in omega (arith, total, counted);
    }

pub appending_start : (bytes : List ℕ) (all : List Summary) (old : Summary) → AreMade bytes all → Appending bytes all old all old
appending_start bytes all old made = record { acts = λ o small h k s settled. refl; lawful = λ o small h k. (h, k); made = made; rows = refl }

pub appended_all : (bytes : List ℕ) (all : List Summary) (old : Summary) (rest : List Summary) (now : Summary) → length rest ≡ 0 → Appending bytes all old rest now → TurnsAll bytes old all now
unfolding act_all
appended_all bytes all old rest now e p o small h k s settled =
    let q : Appending bytes all old [] now = subst (λ (l : List Summary). Appending bytes all old l now) (empty_is rest e) p in
    sym (bind_ok (seen_act bytes now s)) ∙ q.acts o small h k s settled

pub appended_rows : (bytes : List ℕ) (all : List Summary) (old : Summary) (rest : List Summary) (now : Summary) → length rest ≡ 0 → Appending bytes all old rest now → now.rows ≡ old.rows + all_rows all
appended_rows bytes all old rest now e p =
    let q : Appending bytes all old [] now = subst (λ (l : List Summary). Appending bytes all old l now) (empty_is rest e) p in
    let total = q.rows in
    omega (arith, total)

-- leaves after no rows, and then further leaves, compacted
pub flat_acts : (o : StreamOptions) (bytes : List ℕ) (none mid whole small_one : Summary) (ms ns : List Summary) → summary_seen bytes none ≡ sums.unit → ((o : StreamOptions) → IsLawful o bytes none) → HasTables o
    → AreLawful o bytes ms → AreLawful o bytes ns → TurnsAll bytes none ms mid → StaysLawfulAll bytes none ms mid → TurnsAll bytes mid ns whole
    → ((s : State) → Sized o s → act (summary_seen bytes small_one) s ≡ act (summary_seen bytes whole) s)
    → ActsInTurn o (seen_all bytes ms) (seen_all bytes ns) (seen_act bytes small_one)
flat_acts o bytes none mid whole small_one ms ns e lawful small h k first stays second alike s now =
    let copied : ActsInTurn o (act sums.unit) (seen_all bytes ms) (seen_act bytes mid) = subst (λ (m : sums.Summary). ActsInTurn o (act m) (seen_all bytes ms) (seen_act bytes mid)) e (first o small (lawful o) h) in
    alike s now.sized
    ∙ second o small (stays o small (lawful o) h) k s now
    ∙ ap (λ (r : Led). r >>= λ t. seen_all bytes ns t) (unit_first o (seen_all bytes ms) (seen_act bytes mid) copied s now)

-- how far a block has acted
pub record Acting (bytes : List ℕ) (all : List Summary) (old : code.State) (rest : List Summary) (now : code.State) : Type 0 where
  pub same : seen_all bytes all (state_seen bytes old) ≡ seen_all bytes rest (state_seen bytes now)
  pub lawful : AreLawful (options_seen bytes now.options) bytes rest
  pub state : states.IsLawful bytes now
  pub settled : IsSettled (options_seen bytes now.options) (state_seen bytes now)
  pub options : now.options ≡ old.options
  pub triple : leave_triple_term bytes rest ≡ true → leave_triple_term bytes all ≡ true

or_later : (b c : Bool) → c ≡ true → (b || c) ≡ true
or_later true c e = refl
or_later false c e = e

or_first : (b c : Bool) → b ≡ true → (b || c) ≡ true
or_first b c e = ap (λ (x : Bool). x || c) e

module _ (bytes : List ℕ) (all : List Summary) (old : code.State) (m : Summary) (ms rest : List Summary) (now : code.State) (e : rest ≡ m ∷ ms) (p : Acting bytes all old rest now) where
  at_leaf : Acting bytes all old (m ∷ ms) now
  at_leaf = subst (λ (l : List Summary). Acting bytes all old l now) e p

  pub leaf_lawful : IsLawful (options_seen bytes now.options) bytes m
  leaf_lawful = at_leaf.lawful.0

  pub acting_on : (next : code.State) → act (summary_seen bytes m) (state_seen bytes now) ≡ Ok (state_seen bytes next)
      → states.IsLawful bytes next → IsSettled (options_seen bytes next.options) (state_seen bytes next) → next.options ≡ now.options → Acting bytes all old ms next
  unfolding act_all
  acting_on next acts state settled options = record {
    same = at_leaf.same ∙ ap (λ (r : Led). r >>= λ t. seen_all bytes ms t) acts;
    lawful = subst (λ (l : Options). AreLawful (options_seen bytes l) bytes ms) (sym options) at_leaf.lawful.1;
    state = state;
    settled = settled;
    options = options ∙ at_leaf.options;
    triple = λ t. at_leaf.triple (or_later (leaves_triple_term bytes m) (leave_triple_term bytes ms) t);
  }

  pub acting_stopped : (halt : Halt) → Halts (act (summary_seen bytes m) (state_seen bytes now)) halt → Halts (seen_all bytes all (state_seen bytes old)) halt
  unfolding act_all
  acting_stopped (halts.Fault fault) acts = at_leaf.same ∙ ap (λ (r : Led). r >>= λ t. seen_all bytes ms t) acts
  acting_stopped halts.NoMemory acts = tt

  pub acting_wants : (halt : Halt) → WantsFor (leaves_triple_term bytes m) halt → WantsFor (leave_triple_term bytes all) halt
  acting_wants (halts.Fault fault) h = tt
  acting_wants halts.NoMemory h = at_leaf.triple (or_first (leaves_triple_term bytes m) (leave_triple_term bytes ms) h)

pub acting_end : (bytes : List ℕ) (all : List Summary) (old : code.State) (rest : List Summary) (now : code.State) → length rest ≡ 0 → Acting bytes all old rest now → seen_all bytes all (state_seen bytes old) ≡ Ok (state_seen bytes now)
unfolding act_all
acting_end bytes all old rest now e p = p.same ∙ ap (λ (l : List Summary). seen_all bytes l (state_seen bytes now)) (empty_is rest e)

-- how many writes and demands were counted
pub record Counting (all rest : List Summary) (writes demands : ℕ) : Type 0 where
  pub writes_are : writes + all_writes rest ≡ all_writes all
  pub demands_are : demands + all_demands rest ≡ all_demands all

-- a block of one summary
pub single_acts : (o : StreamOptions) (bytes : List ℕ) (ks : List Summary) (m : Summary) (f : Change) → ks ≡ m ∷ [] → ActsAlike o (seen_act bytes m) f → ActsAlike o (seen_all bytes ks) f
single_acts o bytes ks m f e alike s now = ap (λ (l : List Summary). seen_all bytes l s) e ∙ one_acts bytes m s ∙ alike s now

-- a block of two in turn
module _ (o : StreamOptions) (bytes : List ℕ) (ms ns ks : List Summary) where
  pub single_turns : (m : Summary) → ks ≡ m ∷ [] → ActsInTurn o (seen_all bytes ms) (seen_all bytes ns) (seen_act bytes m) → ActsInTurn o (seen_all bytes ms) (seen_all bytes ns) (seen_all bytes ks)
  single_turns m e turns s now = ap (λ (l : List Summary). seen_all bytes l s) e ∙ one_acts bytes m s ∙ turns s now

  pub joined_acts : ks ≡ ms ++ ns → ActsInTurn o (seen_all bytes ms) (seen_all bytes ns) (seen_all bytes ks)
  joined_acts e s now = ap (λ (l : List Summary). seen_all bytes l s) e ∙ both_act bytes ms ns s

  pub joined_lawful : ks ≡ ms ++ ns → AreLawful o bytes ms → AreLawful o bytes ns → AreLawful o bytes ks
  joined_lawful e h k = subst (AreLawful o bytes) (sym e) (both_lawful o bytes ms ns h k)

  pub joined_bounded : ks ≡ ms ++ ns → (all_writes ms + all_writes ns ≤ 1024 * all_slots o) × (all_demands ms + all_demands ns ≤ 256 * all_slots o + 8) → IsBounded o ks
  joined_bounded e h =
      let writes = ap all_writes e ∙ both_writes ms ns in
      let demands = ap all_demands e ∙ both_demands ms ns in
      let few_writes = h.0 in
      let few_demands = h.1 in
      record { writes = omega (arith, writes, few_writes); demands = omega (arith, demands, few_demands) }

  pub joined_rows : ks ≡ ms ++ ns → all_rows ks ≡ all_rows ms + all_rows ns
  joined_rows e = ap all_rows e ∙ both_rows ms ns
