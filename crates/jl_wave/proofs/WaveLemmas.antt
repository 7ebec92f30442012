-- Runs of a wave, and how a bench goes on over them.
use Rattle.std.proofs.Common.{◌≡◌, ℕ, zero, suc, ◌+◌, ◌<◌, ◌≤◌, List, [], ◌∷◌, ◌++◌, length, get_or, All, Option, Some, None, is_some, true, false, Result, Ok, Err, refl, subst, sym, ap, ◌∙◌, arith}
use Rattle.std.proofs.lemmas.Bool.{false≢true, leb-true}
use Rattle.std.proofs.lemmas.List.{get_or_push, length_push}
use Rattle.std.proofs.lemmas.List.Elements.{All-weaker}
use Rattle.jl_base.specs.Results.{Reading}
use Rattle.jl_base.specs.Terms.{Item}
use Rattle.jl_base.specs.declared.place.Fault.{Fault}
use Rattle.jl_rows.specs.Files.{Placed}
use Rattle.jl_rows.specs.Seen.{options_seen}
use Rattle.jl_rows.specs.Written.{StreamOptions}
use Rattle.jl_state.specs.Lawful.{IsLawful, state_seen}
use Rattle.jl_state.specs.Running.{run_on, after_reading}
use Rattle.jl_state.specs.States.{State}
use Rattle.jl_state.specs.declared.state.State as code
use Rattle.jl_sym_laws.specs.Staying.{IsSettled, RowsSettle}
use Rattle.jl_tape.specs.Tapes.{reading_of}
use Rattle.jl_tape.specs.declared.tape.PlacedRow.{PlacedRow}
use Rattle.jl_cells.specs.Knowledge.{Keeps, Knowledge}
use Rattle.jl_drive.specs.Pieces.{AreInOrder, EndsSo, IsPiece, Skipped}
use Rattle.jl_drive.specs.declared.piece.Piece.{Piece}
use Rattle.jl_scan.specs.Fields.{Field, HoldsRun, IsField, IsStateOf, after, rows, seen}
use Rattle.jl_scan.specs.declared.file.File.{File}
use Rattle.jl_scan.specs.Files.{IsFile, field_of}
use Rattle.jl_scan.specs.Blocks.{Block, cell_of}
use Rattle.jl_scan.specs.Reaching.{IsKnown, Known, Reaches}
use Rattle.jl_scan.specs.Walk.{walk}
use Rattle.jl_scan.proofs.FieldLemmas.{field_is, goes, starts, stops}
use Rattle.jl_scan.proofs.KnownLemmas.{some_kept}
use Rattle.jl_wave.specs.Tapes.{Ends, stated}
use Rattle.jl_wave.specs.Waves.{IsDead, IsFaulty, IsFine, IsMade}
use Rattle.jl_wave.specs.Benches.{IsBench, KnowsWay, Ran, dead_after, is_dead}
use Rattle.jl_wave.specs.declared.bench.Bench.{Bench}

-- the field of a scan's type is one
pub is_field : (w : Field) (file : File) (lo : ℕ) → w ≡ field_of file lo → IsFile file → IsField w
is_field w file lo same is = subst IsField (sym same) (field_is file lo is)

some_same : (a b : ℕ) → ◌≡◌ {A = Option ℕ} (Some a) (Some b) → a ≡ b
some_same a b e = cc

apart : (t : State) (f : Fault) → ◌≡◌ {A = Result State Fault} (Ok t) (Err f) → ⊥
apart t f e = cc

module _ (w : Field) (is : IsField w) (start : State) where
  pub fine_apart : (k : ℕ) (f : Fault) → IsFine w start k → IsFaulty w start k f → ⊥
  fine_apart k f fine faulty = apart fine.0 f (sym fine.1 ∙ goes w is 0 k (k + 1) start faulty.0 (Err f) (omega arith) (omega arith) faulty.1 faulty.2)

  -- where runs before this one have a fault, not all of them are fine
  pub dead_skips : (run : ℕ) → IsDead w start run → Skipped (IsFine w start) run
  dead_skips zero dead fine = apart start dead.0 (sym (starts w 0 start) ∙ dead.1)
  dead_skips (suc k) dead fine =
      let h = fine k (omega arith) in
      let same : k + 1 ≡ suc k = omega arith in
      apart h.0 dead.0 (sym h.1 ∙ (ap (λ (j : ℕ). after w 0 j start) same ∙ dead.1))

  -- a fault stays the first one
  pub dead_later : (d run : ℕ) → d ≤ run → IsDead w start d → IsDead w start run
  dead_later d run le dead = (dead.0, stops w is 0 d run start dead.0 (omega arith) le dead.1)

  pub reached_fault : (n : ℕ) (known : Known) (a b : ℕ) (s t : code.State) (fault : Option Fault) → a ≤ b → is_some fault ≡ true → after w 0 a start ≡ Ok (seen w s) → Reaches w n known a b s t fault → IsDead w start b
  reached_fault n known a b s t None le some came r = absurd (false≢true some)
  reached_fault n known a b s t (Some f) le some came r = (f, goes w is 0 a b start (seen w s) (Err f) (omega arith) le came r.0)

  pub reached_state : (n : ℕ) (known : Known) (a b : ℕ) (s t : code.State) (fault : Option Fault) → a ≤ b → is_some fault ≡ false → after w 0 a start ≡ Ok (seen w s) → Reaches w n known a b s t fault → IsStateOf w t × (after w 0 b start ≡ Ok (seen w t))
  reached_state n known a b s t None le none came r = (r.0, goes w is 0 a b start (seen w s) (Ok (seen w t)) (omega arith) le came r.1)
  reached_state n known a b s t (Some f) le none came r = absurd (false≢true (sym none))

module _ (w : Field) (start : State) where
  pub bench_dead : {F T : Type 0} (n : ℕ) (cells : List ℕ) (b : Bench F T) (run : ℕ) → b.pass.cells ≡ cells → b.at ≤ n → b.dead ≡ Some run → run ≤ n → IsDead w start run → IsBench w start n cells b
  bench_dead n cells b run pass within dead below is_dead = record {
    pass = pass;
    within = within;
    state = λ none. absurd (let e : ◌≡◌ {A = Option ℕ} (Some run) None = sym dead ∙ none in cc);
    dead = λ d here. let same : run ≡ d = some_same run d (sym dead ∙ here) in (subst (λ (k : ℕ). k ≤ n) same below, subst (λ (k : ℕ). IsDead w start k) same is_dead);
  }

  pub bench_there : {F T : Type 0} (n : ℕ) (cells : List ℕ) (b : Bench F T) (run : ℕ) (t : code.State) → b.pass.cells ≡ cells → b.at ≡ run → b.state ≡ t → b.dead ≡ None → run ≤ n → IsStateOf w t → after w 0 run start ≡ Ok (seen w t) → IsBench w start n cells b
  bench_there n cells b run t pass at state alive below of came = record {
    pass = pass;
    within = omega (arith, at);
    state = λ none.
        let here : after w 0 b.at start ≡ Ok (seen w t) = ap (λ (k : ℕ). after w 0 k start) at ∙ came in
        (subst (λ (s : code.State). IsStateOf w s) (sym state) of, subst (λ (s : code.State). after w 0 b.at start ≡ Ok (seen w s)) (sym state) here);
    dead = λ d here. absurd (let e : ◌≡◌ {A = Option ℕ} None (Some d) = sym alive ∙ here in cc);
  }

-- a bench whose state was made equal to the one before the wave
pub bench_fresh : {F T : Type 0} (w : Field) (n : ℕ) (cells : List ℕ) (b : Bench F T) (from : code.State) → IsStateOf w from → b.pass.cells ≡ cells → b.at ≡ 0 → b.dead ≡ None
    → ((bytes : List ℕ) → state_seen bytes b.state ≡ state_seen bytes from) → ((bytes : List ℕ) → IsLawful bytes from → IsLawful bytes b.state) → b.state.options ≡ from.options → IsBench w (seen w from) n cells b
bench_fresh w n cells b from of pass at alive same lawful options =
    let here : IsStateOf w b.state = record {
      lawful = lawful w.bytes of.lawful;
      options = ap (options_seen w.bytes) options ∙ of.options;
      settled = subst (λ (s : State). IsSettled w.options s) (sym (same w.bytes)) of.settled;
    } in
    bench_there w (seen w from) n cells b 0 b.state pass at refl alive (omega arith) here (starts w 0 (seen w from) ∙ ap (λ (s : State). Ok s) (sym (same w.bytes)))

-- a fault that is known to lie before the run
pub dead_now : (w : Field) (is : IsField w) (start : State) (n run : ℕ) (dead : Option ℕ) → is_dead dead run ≡ true → ((d : ℕ) → dead ≡ Some d → (d ≤ n) × IsDead w start d) → IsDead w start run
dead_now w is start n run None is_so all = absurd (false≢true is_so)
dead_now w is start n run (Some d) is_so all = dead_later w is start d run (leb-true d run is_so) (all d refl).1

-- where the runs have no fault, none lies before their end
pub all_alive : (w : Field) (is : IsField w) (start : State) (n : ℕ) (fault : Option Fault) → is_some fault ≡ false → Ran w start n fault → IsDead w start n → ⊥
all_alive w is start n None none ran dead = dead_skips w is start n dead ran
all_alive w is start n (Some f) none ran dead = absurd (false≢true (sym none))

-- the way that is known stays known
pub way_kept : {F T : Type 0} (n : ℕ) (b b' : Bench F T) → Keeps b.pass b'.pass → (k : ℕ) → KnowsWay n b k → KnowsWay n b' k
way_kept n b b' keeps k way = All-weaker (IsKnown n b.pass.known) (IsKnown n b'.pass.known) (λ x h. let i = cell_of n x.level x.k in some_kept b.pass.known b'.pass.known keeps i i refl h) (walk 0 k) way

-- how run k ends after the state s: with t as the state after it, or with a fault
abbrev pub Led : Field → ℕ → code.State → code.State → Option Fault → Type 0
Led w run s t None = IsStateOf w t × (after w run (run + 1) (seen w s) ≡ Ok (seen w t))
Led w run s t (Some f) = after w run (run + 1) (seen w s) ≡ Err f

-- what is promised of a tape, in the words of the field
to_field : (w : Field) (run : ℕ) (s : code.State) (tape : List PlacedRow) (fault : Option Fault) (r : Result State Fault) → IsStateOf w s → HoldsRun w run tape fault → after_reading (options_seen w.bytes s.options) (seen w s) (reading_of w.bytes tape fault) ≡ r → after w run (run + 1) (seen w s) ≡ r
to_field w run s tape fault r of holds e =
    subst (λ (R : Reading Placed Fault). after_reading w.options (seen w s) R ≡ r) holds.reads (subst (λ (o : StreamOptions). after_reading o (seen w s) (reading_of w.bytes tape fault) ≡ r) of.options e)

pub led : (w : Field) → RowsSettle → (run : ℕ) (s t : code.State) (tape : List PlacedRow) (fault r : Option Fault) → IsStateOf w s → HoldsRun w run tape fault → Ends w.bytes s t tape fault r → Led w run s t r
led w settle run s t tape fault None of holds ends =
    let on = to_field w run s tape fault (Ok (seen w t)) of holds ends.0 in
    (record { lawful = ends.1; options = ap (options_seen w.bytes) ends.2 ∙ of.options; settled = settle w.options (rows w run (run + 1)) (seen w s) (seen w t) of.settled on }, on)
led w settle run s t tape fault (Some f) of holds ends = to_field w run s tape fault (Err f) of holds ends

pub made_of : {M : Type 0} (w : Field) (run : ℕ) (s : code.State) (tape : List PlacedRow) (fault : Option Fault) (makes : Reading Item Fault → M → Type 0) (m : M) → IsStateOf w s → HoldsRun w run tape fault → makes (stated w.bytes s tape fault) m → makes (run_on w.options (seen w s) (rows w run (run + 1))) m
made_of w run s tape fault makes m of holds made =
    subst (λ (R : Reading Placed Fault). makes (run_on w.options (seen w s) R) m) holds.reads (subst (λ (o : StreamOptions). makes (run_on o (seen w s) (reading_of w.bytes tape fault)) m) of.options made)

module _ (w : Field) (is : IsField w) (start : State) (run : ℕ) (s t : code.State) (came : after w 0 run start ≡ Ok (seen w s)) where
  pub bench_after : {F T : Type 0} (n : ℕ) (cells : List ℕ) (b : Bench F T) (fault : Option Fault) → b.pass.cells ≡ cells → b.at ≡ run + 1 → b.state ≡ t → b.dead ≡ dead_after run fault → run < n → Led w run s t fault → IsBench w start n cells b
  bench_after n cells b None pass at state dead below made =
      bench_there w start n cells b (run + 1) t pass at state dead (omega arith) made.0 (goes w is 0 run (run + 1) start (seen w s) (Ok (seen w t)) (omega arith) (omega arith) came made.1)
  bench_after n cells b (Some f) pass at state dead below made =
      bench_dead w start n cells b (run + 1) pass (omega (arith, at)) dead (omega arith) (f, goes w is 0 run (run + 1) start (seen w s) (Err f) (omega arith) (omega arith) came made)

  pub ends_after : (fault : Option Fault) → Led w run s t fault → EndsSo (IsFine w start) (IsFaulty w start) run fault
  ends_after None made = (seen w t, goes w is 0 run (run + 1) start (seen w s) (Ok (seen w t)) (omega arith) (omega arith) came made.1)
  ends_after (Some f) made = (seen w s, came, made)

module _ {M : Type 0} (makes : ℕ → M → Type 0) (fine : ℕ → Type 0) (faulty : ℕ → Fault → Type 0) where
  fine_of : (k : ℕ) (fault : Option Fault) → fault ≡ None → EndsSo fine faulty k fault → fine k
  fine_of k None same ends = ends
  fine_of k (Some f) same ends = absurd (let e : ◌≡◌ {A = Option Fault} (Some f) None = same in cc)

  faulty_of : (k : ℕ) (fault : Option Fault) (f : Fault) → fault ≡ Some f → EndsSo fine faulty k fault → faulty k f
  faulty_of k None f same ends = absurd (let e : ◌≡◌ {A = Option Fault} None (Some f) = same in cc)
  faulty_of k (Some g) f same ends = let e : g ≡ f = (let h : ◌≡◌ {A = Option Fault} (Some g) (Some f) = same in cc) in subst (faulty k) e ends

  pub all_fine : (n : ℕ) (ps : List (Piece M)) → AreInOrder n ps None → All (IsPiece makes fine faulty) ps → (k : ℕ) → k < n → fine k
  all_fine n [] order each k below = absurd (let count = order.ends.0 in omega (arith, count))
  all_fine n (p ∷ ps) order each k below =
      let count = order.ends.0 in
      let within : k < length (p ∷ ps) = omega (arith, count) in
      let q = get_or (p ∷ ps) k p in
      subst fine (order.runs k p within) (fine_of q.run q.fault (order.ends.1 k p within) (each k p within).ends)

  pub first_fault : (n : ℕ) (ps : List (Piece M)) (f : Fault) → AreInOrder n ps (Some f) → All (IsPiece makes fine faulty) ps → (k : ℕ) × (k < n) × faulty k f
  first_fault n ps f order each =
      let before = order.ends.0 in
      let last = order.ends.1 in
      let are = order.ends.2 in
      let k = length before in
      let more : length (before ++ last ∷ []) ≡ k + 1 = length_push before last in
      let within : k < length ps = (let e : length ps ≡ length (before ++ last ∷ []) = ap length are in omega (arith, e, more)) in
      let here : get_or ps k last ≡ last = ap (λ (qs : List (Piece M)). get_or qs k last) are ∙ get_or_push before last last k refl in
      let run : last.run ≡ k = ap (λ (q : Piece M). q.run) (sym here) ∙ order.runs k last within in
      let ends = subst (λ (q : Piece M). EndsSo fine faulty q.run q.fault) here (each k last within).ends in
      (k, order.ends.3, subst (λ (j : ℕ). faulty j f) run (faulty_of last.run last.fault f order.ends.5 ends))

pub ran : {M : Type 0} (w : Field) (is : IsField w) (start : State) (makes : ℕ → M → Type 0) (n : ℕ) (ps : List (Piece M)) (fault : Option Fault) → AreInOrder n ps fault → All (IsPiece makes (IsFine w start) (IsFaulty w start)) ps → Ran w start n fault
ran w is start makes n ps None order each = all_fine makes (IsFine w start) (IsFaulty w start) n ps order each
ran w is start makes n ps (Some f) order each =
    let at = first_fault makes (IsFine w start) (IsFaulty w start) n ps f order each in
    let below = at.1 in
    let stop = goes w is 0 at.0 (at.0 + 1) start at.2.0 (Err f) (omega arith) (omega arith) at.2.1 at.2.2 in
    stops w is 0 (at.0 + 1) n start f (omega arith) (omega (arith, below)) stop
