-- What workers have done, run by run and together.
use Rattle.std.proofs.Common.{◌≡◌, ℕ, zero, suc, ◌+◌, ◌-◌, ◌==◌, ◌<◌, ◌≤◌, min, ◌⊎◌, inl, inr, List, [], ◌∷◌, ◌++◌, length, All, Contains, Option, Some, None, refl, subst, sym, ap, ◌∙◌, ⊎_elim, arith}
use Rattle.std.proofs.lemmas.Bool.{cond-false, ne_eqb}
use Rattle.std.proofs.lemmas.List.{length_push, map-append, append-nil, get_or_append_left, get_or_push, length-append}
use Rattle.std.proofs.lemmas.List.Elements.{All-nil, All-cons, All-append, All-push, All-weaker, All-contains, Contains-append_left, Contains-append_right, Contains-push}
use Rattle.jl_base.specs.declared.place.Fault.{Fault}
use Rattle.jl_claim.specs.Numbers.{times, once_below, least_of}
use Rattle.jl_drive.specs.declared.piece.Piece.{Piece}
use Rattle.jl_drive.specs.Pieces.{Skipped, EndsSo, IsPiece, IsOf, runs_of}
use Rattle.atomic_table.specs.Seated.{TableId}
use Rattle.jl_claim.specs.Standing.{Standing, joined}
use Rattle.jl_drive.specs.declared.jobs.Done.{Done}
use Rattle.jl_drive.specs.declared.gather.Gathered.{Gathered}
use Rattle.jl_drive.specs.Working.{Accounted, IsFaulty, IsWorked, IsMine, IsDone, IsGathered, lowered_by, room_of}
use Rattle.jl_drive.proofs.Numbers.{all_drawn, least_contained}

module _ {M : Type 0} where
  has_left : (ps qs : List (Piece M)) (k : ℕ) → Contains (runs_of ps) k → Contains (runs_of (ps ++ qs)) k
  has_left ps qs k has =
      let P : List ℕ → Type 0 = λ xs. Contains xs k in subst P (sym (map-append (λ (p : Piece M). p.run) ps qs)) (Contains-append_left (runs_of ps) (runs_of qs) k has)

  has_right : (ps qs : List (Piece M)) (k : ℕ) → Contains (runs_of qs) k → Contains (runs_of (ps ++ qs)) k
  has_right ps qs k has =
      let P : List ℕ → Type 0 = λ xs. Contains xs k in subst P (sym (map-append (λ (p : Piece M). p.run) ps qs)) (Contains-append_right (runs_of ps) (runs_of qs) k has)

module _ {M : Type 0} (fine : ℕ → Type 0) where
  accounted_left : (seen seen' : ℕ) (ps qs : List (Piece M)) (k : ℕ) → seen' ≤ seen → Accounted fine seen ps k → Accounted fine seen' (ps ++ qs) k
  accounted_left seen seen' ps qs k less (inl has) = inl (has_left ps qs k has)
  accounted_left seen seen' ps qs k less (inr (inl below)) = inr (inl (omega arith))
  accounted_left seen seen' ps qs k less (inr (inr skipped)) = inr (inr skipped)

  accounted_right : (seen seen' : ℕ) (ps qs : List (Piece M)) (k : ℕ) → seen' ≤ seen → Accounted fine seen qs k → Accounted fine seen' (ps ++ qs) k
  accounted_right seen seen' ps qs k less (inl has) = inl (has_right ps qs k has)
  accounted_right seen seen' ps qs k less (inr (inl below)) = inr (inl (omega arith))
  accounted_right seen seen' ps qs k less (inr (inr skipped)) = inr (inr skipped)

module _ {M : Type 0} (makes : ℕ → M → Type 0) (fine : ℕ → Type 0) (faulty : ℕ → Fault → Type 0) (n : ℕ) where
  abbrev Worked : List ℕ → List ℕ → ℕ → List (Piece M) → Type 0
  Worked drawn lowered seen ps = IsWorked makes fine faulty n drawn lowered seen ps

  -- two together
  pub worked_both : (drawn drawn' lowered lowered' : List ℕ) (seen seen' : ℕ) (ps ps' : List (Piece M)) → Worked drawn lowered seen ps → Worked drawn' lowered' seen' ps'
      → Worked (drawn ++ drawn') (lowered ++ lowered') (min seen seen') (ps ++ ps')
  worked_both drawn drawn' lowered lowered' seen seen' ps ps' w w' = record {
    drawn =
        All-append
        (λ k. k < n → Accounted fine (min seen seen') (ps ++ ps') k)
        drawn
        drawn'
        (All-weaker
        (λ k. k < n → Accounted fine seen ps k)
        (λ k. k < n → Accounted fine (min seen seen') (ps ++ ps') k)
        (λ k h below. accounted_left fine seen (min seen seen') ps ps' k (omega arith) (h below))
        drawn
        w.drawn)
        (All-weaker
        (λ k. k < n → Accounted fine seen' ps' k)
        (λ k. k < n → Accounted fine (min seen seen') (ps ++ ps') k)
        (λ k h below. accounted_right fine seen' (min seen seen') ps ps' k (omega arith) (h below))
        drawn'
        w'.drawn);
    lowered = All-append (IsFaulty faulty) lowered lowered' w.lowered w'.lowered;
    each = All-append (IsPiece makes fine faulty) ps ps' w.each w'.each;
    within = All-append (λ p. p.run < n) ps ps' w.within w'.within;
  }

  -- one run more that was drawn, without a piece
  pub worked_none : (drawn lowered : List ℕ) (seen seen' k : ℕ) (ps : List (Piece M)) → Worked drawn lowered seen ps → seen' ≤ seen → (k < n → Accounted fine seen' ps k) → Worked (drawn ++ k ∷ []) lowered seen' ps
  worked_none drawn lowered seen seen' k ps w less here = record {
    drawn =
        All-push
        (λ j. j < n → Accounted fine seen' ps j)
        drawn
        k
        (All-weaker
        (λ j. j < n → Accounted fine seen ps j)
        (λ j. j < n → Accounted fine seen' ps j)
        (λ j h below. subst (λ (qs : List (Piece M)). Accounted fine seen' qs j) (append-nil ps) (accounted_left fine seen seen' ps [] j less (h below)))
        drawn
        w.drawn)
        here;
    lowered = w.lowered;
    each = w.each;
    within = w.within;
  }

  all_lowered : (k : ℕ) (fault : Option Fault) → EndsSo fine faulty k fault → All (IsFaulty faulty) (lowered_by k fault)
  all_lowered k None ends = All-nil (IsFaulty faulty)
  all_lowered k (Some f) ends = All-cons (IsFaulty faulty) k [] (f, ends) (All-nil (IsFaulty faulty))

  -- and with a piece
  pub worked_one : (drawn lowered : List ℕ) (seen seen' : ℕ) (p : Piece M) (ps : List (Piece M)) → Worked drawn lowered seen ps → seen' ≤ seen → p.run < n → IsPiece makes fine faulty p
      → Worked (drawn ++ p.run ∷ []) (lowered ++ lowered_by p.run p.fault) seen' (ps ++ p ∷ [])
  worked_one drawn lowered seen seen' p ps w less below piece = record {
    drawn =
        All-push
        (λ j. j < n → Accounted fine seen' (ps ++ p ∷ []) j)
        drawn
        p.run
        (All-weaker
        (λ j. j < n → Accounted fine seen ps j)
        (λ j. j < n → Accounted fine seen' (ps ++ p ∷ []) j)
        (λ j h below. accounted_left fine seen seen' ps (p ∷ []) j less (h below))
        drawn
        w.drawn)
        (λ _. inl (has_right ps (p ∷ []) p.run (0, omega arith, refl)));
    lowered = All-append (IsFaulty faulty) lowered (lowered_by p.run p.fault) w.lowered (all_lowered p.run p.fault piece.ends);
    each = All-push (IsPiece makes fine faulty) ps p w.each piece;
    within = All-push (λ p. p.run < n) ps p w.within below;
  }

  -- so at the end there is a piece of each run that has no fault before it
  pub covered : (drawn lowered : List ℕ) (seen next low : ℕ) (ps : List (Piece M)) → ((k : ℕ) (f : Fault) → fine k → faulty k f → ⊥) → Worked drawn lowered seen ps
      → ((x : ℕ) → times x drawn ≡ once_below x next) → low ≡ least_of n lowered → low ≤ seen → (x : ℕ) × (n ≤ x) × Contains drawn x
      → (k : ℕ) → k < n → Contains (runs_of ps) k ⊎ Skipped fine k
  covered drawn lowered seen next low ps apart w once least le beyond k below =
      let P : ℕ → Type 0 = λ j. j < n → Accounted fine seen ps j in
      let account = All-contains P drawn k w.drawn (all_drawn n next drawn once beyond k below) in
      ⊎_elim
      (λ has. inl has)
      (λ other.
      inr
      (⊎_elim
      (λ less.
      let at = least_contained n lowered (omega arith) in
      let faulty_there = All-contains (IsFaulty faulty) lowered (least_of n lowered) w.lowered at in
      λ fine_all. apart (least_of n lowered) faulty_there.0 (fine_all (least_of n lowered) (omega arith)) faulty_there.1)
      (λ skipped. skipped)
      other))
      (account below)

module _ {O M : Type 0} (knows : O → ℕ → Type 0) where
  pub mine_later : (number : ℕ) (own own' : O) (ps : List (Piece M)) → ((k : ℕ) → knows own k → knows own' k) → All (IsMine knows number own) ps → All (IsMine knows number own') ps
  mine_later number own own' ps keeps mine = All-weaker (IsMine knows number own) (IsMine knows number own') (λ p h. (h.0, keeps p.run h.1)) ps mine

  of_more : (owns : List O) (own : O) (p : Piece M) → IsOf knows owns p → IsOf knows (owns ++ own ∷ []) p
  of_more owns own p of = record {
    worker = omega (arith, length-append owns (own ∷ []), of.worker);
    way = λ d. subst (λ (o : O). knows o p.run) (sym (get_or_append_left owns (own ∷ []) d p.worker of.worker)) (of.way d);
  }

  of_mine : (owns : List O) (own : O) (p : Piece M) → IsMine knows (length owns) own p → IsOf knows (owns ++ own ∷ []) p
  of_mine owns own p mine = record {
    worker = let at = mine.0 in omega (arith, length-append owns (own ∷ []));
    way = λ d. subst (λ (o : O). knows o p.run) (sym (get_or_push owns own d p.worker (sym mine.0))) mine.1;
  }

  pub of_both : (owns : List O) (own : O) (ps ps' : List (Piece M)) → All (IsOf knows owns) ps → All (IsMine knows (length owns) own) ps' → All (IsOf knows (owns ++ own ∷ [])) (ps ++ ps')
  of_both owns own ps ps' of mine =
      All-append
      (IsOf knows (owns ++ own ∷ []))
      ps
      ps'
      (All-weaker (IsOf knows owns) (IsOf knows (owns ++ own ∷ [])) (λ p h. of_more owns own p h) ps of)
      (All-weaker (IsMine knows (length owns) own) (IsOf knows (owns ++ own ∷ [])) (λ p h. of_mine owns own p h) ps' mine)

room_none : (workers k : ℕ) → 1 ≤ k → room_of workers k ≡ 0
room_none workers k some = cond-false (k == 0) (64 - workers) 0 (ne_eqb k 0 (λ none. omega arith))

module _ {O M : Type 0} (Fits : O → Type 0) (knows : O → ℕ → Type 0) (makes : ℕ → M → Type 0) (fine : ℕ → Type 0) (faulty : ℕ → Fault → Type 0) (n workers : ℕ) (at : TableId) where
  -- one worker more
  pub gathered_more : (x y : ℕ) (all new : Gathered O M) (d : Done O M) → IsGathered Fits knows makes fine faulty n workers at x all → IsDone Fits knows makes fine faulty n workers at d → 1 ≤ x → d.number ≡ x → y ≡ x + 1
      → new.seat ≡ joined all.seat d.seat → new.owns.items ≡ all.owns.items ++ d.own ∷ [] → new.pieces.items ≡ all.pieces.items ++ d.pieces.items
      → IsGathered Fits knows makes fine faulty n workers at y new
  gathered_more x y all new d g done some number more seat owns pieces = record {
    board = ap (λ (s : Standing). s.board) seat ∙ g.board;
    bound = ap (λ (s : Standing). s.bound) seat ∙ g.bound;
    seats = let e = ap (λ (s : Standing). s.seats) seat in let a = g.seats in let b = done.seats in omega (arith, e, a, b);
    room = let e = ap (λ (s : Standing). s.room) seat in let a = g.room in let b = done.room in let c = room_none workers d.number (omega arith) in omega (arith, e, a, b, c);
    beyond = (
      g.beyond.0,
      g.beyond.1,
      subst (λ (s : Standing). Contains s.drawn g.beyond.0) (sym seat) (Contains-append_left all.seat.drawn d.seat.drawn g.beyond.0 g.beyond.2),
    );
    worked =
        subst
        (λ (s : Standing). IsWorked makes fine faulty n s.drawn s.lowered s.seen new.pieces.items)
        (sym seat)
        (subst
        (λ (ps : List (Piece M)). IsWorked makes fine faulty n (joined all.seat d.seat).drawn (joined all.seat d.seat).lowered (joined all.seat d.seat).seen ps)
        (sym pieces)
        (worked_both makes fine faulty n all.seat.drawn d.seat.drawn all.seat.lowered d.seat.lowered all.seat.seen d.seat.seen all.pieces.items d.pieces.items g.worked done.worked));
    owns = ap length owns ∙ (length_push all.owns.items d.own ∙ (let a = g.owns in omega (arith, a)));
    fits = subst (λ (os : List O). All Fits os) (sym owns) (All-push Fits all.owns.items d.own g.fits done.fits);
    of =
        let count : d.number ≡ length all.owns.items = number ∙ sym g.owns in
        let mine = subst (λ (k : ℕ). All (IsMine knows k d.own) d.pieces.items) count done.mine in
        subst
        (λ (os : List O). All (IsOf knows os) new.pieces.items)
        (sym owns)
        (subst (λ (ps : List (Piece M)). All (IsOf knows (all.owns.items ++ d.own ∷ [])) ps) (sym pieces) (of_both knows all.owns.items d.own all.pieces.items d.pieces.items g.of mine));
  }

-- a number that was just drawn
pub last_drawn : (drawn all : List ℕ) (run x : ℕ) → all ≡ drawn ++ run ∷ [] → run + 1 ≡ x + 1 → Contains all x
last_drawn drawn all run x are same =
    let here : run ≡ x = omega arith in
    subst (λ (xs : List ℕ). Contains xs x) (sym are) (subst (λ (k : ℕ). Contains (drawn ++ run ∷ []) k) here (Contains-push drawn run))

-- draws rise
pub passed_by : (passed run : ℕ) (drawn : List ℕ) → ((x : ℕ) → passed ≡ x + 1 → Contains drawn x) → All (λ x. x < run) drawn → passed ≤ run
passed_by zero run drawn last above = omega arith
passed_by (suc x) run drawn last above = let here : x < run = All-contains (λ y. y < run) drawn x above (last x (omega arith)) in omega arith

pub below_more : (drawn all : List ℕ) (run : ℕ) → all ≡ drawn ++ run ∷ [] → All (λ x. x < run) drawn → All (λ x. x < run + 1) all
below_more drawn all run are above =
    subst
    (λ (xs : List ℕ). All (λ x. x < run + 1) xs)
    (sym are)
    (All-push (λ x. x < run + 1) drawn run (All-weaker (λ x. x < run) (λ x. x < run + 1) (λ x h. omega arith) drawn above) (omega arith))
