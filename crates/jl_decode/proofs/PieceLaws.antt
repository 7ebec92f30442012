-- What pieces come to, one after another.
use Rattle.std.proofs.Common.{◌≡◌, ℕ, ◌+◌, ◌<◌, ◌≤◌, List, [], ◌∷◌, ◌++◌, All, length, Option, Some, None, MatchOption, Result, Ok, Err, refl, ap, sym, subst, ◌∙◌, append_assoc, append-nil, arith}
use Rattle.std.proofs.lemmas.List.Elements.{All-head, All-tail}
use Rattle.jl_base.specs.Results.{◌>>=◌, Reading, joined}
use Rattle.jl_base.specs.Terms.{Item}
use Rattle.jl_base.specs.declared.place.Fault.{Fault}
use Rattle.jl_drive.specs.declared.piece.Piece.{Piece}
use Rattle.jl_rows.specs.Files.{Placed}
use Rattle.jl_frames.proofs.Stretches.{between_none}
use Rattle.jl_state.specs.Running.{run_on}
use Rattle.jl_state.specs.States.{State}
use Rattle.jl_tape.specs.Runs.{no_rows}
use Rattle.jl_tape.proofs.TapeLemmas.{joined_assoc}
use Rattle.jl_scan.specs.Fields.{Field, IsField, after, before, rows}
use Rattle.jl_scan.proofs.FieldLemmas.{after_runs, rows_joined}
use Rattle.jl_lines.specs.Counts.{none_counted, namespaces, statements, with_counted}
use Rattle.jl_lines.specs.Going.{Outcome, outcome_of}
use Rattle.jl_lines.specs.Writings.{written}
use Rattle.jl_lines.specs.declared.decoding.Counts.{Counts}
use Rattle.jl_lines.specs.declared.writing.Writing.{Writing}
use Rattle.jl_lines.proofs.GoingLemmas.{items_on}
use Rattle.jl_decode.specs.Pieces.{ArePiecesFrom, IsPieceOf, IsWritten, both_counted, counts_with, lines_of}
use Rattle.jl_decode.specs.declared.piece.Written.{Written}
use Rattle.jl_decode.proofs.RunLemmas.{run_ends, run_goes, run_stays}

ok_same : (a b : State) → ◌≡◌ {A = Result State Fault} (Ok a) (Ok b) → a ≡ b
ok_same a b e = cc

-- counts from none, and others before them
counted_both : (c d : Counts) (items : List Item) → d ≡ with_counted none_counted items → both_counted c d ≡ with_counted c items
counted_both c d items e =
    let s : c.statements + (0 + statements items) ≡ c.statements + statements items = omega arith in
    let n : c.namespaces + (0 + namespaces items) ≡ c.namespaces + namespaces items = omega arith in
    ap (both_counted c) e ∙ rw (s, n) refl

abbrev pub is_fine : Piece Written → Type 0
is_fine p = p.fault ≡ None

module _ (writing : Writing) (w : Field) (is : IsField w) (s : State) (n : ℕ) where
  -- what the runs from k on come to, from a state, and then what follows them
  abbrev pub left_of : List ℕ → Counts → ℕ → State → Reading Placed Fault → Outcome
  left_of l c k t B = outcome_of (written writing) l c (run_on w.options t (joined (rows w k n) B))

  rows_split : (k : ℕ) (B : Reading Placed Fault) → k < n → joined (rows w k n) B ≡ joined (rows w k (k + 1)) (joined (rows w (k + 1) n) B)
  rows_split k B lt =
      let this = rows w k (k + 1) in
      let rest = rows w (k + 1) n in
      ap (λ (R : Reading Placed Fault). joined R B) (rows_joined w is k (k + 1) n (omega arith) (omega (arith, lt))) ∙ sym (joined_assoc this.items this.fault rest.items rest.fault B)

  came_on : (k : ℕ) (t : State) (r : Result State Fault) → after w 0 k s ≡ Ok t → after w k (k + 1) t ≡ r → after w 0 (k + 1) s ≡ r
  came_on k t r came on = after_runs w is 0 k (k + 1) s (omega arith) (omega arith) ∙ ap (λ (x : Result State Fault). x >>= λ u. after w k (k + 1) u) came ∙ on

  -- a piece, from the state at which its run is known to begin
  here : (k : ℕ) (t : State) (p : Piece Written) (of : IsPieceOf writing w s k p) → after w 0 k s ≡ Ok t → of.stand ≡ t
  here k t p of came = ok_same of.stand t (sym of.came ∙ came)

  record Goes (l : List ℕ) (c : Counts) (k : ℕ) (t : State) (p : Piece Written) : Type 0 where
    pub next : State
    pub came : after w 0 (k + 1) s ≡ Ok next
    pub left : (B : Reading Placed Fault) → left_of l c k t B ≡ left_of (l ++ p.made.page.lines) (both_counted c p.made.counts) (k + 1) next B

  piece_goes : (l : List ℕ) (c : Counts) (k : ℕ) (t : State) (p : Piece Written) → IsPieceOf writing w s k p → is_fine p → k < n → after w 0 k s ≡ Ok t → Goes l c k t p
  piece_goes l c k t p of fine lt came =
      let o = w.options in
      let same = here k t p of came in
      let ends : (u : State) × (after w k (k + 1) of.stand ≡ Ok u) = subst (λ (x : Option Fault). MatchOption x ((u : State) × (after w k (k + 1) of.stand ≡ Ok u)) (λ f. after w k (k + 1) of.stand ≡ Err f)) fine of.ends in
      let on : after w k (k + 1) t ≡ Ok ends.0 = ap (after w k (k + 1)) (sym same) ∙ ends.1 in
      let made : IsWritten writing (run_on o t (rows w k (k + 1))) p.made = subst (λ (u : State). IsWritten writing (run_on o u (rows w k (k + 1))) p.made) same of.made in
      record {
        next = ends.0;
        came = came_on k t (Ok ends.0) came on;
        left = λ B. (
            let rest = joined (rows w (k + 1) n) B in
            let items = (run_on o t (rows w k (k + 1))).items in
            ap (outcome_of (written writing) l c) (ap (run_on o t) (rows_split k B lt) ∙ run_goes o t ends.0 (rows w k (k + 1)) rest on)
            ∙ items_on (written writing) l (l ++ p.made.page.lines) c (both_counted c p.made.counts) items (run_on o ends.0 rest) (ap (λ (x : List ℕ). l ++ x) made.0) (counted_both c p.made.counts items made.1));
      }

  none_left : (k : ℕ) (B : Reading Placed Fault) → k ≡ n → joined (rows w k n) B ≡ B
  none_left k B same =
      let le : before w n ≤ before w k = subst (λ (i : ℕ). before w n ≤ before w i) (sym same) (omega arith) in
      ap (λ (R : Reading Placed Fault). joined R B) (between_none w.bytes w.index (before w k) (before w n) no_rows le)

  -- Pieces without a fault, up to the last run: the state after it, and what is left there.
  pub record Whole (l : List ℕ) (c : Counts) (k : ℕ) (t : State) (ps : List (Piece Written)) : Type 0 where
    pub end : State
    pub came : after w 0 n s ≡ Ok end
    pub left : (B : Reading Placed Fault) → left_of l c k t B ≡ outcome_of (written writing) (l ++ lines_of ps) (counts_with c ps) (run_on w.options end B)

  pub pieces_whole : (ps : List (Piece Written)) (l : List ℕ) (c : Counts) (k : ℕ) (t : State) → ArePiecesFrom writing w s k ps → All is_fine ps → k + length ps ≡ n → after w 0 k s ≡ Ok t → Whole l c k t ps
  pieces_whole [] l c k t are fine count came =
      let same : k ≡ n = omega (arith, count) in
      record {
        end = t;
        came = subst (λ (i : ℕ). after w 0 i s ≡ Ok t) same came;
        left = λ B. ap (λ (R : Reading Placed Fault). outcome_of (written writing) l c (run_on w.options t R)) (none_left k B same)
            ∙ ap (λ (x : List ℕ). outcome_of (written writing) x c (run_on w.options t B)) (sym (append-nil l));
      }
  pieces_whole (p ∷ ps) l c k t are fine count came =
      let goes = piece_goes l c k t p are.0 (All-head is_fine p ps fine) (omega (arith, count)) came in
      let rest = pieces_whole ps (l ++ p.made.page.lines) (both_counted c p.made.counts) (k + 1) goes.next are.1 (All-tail is_fine p ps fine) (omega (arith, count)) goes.came in
      record {
        end = rest.end;
        came = rest.came;
        left = λ B. goes.left B ∙ rest.left B ∙ ap (λ (x : List ℕ). outcome_of (written writing) x (counts_with c (p ∷ ps)) (run_on w.options rest.end B)) (append_assoc l p.made.page.lines (lines_of ps));
      }

  piece_ends : (l : List ℕ) (c : Counts) (k : ℕ) (t : State) (p : Piece Written) (f : Fault) (B : Reading Placed Fault) → IsPieceOf writing w s k p → p.fault ≡ Some f → k < n → after w 0 k s ≡ Ok t
      → left_of l c k t B ≡ record { lines = l ++ p.made.page.lines; counts = both_counted c p.made.counts; fault = Some f }
  piece_ends l c k t p f B of faulty lt came =
      let o = w.options in
      let same = here k t p of came in
      let ends : after w k (k + 1) of.stand ≡ Err f = subst (λ (x : Option Fault). MatchOption x ((u : State) × (after w k (k + 1) of.stand ≡ Ok u)) (λ g. after w k (k + 1) of.stand ≡ Err g)) faulty of.ends in
      let on : after w k (k + 1) t ≡ Err f = ap (after w k (k + 1)) (sym same) ∙ ends in
      let made : IsWritten writing (run_on o t (rows w k (k + 1))) p.made = subst (λ (u : State). IsWritten writing (run_on o u (rows w k (k + 1))) p.made) same of.made in
      let said = run_on o t (rows w k (k + 1)) in
      ap (outcome_of (written writing) l c) (ap (run_on o t) (rows_split k B lt) ∙ run_stays o t (rows w k (k + 1)) (joined (rows w (k + 1) n) B) f on)
      ∙ ap (λ (x : List ℕ). record { lines = l ++ x; counts = with_counted c said.items; fault = said.fault }) (sym made.0)
      ∙ ap (λ (x : Counts). record { lines = l ++ p.made.page.lines; counts = x; fault = said.fault }) (sym (counted_both c p.made.counts said.items made.1))
      ∙ ap (λ (x : Option Fault). record { lines = l ++ p.made.page.lines; counts = both_counted c p.made.counts; fault = x }) (run_ends o t (rows w k (k + 1)) f on)

  -- Pieces of which the last one has a fault.
  pub pieces_end : (ps : List (Piece Written)) (last : Piece Written) (l : List ℕ) (c : Counts) (k : ℕ) (t : State) (f : Fault) (B : Reading Placed Fault) → ArePiecesFrom writing w s k (ps ++ last ∷ []) → All is_fine ps → last.fault ≡ Some f
      → k + length ps < n → after w 0 k s ≡ Ok t → left_of l c k t B ≡ record { lines = l ++ lines_of (ps ++ last ∷ []); counts = counts_with c (ps ++ last ∷ []); fault = Some f }
  pieces_end [] last l c k t f B are fine faulty lt came =
      piece_ends l c k t last f B are.0 faulty (omega (arith, lt)) came
      ∙ ap (λ (x : List ℕ). record { lines = l ++ x; counts = both_counted c last.made.counts; fault = Some f }) (sym (append-nil last.made.page.lines))
  pieces_end (p ∷ ps) last l c k t f B are fine faulty lt came =
      let all = ps ++ last ∷ [] in
      let goes = piece_goes l c k t p are.0 (All-head is_fine p ps fine) (omega (arith, lt)) came in
      goes.left B
      ∙ pieces_end ps last (l ++ p.made.page.lines) (both_counted c p.made.counts) (k + 1) goes.next f B are.1 (All-tail is_fine p ps fine) faulty (omega (arith, lt)) goes.came
      ∙ ap (λ (x : List ℕ). record { lines = x; counts = counts_with c (p ∷ all); fault = Some f }) (append_assoc l p.made.page.lines (lines_of all))
