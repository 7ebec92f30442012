-- From what a wave's workers answered to the pieces of its runs, and to what they come to.
use Rattle.std.proofs.Common.{◌≡◌, ℕ, suc, ◌+◌, ◌<◌, ◌≤◌, List, [], ◌∷◌, ◌++◌, All, length, slice_index_or, Option, Some, None, MatchOption, Result, Ok, Err, ap, sym, subst, ◌∙◌, append-nil, arith}
use Rattle.std.specs.List.{flat_map}
use Rattle.std.proofs.lemmas.List.Elements.{All-head, All-tail}
use Rattle.jl_base.specs.Results.{◌>>=◌, Reading}
use Rattle.jl_base.specs.declared.place.Fault.{Fault}
use Rattle.jl_drive.specs.Pieces.{AreInOrder, EndsSo, IsPiece}
use Rattle.jl_drive.specs.declared.piece.Piece.{Piece}
use Rattle.jl_rows.specs.Files.{Placed}
use Rattle.jl_rows.specs.Seen.{options_seen}
use Rattle.jl_frames.specs.Index.{behind}
use Rattle.jl_state.specs.Lawful.{state_seen}
use Rattle.jl_state.specs.Running.{run_on}
use Rattle.jl_state.specs.States.{State}
use Rattle.jl_scan.specs.Fields.{Field, IsField, after, before}
use Rattle.jl_scan.proofs.FieldLemmas.{after_runs, starts}
use Rattle.jl_lines.specs.Giving.{Breaks, Gives, Outlet, Passes}
use Rattle.jl_lines.specs.Going.{Outcome, counted, outcome}
use Rattle.jl_lines.specs.Writings.{written}
use Rattle.jl_lines.specs.declared.decoding.Decoding.{Decoding}
use Rattle.jl_lines.specs.declared.giving.Broken.{Broken}
use Rattle.jl_lines.specs.declared.giving.Broken.TheVariants as broken
use Rattle.jl_lines.specs.declared.writing.Writing.{Writing}
use Rattle.jl_lines.proofs.GivingLemmas.{breaks_write}
use Rattle.jl_wave.specs.Waves.{IsFaulty, IsFine, IsMade}
use Rattle.jl_decode.specs.Pieces.{ArePiecesFrom, IsPieceOf, IsWritten, counts_with, lines_of}
use Rattle.jl_decode.specs.declared.piece.Written.{Written}
use Rattle.jl_decode.proofs.WaveLaws.{end_comes, gave_end, gave_whole, wave, whole, whole_comes, whole_few}

module _ (writing : Writing) (w : Field) (is : IsField w) (s : State) where
  on_from : (k : ℕ) (t : State) (r : Result State Fault) → after w 0 k s ≡ Ok t → after w 0 (k + 1) s ≡ r → after w k (k + 1) t ≡ r
  on_from k t r came all =
      sym (ap (λ (x : Result State Fault). x >>= λ u. after w k (k + 1) u) came) ∙ sym (after_runs w is 0 k (k + 1) s (omega arith) (omega arith)) ∙ all

  ends_from : (k : ℕ) (t : State) (fault : Option Fault) → after w 0 k s ≡ Ok t → EndsSo (IsFine w s) (IsFaulty w s) k fault → MatchOption fault ((u : State) × (after w k (k + 1) t ≡ Ok u)) (λ f. after w k (k + 1) t ≡ Err f)
  ends_from k t None came fine = (fine.0, on_from k t (Ok fine.0) came fine.1)
  ends_from k t (Some f) came faulty =
      let same : faulty.0 ≡ t = (let e : ◌≡◌ {A = Result State Fault} (Ok faulty.0) (Ok t) = sym faulty.1 ∙ came in cc) in
      subst (λ (u : State). after w k (k + 1) u ≡ Err f) same faulty.2

  piece_of : (k : ℕ) (p : Piece Written) → IsPiece (IsMade w s (IsWritten writing)) (IsFine w s) (IsFaulty w s) p → p.run ≡ k → IsPieceOf writing w s k p
  piece_of k p is_piece run =
      let made : IsMade w s (IsWritten writing) k p.made = subst (λ (i : ℕ). IsMade w s (IsWritten writing) i p.made) run is_piece.made in
      let ends : EndsSo (IsFine w s) (IsFaulty w s) k p.fault = subst (λ (i : ℕ). EndsSo (IsFine w s) (IsFaulty w s) i p.fault) run is_piece.ends in
      record { stand = made.0; came = made.1; made = made.2; ends = ends_from k made.0 p.fault made.1 ends }

  pub pieces_from : (ps : List (Piece Written)) (k : ℕ) → All (IsPiece (IsMade w s (IsWritten writing)) (IsFine w s) (IsFaulty w s)) ps → ((i : ℕ) (d : Piece Written) → i < length ps → (slice_index_or ps i d).run ≡ k + i) → ArePiecesFrom writing w s k ps
  pieces_from [] k each runs = tt
  pieces_from (p ∷ ps) k each runs =
      let first = runs 0 p (omega arith) in
      let run : p.run ≡ k = omega (arith, first) in (
        piece_of k p (All-head (IsPiece (IsMade w s (IsWritten writing)) (IsFine w s) (IsFaulty w s)) p ps each) run,
        pieces_from ps (k + 1) (All-tail (IsPiece (IsMade w s (IsWritten writing)) (IsFine w s) (IsFaulty w s)) p ps each) (λ i d lt. let next = runs (suc i) d (omega (arith, lt)) in omega (arith, next)),
      )

module _ (w : Field) (is : IsField w) (n : ℕ) (d : Decoding) (options : options_seen w.bytes d.state.options ≡ w.options) (empty : d.page.lines ≡ []) where
  abbrev from : State
  from = state_seen w.bytes d.state

  started : after w 0 0 from ≡ Ok from
  started = starts w 0 from

  module _ (ps : List (Piece Written)) (each : All (IsPiece (IsMade w from (IsWritten d.writing)) (IsFine w from) (IsFaulty w from)) ps) where
    are_from : (fault : Option Fault) → AreInOrder n ps fault → ArePiecesFrom d.writing w from 0 ps
    are_from fault order = pieces_from d.writing w is from ps 0 each (λ i e lt. let run = order.runs i e lt in omega (arith, run))

    -- the wave's lines begin with those of the pieces
    pub lines_first : (fault : Option Fault) (B : Reading Placed Fault) → AreInOrder n ps fault → (more : List ℕ) × ((outcome w.bytes d (wave w is n d options empty B)).lines ≡ lines_of ps ++ more)
    lines_first None B order =
        let are = are_from None order in
        let count = order.ends.0 in
        let fine = order.ends.1 in (
          flat_map (written d.writing) (run_on w.options (whole w is n d options empty ps are started fine count).end B).items,
          ap (λ (x : Outcome). x.lines) (whole_comes w is n d options empty ps are started fine count B),
        )
    lines_first (Some f) B order =
        let ends = order.ends in
        let are : ArePiecesFrom d.writing w from 0 (ends.0 ++ ends.1 ∷ []) = subst (λ (qs : List (Piece Written)). ArePiecesFrom d.writing w from 0 qs) ends.2 (are_from (Some f) order) in
        let comes = end_comes w is n d options empty ends.0 ends.1 f are ends.4 ends.5 ends.3 started B in (
          [],
          ap (λ (x : Outcome). x.lines) comes ∙ ap lines_of (sym ends.2) ∙ sym (append-nil (lines_of ps)),
        )

    module _ (k k' : Outlet) where
      -- the sink failed
      pub wave_fails : (fault : Option Fault) (why : Broken) (B : Reading Placed Fault) → AreInOrder n ps fault → Gives (lines_of ps) k k' (Err why) → Breaks (outcome w.bytes d (wave w is n d options empty B)) k k' why
      wave_fails fault why B order gave =
          let first = lines_first fault B order in
          breaks_write (outcome w.bytes d (wave w is n d options empty B)) (lines_of ps) first.0 k k' why first.1 gave

      -- memory wasn't found afterwards
      pub wave_lacks : (fault : Option Fault) (B : Reading Placed Fault) → AreInOrder n ps fault → Gives (lines_of ps) k k' (Ok tt) → Breaks (outcome w.bytes d (wave w is n d options empty B)) k k' broken.NoMemory
      wave_lacks fault B order gave =
          let first = lines_first fault B order in
          record { given = lines_of ps; left = first.0; adds = gave.0; lines = first.1; cause = gave.1 }

      -- a run has a fault
      pub wave_ends : (f : Fault) (B : Reading Placed Fault) → AreInOrder n ps (Some f) → Gives (lines_of ps) k k' (Ok tt) → Breaks (outcome w.bytes d (wave w is n d options empty B)) k k' (broken.Malformed f)
      wave_ends f B order gave =
          let ends = order.ends in
          let are : ArePiecesFrom d.writing w from 0 (ends.0 ++ ends.1 ∷ []) = subst (λ (qs : List (Piece Written)). ArePiecesFrom d.writing w from 0 qs) ends.2 (are_from (Some f) order) in
          let all : Gives (lines_of (ends.0 ++ ends.1 ∷ [])) k k' (Ok tt) = subst (λ (qs : List (Piece Written)). Gives (lines_of qs) k k' (Ok tt)) ends.2 gave in
          gave_end w is n d options empty ends.0 ends.1 f are ends.4 ends.5 ends.3 started k k' B all

      -- none has one
      module _ (order : AreInOrder n ps None) where
        pub wave_few : (counts_with d.counts ps).statements + (counts_with d.counts ps).namespaces + behind w.index (before w 0) ≤ counted d + behind w.index (before w n)
        wave_few = whole_few w is n d options empty ps (are_from None order) started order.ends.1 order.ends.0

        pub wave_passes : (d' : Decoding) (B : Reading Placed Fault) → after w 0 n from ≡ Ok (state_seen w.bytes d'.state) → options_seen w.bytes d'.state.options ≡ w.options → d'.page.lines ≡ [] → d'.counts ≡ counts_with d.counts ps → d'.writing ≡ d.writing
            → Gives (lines_of ps) k k' (Ok tt) → Passes (outcome w.bytes d (wave w is n d options empty B)) k k' (outcome w.bytes d' B)
        wave_passes d' B came options' empty' counts' writing' gave =
            gave_whole w is n d options empty ps (are_from None order) started order.ends.1 order.ends.0 d' came options' empty' counts' writing' k k' B gave
