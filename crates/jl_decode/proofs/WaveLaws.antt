-- What a decoding comes to over a wave's pieces.
use Rattle.std.proofs.Common.{◌≡◌, ℕ, ◌+◌, ◌<◌, ◌≤◌, List, [], ◌∷◌, ◌++◌, All, length, Some, Result, Ok, ap, sym, subst, ◌∙◌, arith}
use Rattle.jl_base.specs.Results.{Reading, joined}
use Rattle.jl_base.specs.Terms.{Item}
use Rattle.jl_base.specs.declared.place.Fault.{Fault}
use Rattle.jl_drive.specs.declared.piece.Piece.{Piece}
use Rattle.jl_rows.specs.Files.{Placed}
use Rattle.jl_rows.specs.Seen.{options_seen}
use Rattle.jl_rows.specs.Written.{StreamOptions}
use Rattle.jl_frames.specs.Index.{behind}
use Rattle.jl_frames.specs.Stretches.{between}
use Rattle.jl_frames.proofs.Stretches.{between_none}
use Rattle.jl_state.specs.Lawful.{state_seen}
use Rattle.jl_state.specs.Running.{run_on}
use Rattle.jl_state.specs.States.{State}
use Rattle.jl_tape.specs.Runs.{no_rows}
use Rattle.jl_tape.proofs.Stretches.{between_joined}
use Rattle.jl_scan.specs.Fields.{Field, IsField, after, before, rows}
use Rattle.jl_scan.proofs.FieldLemmas.{before_rises, before_within}
use Rattle.jl_lines.specs.Counts.{with_counted}
use Rattle.jl_lines.specs.Giving.{Breaks, Gives, Outlet, Passes}
use Rattle.jl_lines.specs.Going.{Outcome, counted, outcome, outcome_of}
use Rattle.jl_lines.specs.Writings.{written}
use Rattle.jl_lines.specs.declared.decoding.Counts.{Counts}
use Rattle.jl_lines.specs.declared.decoding.Decoding.{Decoding}
use Rattle.jl_lines.specs.declared.giving.Broken.TheVariants as broken
use Rattle.jl_lines.specs.declared.writing.Writing.{Writing}
use Rattle.jl_lines.proofs.GivingLemmas.{passes_on}
use Rattle.jl_decode.specs.Pieces.{ArePiecesFrom, counts_with, lines_of}
use Rattle.jl_decode.specs.declared.piece.Written.{Written}
use Rattle.jl_decode.proofs.PieceGiving.{breaks_lines, passes_lines, sorts_few}
use Rattle.jl_decode.proofs.PieceLaws.{Whole, is_fine, left_of, pieces_end, pieces_whole}
use Rattle.jl_decode.proofs.RowCounts.{between_few, run_few}

module _ (w : Field) (is : IsField w) (n : ℕ) (d : Decoding) (options : options_seen w.bytes d.state.options ≡ w.options) (empty : d.page.lines ≡ []) where
  abbrev pub start : State
  start = state_seen w.bytes d.state

  abbrev pub wave : Reading Placed Fault → Reading Placed Fault
  wave B = between w.bytes w.index (before w 0) (before w n) B

  wave_rows : (B : Reading Placed Fault) → wave B ≡ joined (rows w 0 n) B
  wave_rows B =
      between_joined w.bytes w.index (before w 0) (before w n) (before w n) B (before_rises w is 0 n (omega arith)) (omega arith) (before_within w is n)
      ∙ ap (joined (rows w 0 n)) (between_none w.bytes w.index (before w n) (before w n) B (omega arith))

  -- what it comes to, as what is left of the wave's runs
  begins : (B : Reading Placed Fault) → outcome w.bytes d (wave B) ≡ left_of d.writing w is start n [] d.counts 0 start B
  begins B =
      ap (outcome w.bytes d) (wave_rows B)
      ∙ ap (λ (o : StreamOptions). outcome_of (written d.writing) d.page.lines d.counts (run_on o start (joined (rows w 0 n) B))) options
      ∙ ap (λ (l : List ℕ). outcome_of (written d.writing) l d.counts (run_on w.options start (joined (rows w 0 n) B))) empty

  module _ (ps : List (Piece Written)) (are : ArePiecesFrom d.writing w start 0 ps) (started : after w 0 0 start ≡ Ok start) where
    -- no piece has a fault
    module _ (fine : All is_fine ps) (count : length ps ≡ n) where
      abbrev pub whole : Whole d.writing w is start n [] d.counts 0 start ps
      whole = pieces_whole d.writing w is start n ps [] d.counts 0 start are fine (omega (arith, count)) started

      pub whole_comes : (B : Reading Placed Fault) → outcome w.bytes d (wave B) ≡ outcome_of (written d.writing) (lines_of ps) (counts_with d.counts ps) (run_on w.options whole.end B)
      whole_comes B = begins B ∙ whole.left B

      -- how many items were counted
      pub whole_few : (counts_with d.counts ps).statements + (counts_with d.counts ps).namespaces + behind w.index (before w 0) ≤ counted d + behind w.index (before w n)
      whole_few =
          let said = run_on w.options start (joined (rows w 0 n) no_rows) in
          let last = run_on w.options whole.end no_rows in
          let all : with_counted d.counts said.items ≡ with_counted (counts_with d.counts ps) last.items = ap (λ (x : Outcome). x.counts) (whole.left no_rows) in
          let few = run_few w.options start (joined (rows w 0 n) no_rows) in
          let same : joined (rows w 0 n) no_rows ≡ rows w 0 n = sym (wave_rows no_rows) in
          let size = ap (λ (R : Reading Placed Fault). length R.items) same in
          let sorts = sorts_few said.items in
          let bytes = between_few w.bytes w.index is.laid.0 (before w 0) (before w n) is.laid.1 (before_rises w is 0 n (omega arith)) in
          let s = ap (λ (x : Counts). x.statements) all in
          let m = ap (λ (x : Counts). x.namespaces) all in
          omega (arith, few, size, sorts, bytes, s, m)

      module _ (d' : Decoding) (came : after w 0 n start ≡ Ok (state_seen w.bytes d'.state)) (options' : options_seen w.bytes d'.state.options ≡ w.options) (empty' : d'.page.lines ≡ []) (counts' : d'.counts ≡ counts_with d.counts ps) (writing' : d'.writing ≡ d.writing) where
        ends : (B : Reading Placed Fault) → outcome_of (written d.writing) [] (counts_with d.counts ps) (run_on w.options whole.end B) ≡ outcome w.bytes d' B
        ends B =
            let same : whole.end ≡ state_seen w.bytes d'.state = (let e : ◌≡◌ {A = Result State Fault} (Ok whole.end) (Ok (state_seen w.bytes d'.state)) = sym whole.came ∙ came in cc) in
            let said : State → StreamOptions → Reading Item Fault = λ t o. run_on o t B in
            ap (λ (t : State). outcome_of (written d.writing) [] (counts_with d.counts ps) (said t w.options)) same
            ∙ ap (λ (o : StreamOptions). outcome_of (written d.writing) [] (counts_with d.counts ps) (said (state_seen w.bytes d'.state) o)) (sym options')
            ∙ ap (λ (c : Counts). outcome_of (written d.writing) [] c (said (state_seen w.bytes d'.state) (options_seen w.bytes d'.state.options))) (sym counts')
            ∙ ap (λ (l : List ℕ). outcome_of (written d.writing) l d'.counts (said (state_seen w.bytes d'.state) (options_seen w.bytes d'.state.options))) (sym empty')
            ∙ ap (λ (x : Writing). outcome_of (written x) d'.page.lines d'.counts (said (state_seen w.bytes d'.state) (options_seen w.bytes d'.state.options))) (sym writing')

        pub gave_whole : (k k' : Outlet) (B : Reading Placed Fault) → Gives (lines_of ps) k k' (Ok tt) → Passes (outcome w.bytes d (wave B)) k k' (outcome w.bytes d' B)
        gave_whole k k' B gave =
            let said = run_on w.options whole.end B in
            let rest = outcome_of (written d.writing) [] (counts_with d.counts ps) said in
            let passes = passes_lines (written d.writing) (lines_of ps) (counts_with d.counts ps) said k k' gave in
            subst (λ (x : Outcome). Passes x k k' (outcome w.bytes d' B)) (sym (whole_comes B))
            (passes_on (outcome_of (written d.writing) (lines_of ps) (counts_with d.counts ps) said) rest k k' passes (outcome w.bytes d' B) (ends B))

  -- the last piece has a fault
  module _ (ps : List (Piece Written)) (last : Piece Written) (f : Fault) (are : ArePiecesFrom d.writing w start 0 (ps ++ last ∷ [])) (fine : All is_fine ps) (faulty : last.fault ≡ Some f) (below : length ps < n) (started : after w 0 0 start ≡ Ok start) where
    pub end_comes : (B : Reading Placed Fault) → outcome w.bytes d (wave B) ≡ record { lines = lines_of (ps ++ last ∷ []); counts = counts_with d.counts (ps ++ last ∷ []); fault = Some f }
    end_comes B = begins B ∙ pieces_end d.writing w is start n ps last [] d.counts 0 start f B are fine faulty (omega (arith, below)) started

    pub gave_end : (k k' : Outlet) (B : Reading Placed Fault) → Gives (lines_of (ps ++ last ∷ [])) k k' (Ok tt) → Breaks (outcome w.bytes d (wave B)) k k' (broken.Malformed f)
    gave_end k k' B gave = breaks_lines (outcome w.bytes d (wave B)) (lines_of (ps ++ last ∷ [])) k k' f (ap (λ (x : Outcome). x.lines) (end_comes B)) (ap (λ (x : Outcome). x.fault) (end_comes B)) gave
