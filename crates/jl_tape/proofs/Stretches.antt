-- The frames of an index from one to another: where their bodies lie, and their rows.
use Rattle.std.proofs.Common.{◌≡◌, ℕ, zero, suc, ◌+◌, ◌*◌, ◌-◌, ◌<◌, ◌≤◌, List, [], ◌∷◌, ◌++◌, length, map, take, drop, slice_get, slice_range, Option, Some, None, refl, ap, sym, ◌∙◌, subst, arith}
use Rattle.std.proofs.lemmas.List.{length-map, map-append, take-append-drop}
use Rattle.jl_base.specs.Results.{Reading, joined}
use Rattle.jl_base.specs.Spans.{text_of}
use Rattle.jl_base.specs.declared.place.Fault.{Fault}
use Rattle.jl_base.specs.declared.place.Run.{Run}
use Rattle.jl_base.specs.declared.place.Span.{Span}
use Rattle.jl_wire.proofs.Ranges.{length-range, drop-range, take-range}
use Rattle.jl_rows.specs.Files.{Placed, frame_rows, rows_then}
use Rattle.jl_frames.specs.Index.{Index, AreLaid, IsIndex, behind, end_of, last_end}
use Rattle.jl_frames.proofs.IndexLemmas.{ends_within, laid_frames}
use Rattle.jl_tape.specs.declared.tape.PlacedRow.{PlacedRow}
use Rattle.jl_frames.specs.Stretches.{between}
use Rattle.jl_frames.proofs.Stretches.{between_next, between_split, body_of, laid_order}
use Rattle.jl_tape.specs.Runs.{no_rows, run_begin, run_end}
use Rattle.jl_tape.specs.Tapes.{placed_seen, reading_of}
use Rattle.jl_tape.proofs.TapeLemmas.{joined_assoc}

-- some frames alone, and then what follows
then_joined : (n : ℕ) (xs : List (List ℕ)) (B : Reading Placed Fault) → rows_then n xs B ≡ joined (rows_then n xs no_rows) B
then_joined n [] B = refl
then_joined n (x ∷ xs) B =
    let rest = rows_then (n + 1) xs no_rows in
    ap (joined (frame_rows n x)) (then_joined (n + 1) xs B) ∙ joined_assoc (frame_rows n x).items (frame_rows n x).fault rest.items rest.fault B

pub between_joined : (bytes : List ℕ) (index : Index) (i k end : ℕ) (B : Reading Placed Fault) → i ≤ k → k ≤ end → end ≤ length index.bodies
    → between bytes index i end B ≡ joined (between bytes index i k no_rows) (between bytes index k end B)
between_joined bytes index i k end B first second within =
    between_split bytes index i k end B first second within ∙ then_joined (index.first + i) (map (text_of bytes) (slice_range index.bodies i k)) (between bytes index k end B)

-- a frame's rows on a tape, of those from the frame on
pub run_next : (bytes : List ℕ) (index : Index) (i end number : ℕ) (body : Span) (old new : List PlacedRow) (fault : Option Fault) (R : Reading Placed Fault) → i < end → slice_get index.bodies i ≡ Some body
    → number ≡ index.first + i → R ≡ joined (reading_of bytes old None) (between bytes index i end no_rows)
    → reading_of bytes new fault ≡ joined (reading_of bytes old None) (frame_rows number (text_of bytes body))
    → R ≡ joined (reading_of bytes new fault) (between bytes index (i + 1) end no_rows)
run_next bytes index i end number body old new fault R lt e same left read =
    let here = frame_rows (index.first + i) (text_of bytes body) in
    let rest = between bytes index (i + 1) end no_rows in
    left ∙ ap (joined (reading_of bytes old None)) (between_next bytes index i end body no_rows lt e)
    ∙ joined_assoc (map (placed_seen bytes) old) None here.items here.fault rest
    ∙ ap (λ (r : Reading Placed Fault). joined r rest) (ap (λ (n : ℕ). joined (reading_of bytes old None) (frame_rows n (text_of bytes body))) (sym same) ∙ sym read)

-- and they fit in the bytes up to the frame's end
pub few_next : (index : Index) (last k i end old new : ℕ) (body : Span) → AreLaid index.lo index.bodies last → slice_get index.bodies i ≡ Some body → i < end
    → behind index k + 2 * old ≤ behind index i → body.at + 2 * new ≤ end_of body + 2 * old
    → (behind index k + 2 * new ≤ behind index (i + 1)) × (behind index (i + 1) ≤ behind index end)
few_next index last k i end old new body laid e lt before here =
    let is = body_of index.lo index.bodies last i body laid e in
    let above = is.above in
    let next = is.next in
    let later = laid_order index.lo index.bodies last (i + 1) end laid (omega (arith, lt)) in
    (omega (arith, above, next, before, here), later)

pub few_in_run : (index : Index) (run : Run) (last first i old new : ℕ) (body : Span) → first ≡ index.first → AreLaid index.lo index.bodies last → slice_get index.bodies i ≡ Some body
    → i < run.first_frame - first + run.frames → behind index (run.first_frame - first) + 2 * old ≤ behind index i → body.at + 2 * new ≤ end_of body + 2 * old
    → behind index (run_begin index run) + 2 * new ≤ behind index (run_end index run)
few_in_run index run last first i old new body same laid e lt before here =
    let few = few_next index last (run.first_frame - first) i (run.first_frame - first + run.frames) old new body laid e lt before here in
    let begin : run.first_frame - first ≡ run_begin index run = ap (λ (n : ℕ). run.first_frame - n) same in
    subst (λ (k : ℕ). behind index k + 2 * new ≤ behind index (k + run.frames)) begin (omega (arith, few.0, few.1))
