-- The rows of runs, one after another, and of a file.
use Rattle.std.proofs.Common.{◌≡◌, ℕ, ◌+◌, ◌-◌, ◌≤◌, List, [], ◌∷◌, length, map, slice_range, Option, ap, sym, ◌∙◌, arith}
use Rattle.std.proofs.lemmas.List.{length-map, take_all}
use Rattle.jl_base.specs.Results.{Reading, joined}
use Rattle.jl_base.specs.Spans.{text_of}
use Rattle.jl_base.specs.declared.kind.Kind.{Kind}
use Rattle.jl_base.specs.declared.place.Fault.{Fault}
use Rattle.jl_base.specs.declared.place.Run.{Run}
use Rattle.jl_base.specs.declared.place.Span.{Span}
use Rattle.jl_rows.specs.Files.{Placed, ends_at, frame_rows, frames, rows_from, rows_then}
use Rattle.jl_frames.specs.Index.{Index, behind}
use Rattle.jl_frames.specs.Runs.{Cover, frames_before}
use Rattle.jl_frames.proofs.RunLemmas.{run_in_cover}
use Rattle.jl_tape.specs.Runs.{FramesAreFile, PlannedRuns, RunThen, RunsCover, no_rows, run_begin, run_end, run_rows}
use Rattle.jl_frames.specs.Stretches.{between}
use Rattle.jl_frames.proofs.Stretches.{between_none, whole_between}
use Rattle.jl_tape.proofs.Stretches.{between_joined}

pub run_then : RunThen
run_then bytes index run end B within inside =
    between_joined bytes index (run_begin index run) (run_end index run) end B (omega arith) within inside

cover_above : (index : Index) (k : ℕ) (runs : List Run) (end : ℕ) → Cover index k runs end → k ≤ end
cover_above index k [] end same = omega (arith, same)
cover_above index k (run ∷ runs) end all = omega (arith, cover_above index (k + run.frames) runs end all.2)

pub runs_cover : RunsCover
runs_cover bytes index k [] end B same inside = between_none bytes index k end B (omega (arith, same))
runs_cover bytes index k (run ∷ runs) end B all inside =
    let above = cover_above index (k + run.frames) runs end all.2 in
    let number : run.first_frame ≡ index.first + k = ap (λ (r : Run). r.first_frame) all.0 in
    let begin : run_begin index run ≡ k = omega (arith, number) in
    let le : k ≤ k + run.frames = omega arith in
    let this : between bytes index k (k + run.frames) no_rows ≡ run_rows bytes index run = ap (λ (i : ℕ). between bytes index i (i + run.frames) no_rows) (sym begin) in
    between_joined bytes index k (k + run.frames) end B le above inside
    ∙ ap (λ (R : Reading Placed Fault). joined R (between bytes index (k + run.frames) end B)) this
    ∙ ap (joined (run_rows bytes index run)) (runs_cover bytes index (k + run.frames) runs end B all.2 inside)

pub planned_runs : PlannedRuns
planned_runs index runs i run cover e =
    let is = run_in_cover index 0 runs (length index.bodies) i run cover e in
    let k = 0 + frames_before runs i in
    let number : run.first_frame ≡ index.first + k = ap (λ (r : Run). r.first_frame) is.begins in
    let begin : k ≡ run_begin index run = omega (arith, number) in
    let within = is.within in
    record {
      within = record { begin = omega (arith, number); end = omega (arith, begin, within) };
      lo = ap (λ (r : Run). r.lo) is.begins ∙ ap (behind index) begin;
      hi = ap (λ (r : Run). r.hi) is.begins ∙ ap (λ (n : ℕ). behind index (n + run.frames)) begin;
    }

pub frames_are_file : FramesAreFile
frames_are_file file index is = whole_between file index is
