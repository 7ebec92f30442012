-- The status that the program answers, by what its devices did and what its goal is.
use Rattle.std.proofs.Common.{◌≡◌, ℕ, ◌<◌, ◌≤◌, ◌⊎◌, List, Option, Some, Result, Ok, Err, refl, sym, ◌∙◌, ap, subst, arith, inl, inr}
use Rattle.std.proofs.lemmas.Bool.{cases_lt, cond_below, cond_above}
use Rattle.jl_base.specs.Sources.{Told}
use Rattle.jl_base.specs.SourceLists.{LeftEach, SteadyEach, total}
use Rattle.jl_base.specs.Sinks.{Held}
use Rattle.jl_base.proofs.SourceListLemmas.{SteadyEach-none, reads_whole, total-reads_le}
use Rattle.jl_text.specs.declared.notice.Notice.{Notice}
use Rattle.jl_text.specs.declared.notice.Notice.TheVariants as notice
use Rattle.jl_words.specs.declared.command.Job.{Job}
use Rattle.jl_top.specs.Goals.{Ending, goal}
use Rattle.jl_base.specs.Limits.{most_bytes}
use Rattle.jl_top.specs.Serve.{Reaches, NoneRose, ending_status, status_on}
use Rattle.jl_top.specs.Running.{Runs, status_of}

-- the status of a run
abbrev pub status_by : {T : Type 0} → Result T Notice → ℕ
status_by (Ok x) = 0
status_by (Err said) = status_of said

module _ {S : Type 0} (told : S → Told) (asked : Option Job) (before after : List S) (job : Job) (files : List (List ℕ)) (asks : asked ≡ Some job) (left : LeftEach told before files) where
  -- the status of a goal that was reached
  reached : {K : Type 0} (held : K → Option Held) (out out' : K) (ending : Ending) → Reaches told held asked before after out out' ending → ending_status ending ≡ ending_status (goal job files).ending
  reached held out out' ending r =
      let same : r.job ≡ job = let e = r.asks in (cc) in
      let whole : r.files ≡ files = reads_whole told before after r.files files left r.reads r.ends in
      ap ending_status (sym r.ending_is ∙ ap (λ (j : Job). (goal j r.files).ending) same ∙ ap (λ (fs : List (List ℕ)). (goal job fs).ending) whole)

  module _ {K T : Type 0} (held : K → Option Held) (faults : K → ℕ) (out out' : K) where
    pub exact : (result : Result T Notice) → Runs told asked before after held faults out out' result → status_by result < 2 → status_by result ≡ ending_status (goal job files).ending
    exact (Ok x) run below = reached held out out' _ run.cause.0
    exact (Err (notice.Malformed file fault)) run below = reached held out out' _ run.cause.0
    exact (Err notice.Usage) run below = absurd (omega arith)
    exact (Err (notice.ReadFault file)) run below = absurd (omega arith)
    exact (Err notice.WriteFault) run below = absurd (omega arith)
    exact (Err notice.NoMemory) run below = absurd (omega arith)
    exact (Err notice.TooLong) run below = absurd (omega arith)
    exact (Err (notice.TooWide item)) run below = absurd run.cause

    -- a goal that was reached has files within the limit
    within : (result : Result T Notice) (ending : Ending) → Runs told asked before after held faults out out' result → Reaches told held asked before after out out' ending → (result ≡ Err notice.TooLong → ⊥) → ending_status ending ≡ status_on job files
    within result ending run r other =
        let whole = reads_whole told before after run.read files left run.each r.ends in
        let short : total files ≤ most_bytes = elim (cases_lt most_bytes (total run.read)) [ inl more ↦ absurd (other (run.too_long.1 more)) | inr most ↦ omega (arith, ap total whole) ] in
        cond_above most_bytes (total files) 6 _ _ short (reached held out out' ending r)

    pub complete : (result : Result T Notice) → Runs told asked before after held faults out out' result → NoneRose told faults before after out out' → (status_by result ≡ status_on job files) ⊎ (status_by result ≡ 5)
    complete (Ok x) run none = inl (within (Ok x) _ run run.cause.0 (λ e. cc))
    complete (Err (notice.Malformed file fault)) run none = inl (within (Err (notice.Malformed file fault)) _ run run.cause.0 (λ e. cc))
    complete (Err notice.Usage) run none = absurd (let nothing = run.usage.0 refl in (cc))
    complete (Err (notice.ReadFault file)) run none = absurd (none.0 run.cause.1 run.cause.3)
    complete (Err notice.WriteFault) run none = absurd (none.1 run.cause.1)
    complete (Err notice.NoMemory) run none = inr refl
    complete (Err notice.TooLong) run none =
        let more : most_bytes < total run.read = run.too_long.0 refl in
        inl (cond_below most_bytes (total files) 6 _ (omega (arith, total-reads_le told before after run.read files left run.each)))
    complete (Err (notice.TooWide item)) run none = absurd run.cause

module _ {S K T : Type 0} (told : S → Told) (asked : Option Job) (before after : List S) (held : K → Option Held) (faults : K → ℕ) (out out' : K) where
  -- the counts of the sources stayed, unless a read failed
  pub sources_steady : (result : Result T Notice) → Runs told asked before after held faults out out' result → (status_by result ≡ 3 → ⊥) → SteadyEach told before after
  sources_steady (Ok x) run other = run.cause.1.0
  sources_steady (Err (notice.Malformed file fault)) run other = run.cause.1.0
  sources_steady (Err notice.Usage) run other = subst (λ (sources : List S). SteadyEach told before sources) (sym run.cause.0) (SteadyEach-none told before)
  sources_steady (Err (notice.ReadFault file)) run other = absurd (other refl)
  sources_steady (Err notice.WriteFault) run other = run.cause.2
  sources_steady (Err notice.NoMemory) run other = run.cause.1.0
  sources_steady (Err notice.TooLong) run other = run.cause.1
  sources_steady (Err (notice.TooWide item)) run other = absurd run.cause

  -- the shelf's count stayed, unless a write failed
  pub shelf_steady : (result : Result T Notice) → Runs told asked before after held faults out out' result → (status_by result ≡ 4 → ⊥) → faults out' ≡ faults out
  shelf_steady (Ok x) run other = run.cause.1.1
  shelf_steady (Err (notice.Malformed file fault)) run other = run.cause.1.1
  shelf_steady (Err notice.Usage) run other = ap faults run.cause.1
  shelf_steady (Err (notice.ReadFault file)) run other = ap faults run.cause.0
  shelf_steady (Err notice.WriteFault) run other = absurd (other refl)
  shelf_steady (Err notice.NoMemory) run other = run.cause.1.1
  shelf_steady (Err notice.TooLong) run other = ap faults run.cause.0
  shelf_steady (Err (notice.TooWide item)) run other = absurd run.cause
