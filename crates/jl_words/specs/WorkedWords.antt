-- Words worked by hand.
use Rattle.std.specs.Prelude.{◌≡◌, ℕ, Bool, true, false, List, [], ◌∷◌, Option, Some, None, is_none, codes}
use Rattle.std.specs.List.{list_all, list_any}
use Rattle.jl_words.specs.declared.command.Command.{Command}
use Rattle.jl_words.specs.declared.command.Command.TheVariants.{Nquads, Validate, Inspect}
use Rattle.jl_words.specs.declared.command.Job.{Job}
use Rattle.jl_words.specs.declared.table.Setting.TheVariants.{Workers, Run, Per, Number, Out}
use Rattle.jl_words.specs.Table.{Taken, taken}
use Rattle.jl_words.specs.Jobs.{are_options, number_of, job_of, output_of}

-- what no command takes
abbrev pub none : List (List (List ℕ))
none =
    []
    ∷ (codes "" ∷ codes "f" ∷ [])
    ∷ (codes "wave" ∷ codes "f" ∷ [])
    ∷ (codes "split" ∷ codes "--items=2" ∷ codes "f" ∷ [])
    ∷ (codes "nquads" ∷ [])
    ∷ (codes "nquads" ∷ codes "" ∷ [])
    ∷ (codes "nquads" ∷ codes "a" ∷ codes "b" ∷ [])
    ∷ (codes "nquads" ∷ codes "f" ∷ codes "--strict=1" ∷ [])
    ∷ (codes "nquads" ∷ codes "--strict=1" ∷ [])
    ∷ (codes "nquads" ∷ codes "--strict=2" ∷ codes "f" ∷ [])
    ∷ (codes "nquads" ∷ codes "--strict=01" ∷ codes "f" ∷ [])
    ∷ (codes "nquads" ∷ codes "--strict=+1" ∷ codes "f" ∷ [])
    ∷ (codes "nquads" ∷ codes "--strict=" ∷ codes "f" ∷ [])
    ∷ (codes "nquads" ∷ codes "--strict" ∷ codes "f" ∷ [])
    ∷ (codes "nquads" ∷ codes "--strict=1" ∷ codes "--strict=1" ∷ codes "f" ∷ [])
    ∷ (codes "nquads" ∷ codes "--strict=1" ∷ codes "--strict=0" ∷ codes "f" ∷ [])
    ∷ (codes "nquads" ∷ codes "--workers=0" ∷ codes "f" ∷ [])
    ∷ (codes "nquads" ∷ codes "--workers=65" ∷ codes "f" ∷ [])
    ∷ (codes "nquads" ∷ codes "--run=65537" ∷ codes "f" ∷ [])
    ∷ (codes "nquads" ∷ codes "--out=" ∷ codes "f" ∷ [])
    ∷ (codes "validate" ∷ codes "--out=x" ∷ codes "f" ∷ [])
    ∷ (codes "nquads" ∷ codes "--run=07" ∷ codes "f" ∷ [])
    ∷ (codes "nquads" ∷ codes "--run=1" ∷ codes "--run=1" ∷ codes "f" ∷ [])
    ∷ (codes "nquads" ∷ codes "--" ∷ [])
    ∷ (codes "nquads" ∷ codes "--" ∷ codes "" ∷ [])
    ∷ (codes "nquads" ∷ codes "--" ∷ codes "--" ∷ codes "f" ∷ [])
    ∷ (codes "inspect" ∷ codes "--strict=0" ∷ codes "f" ∷ [])
    ∷ (codes "inspect" ∷ codes "--run=1" ∷ codes "f" ∷ [])
    ∷ []

abbrev pub NoJobs : Type 0
NoJobs = list_all (λ words. is_none (job_of words)) none ≡ true

-- a job of what stands in no word
abbrev pub plain : Command → Bool → ℕ → Job
plain command strict first = record {
  command = command;
  workers = 4;
  run = 16;
  items = 0;
  per = 256;
  number = 0;
  strict = strict;
  out = None;
  first = first;
}

abbrev pub OneFile : Type 0
OneFile = (job_of (codes "nquads" ∷ codes "f" ∷ []) ≡ Some (plain Nquads false 1))
    × (job_of (codes "validate" ∷ codes "f" ∷ []) ≡ Some (plain Validate false 1))
    × (job_of (codes "inspect" ∷ codes "-f" ∷ []) ≡ Some (plain Inspect false 1))

abbrev pub StrictOnes : Type 0
StrictOnes = (job_of (codes "nquads" ∷ codes "--strict=1" ∷ codes "f" ∷ []) ≡ Some (plain Nquads true 2))
    × (job_of (codes "validate" ∷ codes "--strict=0" ∷ codes "f" ∷ []) ≡ Some (plain Validate false 2))

-- a word `--` is dropped, and after it each word is a file
abbrev pub AfterOptions : Type 0
AfterOptions = (job_of (codes "nquads" ∷ codes "--" ∷ codes "--f" ∷ []) ≡ Some (plain Nquads false 2))
    × (job_of (codes "inspect" ∷ codes "--" ∷ codes "--" ∷ []) ≡ Some (plain Inspect false 2))
    × (job_of (codes "validate" ∷ codes "--strict=1" ∷ codes "--" ∷ codes "--strict=1" ∷ []) ≡ Some (plain Validate true 3))

-- workers, runs and an output, in any order
abbrev pub several : ℕ → ℕ → Option ℕ → ℕ → Job
several workers run out first = record (plain Nquads false first) { workers = workers; run = run; out = out }

abbrev pub SeveralOptions : Type 0
SeveralOptions = (job_of (codes "nquads" ∷ codes "--workers=8" ∷ codes "--run=1" ∷ codes "f" ∷ []) ≡ Some (several 8 1 None 3))
    × (job_of (codes "nquads" ∷ codes "--run=65536" ∷ codes "--out=a=b" ∷ codes "--workers=64" ∷ codes "f" ∷ []) ≡ Some (several 64 65536 (Some 2) 4))
    × (output_of (codes "nquads" ∷ codes "--out=a=b" ∷ codes "f" ∷ []) (Some (several 4 16 (Some 1) 2)) ≡ Some (codes "a=b"))

-- a command with more options, of which one has to be given
abbrev pub made : Taken
made = taken (codes "made") (Workers ∷ Run ∷ Number ∷ Out ∷ []) (Out ∷ []) 1 1

abbrev pub MadeTakes : Type 0
MadeTakes = list_all
    (are_options made)
    (
    (codes "--out=x" ∷ [])
    ∷ (codes "--out=a=b" ∷ codes "--workers=64" ∷ [])
    ∷ (codes "--run=65536" ∷ codes "--out=--" ∷ codes "--workers=1" ∷ [])
    ∷ (codes "--number=0" ∷ codes "--out=x" ∷ [])
    ∷ (codes "--number=18446744073709551615" ∷ codes "--out=x" ∷ [])
    ∷ []
    ) ≡ true

abbrev pub MadeRefuses : Type 0
MadeRefuses = list_any
    (are_options made)
    (
    []
    ∷ (codes "--workers=4" ∷ [])
    ∷ (codes "--out=" ∷ [])
    ∷ (codes "--out=x" ∷ codes "--out=x" ∷ [])
    ∷ (codes "--out=x" ∷ codes "--workers=0" ∷ [])
    ∷ (codes "--out=x" ∷ codes "--workers=65" ∷ [])
    ∷ (codes "--out=x" ∷ codes "--run=07" ∷ [])
    ∷ (codes "--out=x" ∷ codes "--run=+7" ∷ [])
    ∷ (codes "--out=x" ∷ codes "--run=7 " ∷ [])
    ∷ (codes "--out=x" ∷ codes "--run=65537" ∷ [])
    ∷ (codes "--out=x" ∷ codes "--number=18446744073709551616" ∷ [])
    ∷ (codes "--out=x" ∷ codes "--number=00" ∷ [])
    ∷ (codes "--out=x" ∷ codes "--strict=1" ∷ [])
    ∷ (codes "--out=x" ∷ codes "--per=1" ∷ [])
    ∷ []
    ) ≡ false

-- what the words give, and what holds where they give nothing
abbrev pub Numbers : Type 0
Numbers = (number_of Workers (codes "--run=8" ∷ codes "--workers=12" ∷ []) ≡ 12) × (number_of Workers (codes "--run=8" ∷ []) ≡ 4) × (number_of Run [] ≡ 16) × (number_of Per [] ≡ 256)
