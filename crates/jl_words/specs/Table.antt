-- The table of the commands and their options.
use Rattle.std.specs.Prelude.{ℕ, ◌-◌, ◌^◌, List, [], ◌∷◌, codes}
use Rattle.jl_words.specs.declared.command.Command.{Command}
use Rattle.jl_words.specs.declared.command.Command.TheVariants.{Nquads, Validate, Inspect}
use Rattle.jl_words.specs.declared.table.Line.{Line}
use Rattle.jl_words.specs.declared.table.Setting.{Setting}
use Rattle.jl_words.specs.declared.table.Setting.TheVariants.{Workers, Run, Items, Per, Number, Strict, Out}
use Rattle.jl_words.specs.declared.table.Values.{Values}
use Rattle.jl_words.specs.declared.table.Values.TheVariants.{Range, Text}

-- What a command takes: its options, those that have to be given, and from how many to how many files.
pub record Taken : Type 0 where
  pub name : List ℕ
  pub options : List Setting
  pub required : List Setting
  pub least : ℕ
  pub most : ℕ

abbrev pub taken : List ℕ → List Setting → List Setting → ℕ → ℕ → Taken
taken name options required least most = record { name = name; options = options; required = required; least = least; most = most }

-- the commands
abbrev pub commands : List Command
commands = Nquads ∷ Validate ∷ Inspect ∷ []

abbrev pub line_of : Command → Taken
line_of Nquads = taken (codes "nquads") (Workers ∷ Run ∷ Strict ∷ Out ∷ []) [] 1 1
line_of Validate = taken (codes "validate") (Workers ∷ Run ∷ Strict ∷ []) [] 1 1
line_of Inspect = taken (codes "inspect") [] [] 1 1

-- What the word of an option begins with, up to its first `=`. The value is the rest of the word.
abbrev pub beginning : Setting → List ℕ
beginning Workers = codes "--workers="
beginning Run = codes "--run="
beginning Items = codes "--items="
beginning Per = codes "--per="
beginning Number = codes "--number="
beginning Strict = codes "--strict="
beginning Out = codes "--out="

-- Numbers from the least to the most, and the one that holds where no word gives any; or texts that aren't empty.
abbrev pub values_of : Setting → Values
values_of Workers = Range 1 64 4
values_of Run = Range 1 65536 16
values_of Items = Range 0 1000000 0
values_of Per = Range 1 65536 256
values_of Number = Range 0 (2 ^ 64 - 1) 0
values_of Strict = Range 0 1 0
values_of Out = Text

-- a line of the code's table
abbrev pub seen : Line → Taken
seen l = taken l.name.now l.options.now l.required.now l.least l.most
