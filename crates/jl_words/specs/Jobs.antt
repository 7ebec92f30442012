-- The job that the words of a command line ask for. The program's name isn't among them.
use Rattle.std.specs.Prelude.{ℕ, ◌+◌, ◌≤◌, Bool, false, not, ◌==◌, ◌&&◌, nat_le, List, [], ◌∷◌, length, take, drop, Option, Some, None, is_some, slice_get, codes, if◌then◌else◌}
use Rattle.std.specs.Option.{option_and_then, option_map, unwrap_or}
use Rattle.std.specs.Str.{bytes_eq}
use Rattle.std.specs.List.{starts_with, list_all, list_any, find, count_by, position}
use Rattle.jl_words.specs.declared.command.Command.{Command}
use Rattle.jl_words.specs.declared.command.Job.{Job}
use Rattle.jl_words.specs.declared.table.Setting.{Setting}
use Rattle.jl_words.specs.declared.table.Setting.TheVariants.{Workers, Run, Items, Per, Number, Strict, Out}
use Rattle.jl_words.specs.declared.table.Values.{Values}
use Rattle.jl_words.specs.declared.table.Values.TheVariants.{Range, Text}
use Rattle.jl_words.specs.Numbers.{number_within}
use Rattle.jl_words.specs.Table.{Taken, commands, line_of, beginning, values_of}

-- THE PARTS OF A COMMAND LINE. The first word is the command. After it stand the words of options, then perhaps a word
-- `--`, and then the files.

-- the command that a word names
abbrev pub command_of : List ℕ → Option Command
command_of word = find (λ command. bytes_eq word (line_of command).name) commands

-- a word of an option begins with `--`, and isn't `--` itself
abbrev pub is_option : List ℕ → Bool
is_option word = starts_with ◌==◌ word (codes "--") && not (bytes_eq word (codes "--"))

-- how many words of options stand first
abbrev pub option_count : List (List ℕ) → ℕ
option_count words = unwrap_or (position (λ word. not (is_option word)) words) (length words)

-- whether the first word is `--`
abbrev pub is_ended : List (List ℕ) → Bool
is_ended [] = false
is_ended (word ∷ words) = bytes_eq word (codes "--")

-- how many words stand before the files
abbrev pub before_files : List (List ℕ) → ℕ
before_files words = if is_ended (drop (option_count words) words) then option_count words + 1 else option_count words

-- OPTIONS

-- whether it is a word of this option
abbrev pub gives : Setting → List ℕ → Bool
gives setting word = starts_with ◌==◌ word (beginning setting)

-- the value in a word of this option
abbrev pub value_in : Setting → List ℕ → List ℕ
value_in setting word = drop (length (beginning setting)) word

abbrev pub may_be : Values → List ℕ → Bool
may_be (Range least most default) value = is_some (number_within least most value)
may_be Text value = not (length value == 0)

-- whether it is a word of this option, with a value that the option may have
abbrev pub gives_well : List ℕ → Setting → Bool
gives_well word setting = gives setting word && may_be (values_of setting) (value_in setting word)

-- how often the words give this option
abbrev pub times : Setting → List (List ℕ) → ℕ
times setting words = count_by (gives setting) words

-- Each word is one of an option of the command, with a value that it may have; no option is given twice; and each
-- required one is given.
abbrev pub are_options : Taken → List (List ℕ) → Bool
are_options line words =
    list_all (λ word. list_any (gives_well word) line.options) words
    && list_all (λ setting. nat_le (times setting words) 1) line.options
    && list_all (λ setting. nat_le 1 (times setting words)) line.required

-- the value that the words give this option
abbrev pub value_of : Setting → List (List ℕ) → Option (List ℕ)
value_of setting words = option_map (value_in setting) (find (gives setting) words)

abbrev pub number_by : Values → Option (List ℕ) → ℕ
number_by (Range least most default) None = default
number_by (Range least most default) (Some value) = unwrap_or (number_within least most value) default
number_by Text value = 0

-- the number that the words give this option, or its default
abbrev pub number_of : Setting → List (List ℕ) → ℕ
number_of setting words = number_by (values_of setting) (value_of setting words)

-- FILES

-- As many words as the command has files, and none of them empty.
abbrev pub are_files : Taken → List (List ℕ) → Bool
are_files line words = list_all (λ word. not (length word == 0)) words && nat_le line.least (length words) && nat_le (length words) line.most

-- JOBS

-- the job of a command with these words of options, whose files begin at this place
abbrev pub job_with : Command → List (List ℕ) → ℕ → Job
job_with command options first = record {
  command = command;
  workers = number_of Workers options;
  run = number_of Run options;
  items = number_of Items options;
  per = number_of Per options;
  number = number_of Number options;
  strict = number_of Strict options == 1;
  out = option_map (λ before. before + 1) (position (gives Out) options);
  first = first;
}

abbrev pub asked : Option Command → List (List ℕ) → Option Job
asked None words = None
asked (Some command) words =
    if are_options (line_of command) (take (option_count words) words) && are_files (line_of command) (drop (before_files words) words)
    then Some (job_with command (take (option_count words) words) (before_files words + 1))
    else None

-- The job of the words, where they ask for one.
abbrev pub job_of : List (List ℕ) → Option Job
job_of [] = None
job_of (command ∷ words) = asked (command_of command) words

-- the words that name the job's files, in order
abbrev pub files_of : List (List ℕ) → Option Job → List (List ℕ)
files_of words None = []
files_of words (Some job) = drop job.first words

-- what the job's output is named, where a word names it
abbrev pub output_of : List (List ℕ) → Option Job → Option (List ℕ)
output_of words None = None
output_of words (Some job) = option_map (value_in Out) (option_and_then (slice_get words) job.out)

-- there are as many as the command has files
abbrev pub IsAsMany : Taken → List (List ℕ) → Type 0
IsAsMany line files = (line.least ≤ length files) × (length files ≤ line.most)
