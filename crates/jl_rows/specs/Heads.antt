-- What the code's head of a file stands for, and what is known of the options in it.
use Rattle.std.specs.Prelude.{◌≡◌, ℕ, ◌≤◌, List}
use Rattle.jl_base.specs.Spans.{IsInside}
use Rattle.jl_rows.specs.declared.options.Options.{Options}
use Rattle.jl_rows.specs.declared.first_row.Head as code
use Rattle.jl_rows.specs.declared.first_row.Head.TheVariants.{Empty, First, Bad}
use Rattle.jl_base.specs.Results.{Reading}
use Rattle.jl_base.specs.declared.place.Fault as faults
use Rattle.jl_rows.specs.Files.{Placed}
use Rattle.jl_rows.specs.Decoder.{Head, head_of, most_entries}
use Rattle.jl_rows.specs.Seen.{options_seen, HasForm}

abbrev pub head_seen : List ℕ → code.Head → Head
head_seen bytes Empty = Head.Nothing
head_seen bytes (First o place) = Head.First (options_seen bytes o) place
head_seen bytes (Bad fault) = Head.Bad fault

-- What the checks of the first row tell of its options.
pub record ArePassed (bytes : List ℕ) (o : Options) : Type 0 where
  pub inside : IsInside bytes o.stream_name
  pub form : HasForm o
  pub names : o.names ≤ most_entries
  pub prefixes : o.prefixes ≤ most_entries
  pub datatypes : o.datatypes ≤ most_entries

abbrev pub HasHead : List ℕ → code.Head → Type 0
HasHead bytes Empty = Unit {0}
HasHead bytes (First o place) = ArePassed bytes o
HasHead bytes (Bad fault) = Unit {0}

-- What some rows, and those that follow them, begin with: nothing is known yet where the first ones are none.
abbrev pub BeginsWith : List ℕ → Reading Placed faults.Fault → Reading Placed faults.Fault → code.Head → Type 0
BeginsWith bytes R B Empty = R ≡ B
BeginsWith bytes R B (First o place) = head_of R.items R.fault ≡ Head.First (options_seen bytes o) place
BeginsWith bytes R B (Bad fault) = head_of R.items R.fault ≡ Head.Bad fault
