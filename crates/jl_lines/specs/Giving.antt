-- What a sink was given of what a decoding comes to.
use Rattle.std.specs.Prelude.{◌≡◌, ℕ, ◌≤◌, List, [], ◌++◌, Option, Some, Result, Ok, Err}
use Rattle.jl_base.specs.Causes.{Rose}
use Rattle.jl_base.specs.Sinks.{Held, Adds, AddsFront}
use Rattle.jl_base.specs.declared.place.Fault.{Fault}
use Rattle.jl_lines.specs.Going.{Outcome}
use Rattle.jl_lines.specs.declared.giving.Broken.{Broken}
use Rattle.jl_lines.specs.declared.giving.Broken.TheVariants as broken

-- What a sink tells: what it was given, and how often it has failed.
pub record Outlet : Type 0 where
  pub held : Option Held
  pub faults : ℕ

abbrev pub outlet : {K : Type 0} → (K → Option Held) → (K → ℕ) → K → Outlet
outlet held faults sink = record { held = held sink; faults = faults sink }

-- Of what a decoding comes to, a prefix was given and this is left, and the sink didn't fail.
pub record Passes (said : Outcome) (before after : Outlet) (rest : Outcome) : Type 0 where
  pub given : List ℕ
  pub adds : Adds before.held after.held given
  pub steady : after.faults ≡ before.faults
  pub lines : said.lines ≡ given ++ rest.lines
  pub counts : said.counts ≡ rest.counts
  pub fault : said.fault ≡ rest.fault

-- a count of faults rose
abbrev pub HasRisen : Outlet → Outlet → Type 0
HasRisen before after = Rose before.faults after.faults × (before.faults ≤ after.faults)

-- why no more was given, with the lines that weren't
abbrev pub IsBrokenBy : Option Fault → List ℕ → Outlet → Outlet → Broken → Type 0
IsBrokenBy fault left before after (broken.Malformed found) = (fault ≡ Some found) × (left ≡ []) × (after.faults ≡ before.faults)
IsBrokenBy fault left before after broken.WriteFault = HasRisen before after
IsBrokenBy fault left before after broken.NoMemory = after.faults ≡ before.faults

-- All lines before a fault were given; or the sink failed, or memory wasn't found, with a prefix of the lines given.
pub record Breaks (said : Outcome) (before after : Outlet) (why : Broken) : Type 0 where
  pub given : List ℕ
  pub left : List ℕ
  pub adds : Adds before.held after.held given
  pub lines : said.lines ≡ given ++ left
  pub cause : IsBrokenBy said.fault left before after why

-- a prefix was given, and this is left; or a prefix was given, and no more
abbrev pub Delivers : {A : Type 0} → Outcome → Outlet → Outlet → (A → Outcome) → Result A Broken → Type 0
Delivers said before after rest (Ok x) = Passes said before after (rest x)
Delivers said before after rest (Err why) = Breaks said before after why

-- a call that failed
abbrev pub fails : Broken → Result (Unit {0}) Broken
fails why = Err why

-- The lines were given; or the sink failed after a prefix of them.
abbrev pub Gives : List ℕ → Outlet → Outlet → Result (Unit {0}) Broken → Type 0
Gives lines before after (Ok _) = Adds before.held after.held lines × (after.faults ≡ before.faults)
Gives lines before after (Err why) = (why ≡ broken.WriteFault) × HasRisen before after × AddsFront before.held after.held lines (fails why)
