-- Summaries, one after another.
use Rattle.std.specs.Prelude.{◌≡◌, ℕ, ◌+◌, ◌*◌, ◌≤◌, Bool, false, ◌||◌, List, [], ◌∷◌, ◌++◌, map, length, Ok}
use Rattle.jl_base.specs.Results.{◌>>=◌}
use Rattle.jl_rows.specs.Written.{StreamOptions}
use Rattle.jl_state.specs.States.{State}
use Rattle.jl_sym_laws.specs.Summaries as sums
use Rattle.jl_sym_laws.specs.Acting.{act}
use Rattle.jl_sym_laws.specs.Cutting.{IsMade}
use Rattle.jl_sym_laws.specs.Sizes.{all_slots}
use Rattle.jl_apply.specs.Applying.{leaves_triple_term}
use Rattle.jl_sym.specs.declared.summary.Summary.{Summary}
use Rattle.jl_sym.specs.Lawful.{IsLawful}
use Rattle.jl_sym.specs.Seen.{summary_seen}
use Rattle.jl_compose.specs.Turns.{Change, ActsInTurn, HasTables, KeepsSettled, seen_act}

-- what they do to a state, up to the first fault
unfoldable pub act_all : List sums.Summary → Change
act_all [] s = Ok s
act_all (m ∷ ms) s = act m s >>= λ t. act_all ms t

-- the same of the code's summaries
abbrev pub seen_all : List ℕ → List Summary → Change
seen_all bytes ms = act_all (map (summary_seen bytes) ms)

abbrev pub AreLawful : StreamOptions → List ℕ → List Summary → Type 0
AreLawful o bytes [] = Unit {0}
AreLawful o bytes (m ∷ ms) = IsLawful o bytes m × AreLawful o bytes ms

abbrev pub AreMade : List ℕ → List Summary → Type 0
AreMade bytes [] = Unit {0}
AreMade bytes (m ∷ ms) = IsMade (summary_seen bytes m) × AreMade bytes ms

-- how many rows, writes and demands they have
abbrev pub all_rows : List Summary → ℕ
all_rows [] = 0
all_rows (m ∷ ms) = m.rows + all_rows ms

abbrev pub all_writes : List Summary → ℕ
all_writes [] = 0
all_writes (m ∷ ms) = length m.writes.items + all_writes ms

abbrev pub all_demands : List Summary → ℕ
all_demands [] = 0
all_demands (m ∷ ms) = length m.demands.items + all_demands ms

-- A block's bound, whatever rows it speaks of: 1024 writes for each slot of the tables, and 256 demands for
-- each and 8 more.
pub record IsBounded (o : StreamOptions) (ms : List Summary) : Type 0 where
  pub writes : all_writes ms ≤ 1024 * all_slots o
  pub demands : all_demands ms ≤ 256 * all_slots o + 8

-- Two lists of leaves in turn act as both in one,
abbrev pub LeavesInTurn : Type 0
LeavesInTurn = (ms ns : List sums.Summary) (s : State) → act_all (ms ++ ns) s ≡ act_all ms s >>= λ t. act_all ns t

-- and lawful leaves lead from settled states to such states.
abbrev pub LeavesSettle : Type 0
LeavesSettle = (o : StreamOptions) (bytes : List ℕ) (ms : List Summary) → AreLawful o bytes ms → KeepsSettled o (seen_all bytes ms)

-- The last summary acts as the first does and then the leaves do, under whatever options these are lawful,
abbrev pub TurnsAll : List ℕ → Summary → List Summary → Summary → Type 0
TurnsAll bytes a ms c = (o : StreamOptions) → HasTables o → IsLawful o bytes a → AreLawful o bytes ms → ActsInTurn o (seen_act bytes a) (seen_all bytes ms) (seen_act bytes c)

-- and is lawful under these too.
abbrev pub StaysLawfulAll : List ℕ → Summary → List Summary → Summary → Type 0
StaysLawfulAll bytes a ms c = (o : StreamOptions) → HasTables o → IsLawful o bytes a → AreLawful o bytes ms → IsLawful o bytes c

-- whether the last terms of a run have a triple term among them, of any run
abbrev pub leave_triple_term : List ℕ → List Summary → Bool
leave_triple_term bytes [] = false
leave_triple_term bytes (m ∷ ms) = leaves_triple_term bytes m || leave_triple_term bytes ms
