-- Marks by address and by need: one list of them each, in which each address and each need has a number.
use Rattle.std.specs.Prelude.{◌≡◌, ℕ, ◌+◌, ◌*◌, ◌<◌, ◌≤◌, Bool, true, ◌&&◌, ◌||◌, not, List, [], ◌∷◌, nat_lt}
use Rattle.jl_rows.specs.declared.row.Table.{Table}
use Rattle.jl_rows.specs.Values.{Position}
use Rattle.jl_rows.specs.Written.{StreamOptions}
use Rattle.jl_rows.specs.Decoder.{size_of}
use Rattle.jl_sym_laws.specs.RelativeIds.{Id}
use Rattle.jl_sym_laws.specs.Summaries.{Written, Kept, Need, Demand}
use Rattle.jl_sym_laws.specs.Compacting.{is_unseen}

abbrev pub table_number : Table → ℕ
table_number Table.Name = 0
table_number Table.Prefix = 1
table_number Table.Datatype = 2

abbrev pub address_number : Table → Id → ℕ
address_number t (Id.Given n) = 6 * n + table_number t
address_number t (Id.After k) = 6 * k + 3 + table_number t

-- so many marks have one for each address of the tables
abbrev pub HasRoom : StreamOptions → ℕ → Type 0
HasRoom o room = (t : Table) → 6 * size_of o t + 6 ≤ room

-- each write's address has a mark, and moments don't fall
abbrev pub AreMarkable : ℕ → ℕ → List Written → Type 0
AreMarkable room moment [] = Unit {0}
AreMarkable room moment (w ∷ ws) = (moment ≤ w.moment) × (address_number w.table w.id < room) × AreMarkable room w.moment ws

-- A write at a moment, where the next one to its address comes at a later one: whether it is hidden at each of these
-- moments.
abbrev pub is_hidden_by : ℕ → ℕ → List ℕ → Bool
is_hidden_by moment later [] = true
is_hidden_by moment later (k ∷ ks) = (not (nat_lt moment k) || nat_lt later k) && is_hidden_by moment later ks

-- for each write, whether it is unseen
abbrev pub AreFlags : List ℕ → List Written → List Bool → Type 0
AreFlags ks [] flags = flags ≡ []
AreFlags ks (w ∷ ws) [] = ⊥
AreFlags ks (w ∷ ws) (b ∷ flags) = (b ≡ is_unseen w ws ks) × AreFlags ks ws flags

-- moments that a mark can be
abbrev pub AreUpTo : ℕ → List ℕ → Type 0
AreUpTo most [] = Unit {0}
AreUpTo most (k ∷ ks) = (k ≤ most) × AreUpTo most ks

abbrev pub kept_number : Kept → ℕ
kept_number (Kept.LastAt Position.Subject) = 0
kept_number (Kept.LastAt Position.Predicate) = 1
kept_number (Kept.LastAt Position.Object) = 2
kept_number (Kept.LastAt Position.Graph) = 3
kept_number Kept.OpenGraph = 4

abbrev pub need_number : Need → ℕ
need_number (Need.Has x) = kept_number x
need_number (Need.Lacks x) = 5 + kept_number x
need_number Need.Never = 10
need_number (Need.Fits t id) = 11 + 2 * address_number t id
need_number (Need.Filled t id) = 12 + 2 * address_number t id

-- each demand's need has a mark, and moments don't fall
abbrev pub AreAskable : ℕ → ℕ → List Demand → Type 0
AreAskable room moment [] = Unit {0}
AreAskable room moment (d ∷ ds) = (moment ≤ d.moment) × (need_number d.need < room) × AreAskable room d.moment ds
