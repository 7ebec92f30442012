-- What may be left out of a summary: writes that nothing can see, and demands that an earlier one makes already.
use Rattle.std.specs.Prelude.{◌≡◌, ℕ, ◌<◌, ◌==◌, Bool, true, false, ◌&&◌, ◌||◌, not, List, [], ◌∷◌, ◌++◌, length, Option, Some, None, nat_lt, nat_le, if◌then◌else◌}
use Rattle.std.specs.Option.{option_or}
use Rattle.jl_rows.specs.declared.row.Table.{Table}
use Rattle.jl_rows.specs.History.{is_table}
use Rattle.jl_rows.specs.Values.{Position}
use Rattle.jl_state.specs.States.{State, table_of, entry_of, slots_in}
use Rattle.jl_sym_laws.specs.RelativeIds.{Id, real}
use Rattle.jl_sym_laws.specs.Summaries.{Written, Kept, Need, Demand, Left, Summary}
use Rattle.jl_sym_laws.specs.Acting.{slots_at, act}

-- the text of the last write that is of some sort
unfoldable pub last_write : (Written → Bool) → List Written → Option (List ℕ)
last_write is_of [] = None
last_write is_of (w ∷ ws) = option_or (last_write is_of ws) (if is_of w then Some w.text else None)

-- whether a write goes to the slot of this id before the moment; the ids count on from these last entries
abbrev pub goes_to : (Table → ℕ) → ℕ → Table → ℕ → Written → Bool
goes_to last moment t id w = is_table w.table t && ((real w.id (last w.table) == id) && nat_lt w.moment moment)

-- A slot at a moment: the last write to it before that moment, or else what the state has there.
abbrev pub SlotIsLastWrite : Type 0
SlotIsLastWrite =
    (s : State) (ws : List Written) (moment : ℕ) (t : Table) (id : ℕ) → id < length (table_of s t)
    → slots_at s ws moment t id ≡ option_or (last_write (goes_to (entry_of s) moment t id) ws) (slots_in s t id)

abbrev pub same_id : Id → Id → Bool
same_id (Id.Given m) (Id.Given n) = m == n
same_id (Id.After j) (Id.After k) = j == k
same_id _ _ = false

-- Two writes to one address. Different addresses may still be one slot.
abbrev pub same_address : Written → Written → Bool
same_address w v = is_table w.table v.table && same_id w.id v.id

-- a later write to the address comes before the moment
unfoldable pub is_overwritten : Written → ℕ → List Written → Bool
is_overwritten w moment [] = false
is_overwritten w moment (v ∷ vs) = (same_address w v && nat_lt v.moment moment) || is_overwritten w moment vs

-- what is read at the moment doesn't tell whether the write, with these after it, was made
abbrev pub is_hidden : Written → List Written → ℕ → Bool
is_hidden w vs moment = not (nat_lt w.moment moment) || is_overwritten w moment vs

unfoldable pub is_unseen : Written → List Written → List ℕ → Bool
is_unseen w vs [] = true
is_unseen w vs (k ∷ ks) = is_hidden w vs k && is_unseen w vs ks

-- an earlier write to the address: so the slot is filled without this one
unfoldable pub was_filled : Written → List Written → Bool
was_filled w [] = false
was_filled w (u ∷ us) = (same_address u w && nat_le u.moment w.moment) || was_filled w us

-- the moments at which texts are read: the end, and those of at most five terms
abbrev pub moments_of : Left → List ℕ
moments_of Left.Incoming = []
moments_of Left.Cleared = []
moments_of (Left.Set h) = h.moment ∷ []

abbrev pub moments : Summary → List ℕ
moments m = m.rows ∷ (moments_of m.subject ++ (moments_of m.predicate ++ (moments_of m.object ++ (moments_of m.graph ++ moments_of m.open_graph))))

-- A write may be dropped where the slot was filled before, and where no text that is read is its own.
abbrev pub DropsWrite : Type 0
DropsWrite =
    (m : Summary) (us : List Written) (w : Written) (vs : List Written) (s : State) → was_filled w us ≡ true → is_unseen w vs (moments m) ≡ true
    → act (record m { writes = us ++ (w ∷ vs) }) s ≡ act (record m { writes = us ++ vs }) s

abbrev pub same_position : Position → Position → Bool
same_position Position.Subject Position.Subject = true
same_position Position.Predicate Position.Predicate = true
same_position Position.Object Position.Object = true
same_position Position.Graph Position.Graph = true
same_position _ _ = false

abbrev pub same_kept : Kept → Kept → Bool
same_kept (Kept.LastAt x) (Kept.LastAt y) = same_position x y
same_kept Kept.OpenGraph Kept.OpenGraph = true
same_kept _ _ = false

abbrev pub same_need : Need → Need → Bool
same_need (Need.Fits t i) (Need.Fits u j) = is_table t u && same_id i j
same_need (Need.Filled t i) (Need.Filled u j) = is_table t u && same_id i j
same_need (Need.Has x) (Need.Has y) = same_kept x y
same_need (Need.Lacks x) (Need.Lacks y) = same_kept x y
same_need Need.Never Need.Never = true
same_need _ _ = false

-- an earlier demand of the same need, at the same moment or before
unfoldable pub was_asked : Demand → List Demand → Bool
was_asked d [] = false
was_asked d (e ∷ es) = (same_need e.need d.need && nat_le e.moment d.moment) || was_asked d es

-- A demand may be dropped where it was asked before: what is filled stays filled, and all else is asked of the
-- incoming state.
abbrev pub DropsDemand : Type 0
DropsDemand =
    (m : Summary) (ds : List Demand) (d : Demand) (es : List Demand) (s : State) → was_asked d ds ≡ true
    → act (record m { demands = ds ++ (d ∷ es) }) s ≡ act (record m { demands = ds ++ es }) s

-- the writes that stay, after those that were kept before them, and the demands likewise
unfoldable pub kept_writes : List ℕ → List Written → List Written → List Written
kept_writes ks us [] = []
kept_writes ks us (w ∷ ws) = if was_filled w us && is_unseen w ws ks then kept_writes ks us ws else w ∷ kept_writes ks (us ++ (w ∷ [])) ws

unfoldable pub kept_demands : List Demand → List Demand → List Demand
kept_demands ds [] = []
kept_demands ds (e ∷ es) = if was_asked e ds then kept_demands ds es else e ∷ kept_demands (ds ++ (e ∷ [])) es

abbrev pub compacted : Summary → Summary
compacted m = record m { writes = kept_writes (moments m) [] m.writes; demands = kept_demands [] m.demands }

abbrev pub CompactingKeeps : Type 0
CompactingKeeps = (m : Summary) (s : State) → act (compacted m) s ≡ act m s
