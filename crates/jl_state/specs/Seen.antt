-- What the code's state stands for: its texts in place of where they lie.
use Rattle.std.specs.Prelude.{◌≡◌, ℕ, ◌+◌, ◌<◌, ◌≤◌, List, map, length, slice_set, replicate, Some, None, Result, Ok, Err}
use Rattle.jl_base.specs.declared.kind.Kind.{Kind}
use Rattle.jl_base.specs.declared.kind.Kind.TheVariants.{BadEntry}
use Rattle.jl_rows.specs.declared.row.RawTerm.{RawTerm}
use Rattle.jl_rows.specs.declared.row.RawTerm.TheVariants as raws
use Rattle.jl_rows.specs.Written.{Ids}
use Rattle.jl_rows.specs.Values.{Slots}
use Rattle.jl_state.specs.declared.extent.Extent.{Extent}
use Rattle.jl_state.specs.declared.tables.Tables.{Tables}
use Rattle.jl_state.specs.declared.tables.LastIds.{LastIds}
use Rattle.jl_state.specs.States as states
use Rattle.jl_rows.specs.Decoder.{most_entries}
use Rattle.jl_state.specs.Extents.{slot_seen, IsSound, AreSound}

abbrev pub tables_seen : List ℕ → Tables → states.Tables
tables_seen bytes ts = record {
  names = map (slot_seen bytes) ts.names.items;
  prefixes = map (slot_seen bytes) ts.prefixes.items;
  datatypes = map (slot_seen bytes) ts.datatypes.items;
}

abbrev pub slots_seen : List ℕ → Tables → Slots
slots_seen bytes ts = states.slots_of_tables (tables_seen bytes ts)

abbrev pub ids_seen : LastIds → Ids
ids_seen i = record { prefix = i.prefix; name = i.name }

-- The filled slots of all tables are sound, and no table has more than it may.
pub record AreTables (bytes : List ℕ) (ts : Tables) : Type 0 where
  pub names : AreSound bytes ts.names.items
  pub prefixes : AreSound bytes ts.prefixes.items
  pub datatypes : AreSound bytes ts.datatypes.items
  pub few : length ts.names.items ≤ most_entries + 1

-- the parts of an IRI are sound
abbrev pub HasIri : List ℕ → Extent × Extent → Type 0
HasIri bytes i = IsSound bytes i.0 × IsSound bytes i.1

-- a term that is no triple term
abbrev pub IsLeaf : RawTerm → Type 0
IsLeaf (raws.Triple span) = ⊥
IsLeaf _ = Unit {0}

-- what an entry of this id does to a table: its slot is filled and its id is the last one, or the id is above the table
abbrev pub Enters : List ℕ → ℕ → List ℕ → List Extent → List Extent → ℕ → Result (Unit {0}) Kind → Type 0
Enters bytes id text old new last (Ok _) = (id < length old) × (map (slot_seen bytes) new ≡ slice_set (map (slot_seen bytes) old) id (Some text)) × (last ≡ id) × (length new ≡ length old)
Enters bytes id text old new last (Err kind) = (length old ≤ id) × (kind ≡ BadEntry)

-- a table of so many entries, none of them filled
abbrev pub IsUnfilled : ℕ → List Extent → Type 0
IsUnfilled size slots = (length slots ≡ size + 1) × ((bytes : List ℕ) → (map (slot_seen bytes) slots ≡ replicate (size + 1) None) × AreSound bytes slots)
