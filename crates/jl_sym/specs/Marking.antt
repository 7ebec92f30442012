-- What was asked for or written, so that it needn't be asked again.
use Rattle.std.specs.Prelude.{◌≡◌, ◌⊎◌, ◌≤◌, ℕ, Bool, true, false, List, slice_index_or}
use Rattle.jl_rows.specs.declared.row.Table.{Table}
use Rattle.jl_sym_laws.specs.RelativeIds.{Id}
use Rattle.jl_rows.specs.Values.{Position}
use Rattle.jl_sym_laws.specs.Summaries.{Kept, Need, Demand}
use Rattle.jl_sym_laws.specs.Compacting.{was_asked}
use Rattle.jl_sym_laws.specs.Composing.{AreWithin}
use Rattle.jl_sym_laws.specs.Cutting.{AreMadeDemands}
use Rattle.jl_sym_laws.specs.Meeting.{is_written}
use Rattle.jl_sym.specs.declared.marks.Marks.{Marks}
use Rattle.jl_sym.specs.declared.relative_id.RelativeId.{RelativeId}
use Rattle.jl_sym.specs.declared.relative_id.RelativeId.TheVariants as relatives
use Rattle.jl_sym.specs.Earlier.{Earlier}

abbrev pub is_marked : Need → Marks → Bool
is_marked (Need.Filled Table.Name (Id.Given n)) m = slice_index_or m.names.items n false
is_marked (Need.Filled Table.Name (Id.After k)) m = slice_index_or m.names_after.items k false
is_marked (Need.Filled Table.Prefix (Id.Given n)) m = slice_index_or m.prefixes.items n false
is_marked (Need.Filled Table.Prefix (Id.After k)) m = slice_index_or m.prefixes_after.items k false
is_marked (Need.Filled Table.Datatype (Id.Given n)) m = slice_index_or m.datatypes.items n false
is_marked (Need.Filled Table.Datatype (Id.After k)) m = false
is_marked (Need.Has (Kept.LastAt Position.Subject)) m = m.subject
is_marked (Need.Has (Kept.LastAt Position.Predicate)) m = m.predicate
is_marked (Need.Has (Kept.LastAt Position.Object)) m = m.object
is_marked (Need.Has (Kept.LastAt Position.Graph)) m = m.graph
is_marked (Need.Has Kept.OpenGraph) m = m.open_graph
is_marked (Need.Fits t id) m = false
is_marked (Need.Lacks x) m = false
is_marked Need.Never m = false

-- what is marked was asked, or is met by what was written, so that it needn't be asked again after these rows
abbrev pub AreMarked : Earlier → List Demand → Marks → Type 0
AreMarked was ds marks =
    (need : Need) (d : Demand) → is_marked need marks ≡ true → d.need ≡ need → was.rows ≤ d.moment → (was_asked d ds ≡ true) ⊎ (is_written need d.moment was.writes ≡ true)

-- a need of the slot that an entry of this id writes; where its id counts on from the last entry, it isn't known which one
abbrev pub IsSlotOf : Table → RelativeId → Need → Type 0
IsSlotOf t (relatives.Given n) need = need ≡ Need.Filled t (Id.Given n)
IsSlotOf t (relatives.After k) need = ⊥

-- demands of so many rows and one more
pub record AreGood (rows : ℕ) (ds : List Demand) : Type 0 where
  pub made : AreMadeDemands 0 ds
  pub within : AreWithin rows ds

-- such demands, and the marks of what they ask and of what was written
pub record AreAsked (was : Earlier) (ds : List Demand) (marks : Marks) : Type 0 where
  pub good : AreGood was.rows ds
  pub marked : AreMarked was ds marks
