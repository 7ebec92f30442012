-- How many metadata there are from a place of a frame on, by what a reader of fields answers there.
use Rattle.std.proofs.Common.{◌≡◌, ℕ, ◌+◌, ◌<◌, ◌≤◌, Bool, List, length, slice_range, nat_eq, Ok, Err, ap, ◌∙◌}
use Rattle.jl_base.specs.Results.{Reading}
use Rattle.jl_base.specs.declared.kind.Kind.{Kind}
use Rattle.jl_wire.specs.Fields.{Field, field, fields}
use Rattle.jl_wire.specs.Seen.{field_seen}
use Rattle.jl_wire.specs.declared.field.Field as code
use Rattle.jl_wire.proofs.FieldLaws.{fields_at_end, fields_at_fault, fields_at_next}
use Rattle.jl_survey.specs.Surveys.{one_if, metadata_among}

abbrev pub metadata_from : List ℕ → ℕ → ℕ → ℕ
metadata_from bytes at end = metadata_among (fields (slice_range bytes at end)).items

module _ (bytes : List ℕ) (at end : ℕ) where
  pub metadata_next : (f : code.Field) (is : Bool) → at ≤ f.next → f.next ≤ end → field (slice_range bytes at end) ≡ Ok (field_seen bytes at f) → nat_eq f.number 15 ≡ is
      → metadata_from bytes at end ≡ one_if is + metadata_from bytes f.next end
  metadata_next f is after before said e =
      ap (λ (R : Reading Field Kind). metadata_among R.items) (fields_at_next bytes at end f after before said)
      ∙ ap (λ (t : Bool). one_if t + metadata_from bytes f.next end) e

  pub metadata_end : at ≡ end → metadata_from bytes at end ≡ 0
  metadata_end e = ap (λ (R : Reading Field Kind). metadata_among R.items) (fields_at_end bytes at end e)

  pub metadata_broken : (k : Kind) → end ≤ length bytes → (at < end) × (field (slice_range bytes at end) ≡ Err k) → metadata_from bytes at end ≡ 0
  metadata_broken k inside said = ap (λ (R : Reading Field Kind). metadata_among R.items) (fields_at_fault bytes at end k inside said)
