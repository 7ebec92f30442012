-- One field after another of a message that is read in place.
use Rattle.std.proofs.Common.{◌≡◌, ℕ, ◌≤◌, List, length, slice_range, Some, Result, Ok, Err, ap, ◌∙◌, arith}
use Rattle.jl_base.specs.Results.{◌>>=◌, Reading}
use Rattle.jl_base.specs.declared.kind.Kind.{Kind}
use Rattle.jl_wire.specs.Fields.{Field}
use Rattle.jl_wire.specs.declared.field.Field as code
use Rattle.jl_wire.specs.Seen.{content_seen, IsNextField, IsWithin}
use Rattle.jl_wire.proofs.FieldLaws.{fields_at_end, fields_at_fault, fields_at_next}
use Rattle.jl_rows.specs.declared.message.Message.{Message}
use Rattle.jl_rows.specs.Messages.{known_as}
use Rattle.jl_rows.specs.Reading.{Parts, taken_if_known, walk, read_on}
use Rattle.jl_rows.proofs.Depth.{Says}

-- a walk over these fields
abbrev pub walked : Says → Message → Parts → Reading Field Kind → Result Parts Kind
walked says m ps fs = walk says m fs.items fs.fault ps

module _ (says : Says) (m : Message) (bytes : List ℕ) (at end : ℕ) (ps : Parts) where
  -- at the end nothing more is said
  pub read_end : at ≡ end → read_on says m ps (slice_range bytes at end) ≡ Ok ps
  unfolding read_on walk
  read_end e = ap (walked says m ps) (fields_at_end bytes at end e)

  -- a field that can't be read
  pub read_fault : (k : Kind) → end ≤ length bytes → IsNextField bytes at end (Err k) → read_on says m ps (slice_range bytes at end) ≡ Err k
  unfolding read_on walk
  read_fault k inside h = ap (walked says m ps) (fields_at_fault bytes at end k inside h)

  -- the next field, whatever it says
  pub read_next : (f : code.Field) → IsNextField bytes at end (Ok (Some f)) → at ≤ f.next → f.next ≤ end
      → read_on says m ps (slice_range bytes at end) ≡ (taken_if_known says (known_as m f.number) (content_seen bytes f.value) ps >>= λ qs. read_on says m qs (slice_range bytes f.next end))
  unfolding read_on walk
  read_next f h after before = ap (walked says m ps) (fields_at_next bytes at end f after before h.1)

  -- the next field, where it is taken
  pub read_took : (f : code.Field) → IsNextField bytes at end (Ok (Some f)) → IsWithin at end f → (qs : Parts) → taken_if_known says (known_as m f.number) (content_seen bytes f.value) ps ≡ Ok qs
      → read_on says m ps (slice_range bytes at end) ≡ read_on says m qs (slice_range bytes f.next end)
  read_took f h within qs e =
      read_next f h (omega (arith, within.after)) within.before ∙ ap (λ (r : Result Parts Kind). r >>= λ (qs : Parts). read_on says m qs (slice_range bytes f.next end)) e

  -- the next field, where it is refused
  pub read_refused : (f : code.Field) → IsNextField bytes at end (Ok (Some f)) → IsWithin at end f → (k : Kind) → taken_if_known says (known_as m f.number) (content_seen bytes f.value) ps ≡ Err k
      → read_on says m ps (slice_range bytes at end) ≡ Err k
  read_refused f h within k e =
      read_next f h (omega (arith, within.after)) within.before ∙ ap (λ (r : Result Parts Kind). r >>= λ (qs : Parts). read_on says m qs (slice_range bytes f.next end)) e
