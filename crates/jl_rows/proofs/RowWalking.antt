-- One field after another of a row, and of a frame, that are read in place.
use Rattle.std.proofs.Common.{◌≡◌, ℕ, ◌+◌, ◌-◌, nat_eq, Bool, true, false, if◌then◌else◌, refl, ◌≤◌, List, [], length, slice_range, Option, Some, None, Result, Ok, Err, ap, ◌∙◌, arith}
use Rattle.jl_base.specs.Results.{◌>>=◌, Reading, led}
use Rattle.jl_base.specs.Spans.{text_of}
use Rattle.jl_base.specs.declared.kind.Kind.{Kind}
use Rattle.jl_base.specs.declared.kind.Kind.TheVariants.{WrongWire}
use Rattle.jl_wire.specs.Fields.{Content, Field, fields}
use Rattle.jl_wire.specs.declared.field.Value.{Value}
use Rattle.jl_wire.specs.declared.field.Value.TheVariants as values
use Rattle.jl_wire.specs.declared.field.Field as code
use Rattle.jl_wire.specs.Seen.{content_seen, field_seen, IsNextField, IsWithin}
use Rattle.jl_wire.proofs.FieldLaws.{field_size, fields_at_end, fields_at_fault, fields_at_next}
use Rattle.jl_rows.specs.Written.{Row}
use Rattle.jl_rows.specs.Messages.{sort_of}
use Rattle.jl_rows.specs.Rows.{row, row_taken_if_known, row_walk, row_on}
use Rattle.jl_rows.specs.Files as files
use Rattle.jl_rows.specs.Files.{said_in_frame, row_in, unread, in_front, rows_among, rows, up_to_row}

module _ (bytes : List ℕ) (at end : ℕ) (before : Option Row) where
  pub row_end : at ≡ end → row_on before (slice_range bytes at end) ≡ Ok before
  unfolding row_on row_walk
  row_end e = ap (λ (fs : Reading Field Kind). row_walk fs.items fs.fault before) (fields_at_end bytes at end e)

  pub row_fault : (k : Kind) → end ≤ length bytes → IsNextField bytes at end (Err k) → row_on before (slice_range bytes at end) ≡ Err k
  unfolding row_on row_walk
  row_fault k inside h = ap (λ (fs : Reading Field Kind). row_walk fs.items fs.fault before) (fields_at_fault bytes at end k inside h)

  row_next : (f : code.Field) → IsNextField bytes at end (Ok (Some f)) → at ≤ f.next → f.next ≤ end
      → row_on before (slice_range bytes at end) ≡ (row_taken_if_known (sort_of f.number) (content_seen bytes f.value) before >>= λ r. row_on r (slice_range bytes f.next end))
  unfolding row_on row_walk
  row_next f h after inside = ap (λ (fs : Reading Field Kind). row_walk fs.items fs.fault before) (fields_at_next bytes at end f after inside h.1)

  pub row_took : (f : code.Field) → IsNextField bytes at end (Ok (Some f)) → IsWithin at end f → (after : Option Row) → row_taken_if_known (sort_of f.number) (content_seen bytes f.value) before ≡ Ok after
      → row_on before (slice_range bytes at end) ≡ row_on after (slice_range bytes f.next end)
  row_took f h within after e =
      row_next f h (omega (arith, within.after)) within.before ∙ ap (λ (r : Result (Option Row) Kind). r >>= λ (x : Option Row). row_on x (slice_range bytes f.next end)) e

  pub row_refused : (f : code.Field) → IsNextField bytes at end (Ok (Some f)) → IsWithin at end f → (k : Kind) → row_taken_if_known (sort_of f.number) (content_seen bytes f.value) before ≡ Err k
      → row_on before (slice_range bytes at end) ≡ Err k
  row_refused f h within k e =
      row_next f h (omega (arith, within.after)) within.before ∙ ap (λ (r : Result (Option Row) Kind). r >>= λ (x : Option Row). row_on x (slice_range bytes f.next end)) e

no_row : (first last : Bool) (r : Row) → ◌≡◌ {A = Result (Option Row) Kind} (if first then Err WrongWire else if last then Err WrongWire else Ok None) (Ok (Some r)) → ⊥
no_row true last r e = cc
no_row false true r e = cc
no_row false false r e = cc

-- a field that says a row is bytes
some_row : (bytes : List ℕ) (number : ℕ) (value : Value) (r : Row) → said_in_frame number (content_seen bytes value) ≡ Ok (Some r) → (text : List ℕ) × (content_seen bytes value ≡ Content.Bytes text)
some_row bytes number (values.Bytes span) r e = (text_of bytes span, refl)
some_row bytes number (values.Varint n) r e = absurd (no_row (nat_eq number 1) (nat_eq number 15) r e)
some_row bytes number (values.Fixed64 n) r e = absurd (no_row (nat_eq number 1) (nat_eq number 15) r e)
some_row bytes number (values.Fixed32 n) r e = absurd (no_row (nat_eq number 1) (nat_eq number 15) r e)

none_from : (r : Result Row Kind) → ◌≡◌ {A = Result (Option Row) Kind} (r >>= λ x. Ok (Some x)) (Ok None) → ⊥
none_from (Ok x) e = cc
none_from (Err k) e = cc

-- a field that says nothing is no row, and one that says a row is one
not_a_row : (first : Bool) (content : Content) (rest : Result (Option Row) Kind) → (if first then row_in content else rest) ≡ Ok None → first ≡ false
not_a_row false content rest e = refl
not_a_row true (Content.Bytes t) rest e = absurd (none_from (row t) e)
not_a_row true (Content.Number n) rest e = absurd (cc)
not_a_row true (Content.Eight n) rest e = absurd (cc)
not_a_row true (Content.Four n) rest e = absurd (cc)

a_row : (first last : Bool) (content : Content) (r : Row) → (if first then row_in content else if last then unread content else Ok None) ≡ Ok (Some r) → first ≡ true
a_row true last content r e = refl
a_row false true (Content.Bytes t) r e = absurd (cc)
a_row false true (Content.Number n) r e = absurd (cc)
a_row false true (Content.Eight n) r e = absurd (cc)
a_row false true (Content.Four n) r e = absurd (cc)
a_row false false content r e = absurd (cc)

module _ (bytes : List ℕ) (at end : ℕ) where
  -- a row takes at least two bytes: its tag and its length
  pub row_is_wide : (f : code.Field) → IsNextField bytes at end (Ok (Some f)) → (r : Row) → said_in_frame f.number (content_seen bytes f.value) ≡ Ok (Some r) → at + 2 ≤ f.next
  row_is_wide f h r e =
      let text = some_row bytes f.number f.value r e in
      let sized = field_size (slice_range bytes at end) (field_seen bytes at f) h.1 in
      omega (arith, sized.shorter text.0 text.1)

  pub rows_end : at ≡ end → rows (slice_range bytes at end) ≡ record { items = []; fault = None }
  unfolding rows rows_among
  rows_end e = ap (λ (fs : Reading Field Kind). rows_among fs.items fs.fault) (fields_at_end bytes at end e)

  pub rows_fault : (k : Kind) → end ≤ length bytes → IsNextField bytes at end (Err k) → rows (slice_range bytes at end) ≡ record { items = []; fault = Some k }
  unfolding rows rows_among
  rows_fault k inside h = ap (λ (fs : Reading Field Kind). rows_among fs.items fs.fault) (fields_at_fault bytes at end k inside h)

  rows_next : (f : code.Field) → IsNextField bytes at end (Ok (Some f)) → at ≤ f.next → f.next ≤ end
      → rows (slice_range bytes at end) ≡ led (said_in_frame f.number (content_seen bytes f.value)) (λ r. in_front r (rows (slice_range bytes f.next end)))
  unfolding rows rows_among
  rows_next f h after inside = ap (λ (fs : Reading Field Kind). rows_among fs.items fs.fault) (fields_at_next bytes at end f after inside h.1)

  pub rows_took : (f : code.Field) → IsNextField bytes at end (Ok (Some f)) → IsWithin at end f → (r : Option Row) → said_in_frame f.number (content_seen bytes f.value) ≡ Ok r
      → rows (slice_range bytes at end) ≡ in_front r (rows (slice_range bytes f.next end))
  rows_took f h within r e =
      rows_next f h (omega (arith, within.after)) within.before ∙ ap (λ (x : Result (Option Row) Kind). led x (λ r. in_front r (rows (slice_range bytes f.next end)))) e

  pub rows_refused : (f : code.Field) → IsNextField bytes at end (Ok (Some f)) → IsWithin at end f → (k : Kind) → said_in_frame f.number (content_seen bytes f.value) ≡ Err k
      → rows (slice_range bytes at end) ≡ record { items = []; fault = Some k }
  rows_refused f h within k e =
      rows_next f h (omega (arith, within.after)) within.before ∙ ap (λ (x : Result (Option Row) Kind). led x (λ r. in_front r (rows (slice_range bytes f.next end)))) e

  end_by : (f : code.Field) → IsNextField bytes at end (Ok (Some f)) → IsWithin at end f → (first : Bool) → nat_eq f.number 1 ≡ first
      → files.row_end (slice_range bytes at end) ≡ (if first then f.next - at else f.next - at + files.row_end (slice_range bytes f.next end))
  unfolding files.row_end
  end_by f h within first is =
      ap (λ (fs : Reading Field Kind). up_to_row fs.items) (fields_at_next bytes at end f (omega (arith, within.after)) within.before h.1)
      ∙ ap (λ (b : Bool). if b then f.next - at else f.next - at + up_to_row (fields (slice_range bytes f.next end)).items) is

  -- the first row ends where its field does, or else where the rest of the frame says so
  pub end_later : (f : code.Field) → IsNextField bytes at end (Ok (Some f)) → IsWithin at end f → said_in_frame f.number (content_seen bytes f.value) ≡ Ok None
      → at + files.row_end (slice_range bytes at end) ≡ f.next + files.row_end (slice_range bytes f.next end)
  end_later f h within e =
      let is = end_by f h within false (not_a_row (nat_eq f.number 1) (content_seen bytes f.value) _ e) in
      omega (arith, is, within.after)

  pub end_here : (f : code.Field) → IsNextField bytes at end (Ok (Some f)) → IsWithin at end f → (r : Row) → said_in_frame f.number (content_seen bytes f.value) ≡ Ok (Some r) → f.next ≡ at + files.row_end (slice_range bytes at end)
  end_here f h within r e =
      let is = end_by f h within true (a_row (nat_eq f.number 1) (nat_eq f.number 15) (content_seen bytes f.value) r e) in
      omega (arith, is, within.after)
