-- Rows of usual shape.
use Rattle.std.proofs.Common.{◌≡◌, ℕ, ◌+◌, ◌-◌, ◌*◌, ◌^◌, ◌<◌, ◌≤◌, List, length, get_or, slice_range, slice_set, true, false, IfSome, Option, Some, None, is_some, unwrap_or, Result, Ok, refl, sym, ap, ◌∙◌, subst, arith}
use Rattle.std.specs.Option.{option_map}
use Rattle.std.specs.Str.{is_utf8}
use Rattle.jl_base.specs.Results.{◌>>=◌, Reading, led, with_front, some_or}
use Rattle.jl_base.specs.Spans.{text_of}
use Rattle.jl_base.specs.declared.kind.Kind.{Kind}
use Rattle.jl_base.specs.declared.kind.Kind.TheVariants.{EmptyRow}
use Rattle.jl_base.specs.declared.place.Span.{Span}
use Rattle.jl_wire.specs.Fields.{Content, Field, fields}
use Rattle.jl_rows.specs.Written as written
use Rattle.jl_rows.specs.Messages.{sort_of}
use Rattle.jl_rows.specs.Reading.{Part, Parts, part, number_32, text, term, nothing_said, read_on, content_said, most_nested, message}
use Rattle.jl_rows.specs.Rows.{triple, quad, entry, row_taken_if_known, row_walk, row_on, row}
use Rattle.jl_rows.specs.Files as files
use Rattle.jl_rows.specs.Files.{said_in_frame, in_front, rows_among, rows, up_to_row}
use Rattle.jl_rows.specs.Seen.{term_seen, position_seen, row_seen}
use Rattle.jl_rows.specs.Usual.{IsCounted, IsNumber, IsPosition, IsRowOf, IsTableOf, IsKind, with_part}
use Rattle.jl_rows.specs.declared.message.Message.{Message}
use Rattle.jl_rows.specs.declared.message.Shape.{Shape}
use Rattle.jl_rows.specs.declared.message.Sort.{Sort}
use Rattle.jl_rows.specs.declared.row.RawTerm.{RawTerm}
use Rattle.jl_rows.specs.declared.row.Row.{Row}
use Rattle.jl_rows.specs.declared.row.Table.{Table}
use Rattle.jl_rows.proofs.Walking.{read_end}
use Rattle.jl_rows.proofs.RowWalking.{row_end}
use Rattle.jl_rows.proofs.UsualFields.{fields_in_front, counted_said}
use Rattle.jl_rows.proofs.UsualTerms.{low_bits, string_said}

abbrev said : List ℕ → Option RawTerm → Option Part
said bytes t = option_map (λ x. Part.Said (term_seen bytes x)) t

abbrev with_terms : List ℕ → Option RawTerm → Option RawTerm → Option RawTerm → Parts
with_terms bytes a b c = with_part (with_part (with_part nothing_said 0 (said bytes a)) 1 (said bytes b)) 2 (said bytes c)

predicate_free : (bytes : List ℕ) (a : Option RawTerm) → is_some (part (with_part nothing_said 0 (said bytes a)) 1) ≡ false
predicate_free bytes None = refl
predicate_free bytes (Some a) = refl

object_free : (bytes : List ℕ) (a b : Option RawTerm) → is_some (part (with_part (with_part nothing_said 0 (said bytes a)) 1 (said bytes b)) 2) ≡ false
object_free bytes None None = refl
object_free bytes None (Some b) = refl
object_free bytes (Some a) None = refl
object_free bytes (Some a) (Some b) = refl

abbrev triple_of : Parts → Result written.Row Kind
triple_of ps = Ok (written.Triple (term (part ps 0)) (term (part ps 1)) (term (part ps 2)))

three_terms : (bytes : List ℕ) (a b c : Option RawTerm) → triple_of (with_terms bytes a b c) ≡ Ok (written.Triple (position_seen bytes a) (position_seen bytes b) (position_seen bytes c))
three_terms bytes None None None = refl
three_terms bytes None None (Some c) = refl
three_terms bytes None (Some b) None = refl
three_terms bytes None (Some b) (Some c) = refl
three_terms bytes (Some a) None None = refl
three_terms bytes (Some a) None (Some c) = refl
three_terms bytes (Some a) (Some b) None = refl
three_terms bytes (Some a) (Some b) (Some c) = refl

-- a triple is its terms, position by position
triple_read : (bytes : List ℕ) (at second third end : ℕ) (a b c : Option RawTerm) → IsPosition bytes at end 0 (a, second) → IsPosition bytes second end 1 (b, third) → IsPosition bytes third end 2 (c, end)
    → triple (slice_range bytes at end) ≡ Ok (written.Triple (position_seen bytes a) (position_seen bytes b) (position_seen bytes c))
unfolding triple message
triple_read bytes at second third end a b c s p o =
    let ps = with_part nothing_said 0 (said bytes a) in
    let qs = with_part ps 1 (said bytes b) in
    let read : read_on (content_said most_nested) Message.Triple nothing_said (slice_range bytes at end) ≡ Ok (with_terms bytes a b c) =
    s.exact Message.Triple nothing_said (omega arith) refl ∙ p.exact Message.Triple ps (omega arith) (predicate_free bytes a) ∙ o.exact Message.Triple qs (omega arith) (object_free bytes a b)
    ∙ read_end (content_said most_nested) Message.Triple bytes end end (with_terms bytes a b c) refl in
    ap (λ (r : Result Parts Kind). r >>= λ (ps : Parts). triple_of ps) read ∙ three_terms bytes a b c

pub triple_said : (bytes : List ℕ) (span : Span) (second third last end : ℕ) (a b c : Option RawTerm) → end ≡ span.at + span.len → last ≡ end → IsPosition bytes span.at end 0 (a, second) → IsPosition bytes second end 1 (b, third) → IsPosition bytes third end 2 (c, last)
    → triple (text_of bytes span) ≡ Ok (written.Triple (position_seen bytes a) (position_seen bytes b) (position_seen bytes c))
triple_said bytes span second third last end a b c whole ends s p o =
    let o_is : IsPosition bytes third end 2 (c, end) = subst (λ (n : ℕ). IsPosition bytes third end 2 (c, n)) ends o in
    subst (λ (n : ℕ). triple (slice_range bytes span.at n) ≡ Ok (written.Triple (position_seen bytes a) (position_seen bytes b) (position_seen bytes c))) whole (triple_read bytes span.at second third end a b c s p o_is)

graph_free : (bytes : List ℕ) (a b c : Option RawTerm) → is_some (part (with_terms bytes a b c) 3) ≡ false
graph_free bytes None None None = refl
graph_free bytes None None (Some c) = refl
graph_free bytes None (Some b) None = refl
graph_free bytes None (Some b) (Some c) = refl
graph_free bytes (Some a) None None = refl
graph_free bytes (Some a) None (Some c) = refl
graph_free bytes (Some a) (Some b) None = refl
graph_free bytes (Some a) (Some b) (Some c) = refl

abbrev quad_of : Parts → Result written.Row Kind
quad_of ps = Ok (written.Quad (term (part ps 0)) (term (part ps 1)) (term (part ps 2)) (term (part ps 3)))

four_terms : (bytes : List ℕ) (a b c d : Option RawTerm) → quad_of (with_part (with_terms bytes a b c) 3 (said bytes d)) ≡ Ok (written.Quad (position_seen bytes a) (position_seen bytes b) (position_seen bytes c) (position_seen bytes d))
four_terms bytes None None None None = refl
four_terms bytes None None None (Some d) = refl
four_terms bytes None None (Some c) None = refl
four_terms bytes None None (Some c) (Some d) = refl
four_terms bytes None (Some b) None None = refl
four_terms bytes None (Some b) None (Some d) = refl
four_terms bytes None (Some b) (Some c) None = refl
four_terms bytes None (Some b) (Some c) (Some d) = refl
four_terms bytes (Some a) None None None = refl
four_terms bytes (Some a) None None (Some d) = refl
four_terms bytes (Some a) None (Some c) None = refl
four_terms bytes (Some a) None (Some c) (Some d) = refl
four_terms bytes (Some a) (Some b) None None = refl
four_terms bytes (Some a) (Some b) None (Some d) = refl
four_terms bytes (Some a) (Some b) (Some c) None = refl
four_terms bytes (Some a) (Some b) (Some c) (Some d) = refl

-- a quad is its terms, position by position
quad_read : (bytes : List ℕ) (at second third fourth end : ℕ) (a b c d : Option RawTerm) → IsPosition bytes at end 0 (a, second) → IsPosition bytes second end 1 (b, third) → IsPosition bytes third end 2 (c, fourth) → IsPosition bytes fourth end 3 (d, end)
    → quad (slice_range bytes at end) ≡ Ok (written.Quad (position_seen bytes a) (position_seen bytes b) (position_seen bytes c) (position_seen bytes d))
unfolding quad message
quad_read bytes at second third fourth end a b c d s p o g =
    let ps = with_part nothing_said 0 (said bytes a) in
    let qs = with_part ps 1 (said bytes b) in
    let rs = with_part (with_terms bytes a b c) 3 (said bytes d) in
    let read : read_on (content_said most_nested) Message.Quad nothing_said (slice_range bytes at end) ≡ Ok rs =
    s.exact Message.Quad nothing_said (omega arith) refl ∙ p.exact Message.Quad ps (omega arith) (predicate_free bytes a) ∙ o.exact Message.Quad qs (omega arith) (object_free bytes a b)
    ∙ g.exact Message.Quad (with_terms bytes a b c) (omega arith) (graph_free bytes a b c)
    ∙ read_end (content_said most_nested) Message.Quad bytes end end rs refl in
    ap (λ (r : Result Parts Kind). r >>= λ (ps : Parts). quad_of ps) read ∙ four_terms bytes a b c d

pub quad_said : (bytes : List ℕ) (span : Span) (second third fourth last end : ℕ) (a b c d : Option RawTerm) → end ≡ span.at + span.len → last ≡ end → IsPosition bytes span.at end 0 (a, second) → IsPosition bytes second end 1 (b, third)
    → IsPosition bytes third end 2 (c, fourth) → IsPosition bytes fourth end 3 (d, last) → quad (text_of bytes span) ≡ Ok (written.Quad (position_seen bytes a) (position_seen bytes b) (position_seen bytes c) (position_seen bytes d))
quad_said bytes span second third fourth last end a b c d whole ends s p o g =
    let g_is : IsPosition bytes fourth end 3 (d, end) = subst (λ (n : ℕ). IsPosition bytes fourth end 3 (d, n)) ends g in
    subst (λ (n : ℕ). quad (slice_range bytes span.at n) ≡ Ok (written.Quad (position_seen bytes a) (position_seen bytes b) (position_seen bytes c) (position_seen bytes d))) whole
    (quad_read bytes span.at second third fourth end a b c d s p o g_is)

abbrev number_part : Option ℕ → Option Part
number_part n = option_map (λ x. Part.Number x) n

text_free : (n : Option ℕ) → is_some (part (with_part nothing_said 0 (number_part n)) 1) ≡ false
text_free None = refl
text_free (Some n) = refl

abbrev entry_of : Table → Parts → Result written.Row Kind
entry_of table ps = Ok (written.Entry table (number_32 (part ps 0)) (text (part ps 1)))

id_and_text : (table : Table) (n : Option ℕ) (t : List ℕ) → IfSome n (λ x. x < 2 ^ 32) → entry_of table (slice_set (with_part nothing_said 0 (number_part n)) 1 (Some (Part.Text t))) ≡ Ok (written.Entry table (unwrap_or n 0) t)
id_and_text table None t small = refl
id_and_text table (Some n) t small = rw (low_bits n small) refl

-- an entry is its id and its text
entry_read : (bytes : List ℕ) (table : Table) (at place end : ℕ) (n : Option ℕ) (t : Span) → IsNumber bytes at 1 (n, place) → IsCounted bytes place end t → get_or bytes place 0 ≡ 18 → t.at + t.len ≡ end → true ≡ is_utf8 (text_of bytes t) → end ≤ length bytes
    → entry table (slice_range bytes at end) ≡ Ok (written.Entry table (unwrap_or n 0) (text_of bytes t))
unfolding entry message content_said
entry_read bytes table at place end n t number counted is last utf8 inside =
    let says = content_said most_nested in
    let tag : get_or bytes place 0 ≡ 2 * 8 + 2 = omega arith in
    let text_is : says Shape.Text (Content.Bytes (text_of bytes t)) ≡ Ok (Part.Text (text_of bytes t)) = rw (string_said (text_of bytes t) utf8) refl in
    let ps = with_part nothing_said 0 (number_part n) in
    let qs = slice_set ps 1 (Some (Part.Text (text_of bytes t))) in
    let before : place ≤ end = omega (arith, counted.after, counted.before) in
    let read : read_on says Message.Entry nothing_said (slice_range bytes at end) ≡ Ok qs =
    number.exact says Message.Entry 0 end nothing_said (λ x. refl) refl refl before inside
    ∙ counted_said says Message.Entry bytes place end 2 1 Shape.Text t (Part.Text (text_of bytes t)) ps counted (omega arith) (omega arith) tag refl refl (text_free n) text_is
    ∙ read_end says Message.Entry bytes (t.at + t.len) end qs last in
    ap (λ (r : Result Parts Kind). r >>= λ (ps : Parts). entry_of table ps) read ∙ id_and_text table n (text_of bytes t) number.small

pub entry_said : (bytes : List ℕ) (table : Table) (span : Span) (place end last : ℕ) (n : Option ℕ) (t : Span) → end ≡ span.at + span.len → last ≡ t.at + t.len → last ≡ end → IsNumber bytes span.at 1 (n, place) → IsCounted bytes place end t → get_or bytes place 0 ≡ 18
    → true ≡ is_utf8 (text_of bytes t) → end ≤ length bytes → entry table (text_of bytes span) ≡ Ok (written.Entry table (unwrap_or n 0) (text_of bytes t))
entry_said bytes table span place end last n t whole behind ends number counted is utf8 inside =
    subst (λ (e : ℕ). entry table (slice_range bytes span.at e) ≡ Ok (written.Entry table (unwrap_or n 0) (text_of bytes t))) whole
    (entry_read bytes table span.at place end n t number counted is (omega arith) utf8 inside)

-- an entry, by the table that its tag names
pub entry_kind : (bytes : List ℕ) (tag : ℕ) (t : List ℕ) (table : Table) (r : Row) → IsTableOf tag table → IsRowOf bytes (entry table t) r → IsKind bytes tag t r
entry_kind bytes tag t Table.Name r is said = record { number = 9; above = omega arith; below = omega arith; sort = Sort.Entry Table.Name; tag_is = is; sort_is = refl; said = said }
entry_kind bytes tag t Table.Prefix r is said = record { number = 10; above = omega arith; below = omega arith; sort = Sort.Entry Table.Prefix; tag_is = is; sort_is = refl; said = said }
entry_kind bytes tag t Table.Datatype r is said = record { number = 11; above = omega arith; below = omega arith; sort = Sort.Entry Table.Datatype; tag_is = is; sort_is = refl; said = said }

-- a row's message of one field, which fills it
pub message_said : (bytes : List ℕ) (span inner : Span) (end last : ℕ) (r : Row) → end ≡ span.at + span.len → last ≡ inner.at + inner.len → last ≡ end → IsCounted bytes span.at end inner → IsKind bytes (get_or bytes span.at 0) (text_of bytes inner) r
    → row (text_of bytes span) ≡ Ok (row_seen bytes r)
unfolding row row_on row_walk
message_said bytes span inner end last r whole behind ends counted kind =
    let next = inner.at + inner.len in
    let f : Field = record { number = kind.number; content = Content.Bytes (text_of bytes inner); size = next - span.at } in
    let all : fields (slice_range bytes span.at end) ≡ with_front f (fields (slice_range bytes next end)) =
    fields_in_front bytes span.at end next kind.number (Content.Bytes (text_of bytes inner)) (omega (arith, counted.after)) counted.before (counted.exact kind.number kind.above kind.below kind.tag_is) in
    let sort = kind.sort_is in
    let said = kind.said.0 in
    let taken : row_taken_if_known (sort_of kind.number) (Content.Bytes (text_of bytes inner)) None ≡ Ok (Some (row_seen bytes r)) = rw (sort, said) refl in
    let on : row_on None (slice_range bytes span.at end) ≡ Ok (Some (row_seen bytes r)) =
    ap (λ (fs : Reading Field Kind). row_walk fs.items fs.fault None) all ∙ ap (λ (x : Result (Option written.Row) Kind). x >>= λ (y : Option written.Row). row_on y (slice_range bytes next end)) taken
    ∙ row_end bytes next end (Some (row_seen bytes r)) (omega arith) in
    subst (λ (e : ℕ). row (slice_range bytes span.at e) ≡ Ok (row_seen bytes r)) whole (ap (λ (x : Result (Option written.Row) Kind). x >>= λ (y : Option written.Row). some_or y EmptyRow) on)

-- a field of a frame that is a row
pub row_in_front : (bytes : List ℕ) (at end next : ℕ) (span : Span) (r : Row) → IsCounted bytes at end span → get_or bytes at 0 ≡ 10 → next ≡ span.at + span.len → row (text_of bytes span) ≡ Ok (row_seen bytes r)
    → rows (slice_range bytes at end) ≡ with_front (row_seen bytes r) (rows (slice_range bytes next end))
unfolding rows rows_among
row_in_front bytes at end next span r counted is behind said =
    let place = span.at + span.len in
    let tag : get_or bytes at 0 ≡ 1 * 8 + 2 = omega arith in
    let f : Field = record { number = 1; content = Content.Bytes (text_of bytes span); size = place - at } in
    let all : fields (slice_range bytes at end) ≡ with_front f (fields (slice_range bytes place end)) =
    fields_in_front bytes at end place 1 (Content.Bytes (text_of bytes span)) (omega (arith, counted.after)) counted.before (counted.exact 1 (omega arith) (omega arith) tag) in
    let taken : said_in_frame 1 (Content.Bytes (text_of bytes span)) ≡ Ok (Some (row_seen bytes r)) = rw said refl in
    subst (λ (n : ℕ). rows (slice_range bytes at end) ≡ with_front (row_seen bytes r) (rows (slice_range bytes n end))) (sym behind)
    (ap (λ (fs : Reading Field Kind). rows_among fs.items fs.fault) all ∙ ap (λ (x : Result (Option written.Row) Kind). led x (λ y. in_front y (rows (slice_range bytes place end)))) taken)

ends_by : (bytes : List ℕ) (at end place : ℕ) (content : Content) → fields (slice_range bytes at end) ≡ with_front (record { number = 1; content = content; size = place - at }) (fields (slice_range bytes place end)) → files.row_end (slice_range bytes at end) ≡ place - at
unfolding files.row_end
ends_by bytes at end place content all = ap (λ (fs : Reading Field Kind). up_to_row fs.items) all

-- and where it ends
pub row_in_front_ends : (bytes : List ℕ) (at end next : ℕ) (span : Span) → IsCounted bytes at end span → get_or bytes at 0 ≡ 10 → next ≡ span.at + span.len → next ≡ at + files.row_end (slice_range bytes at end)
row_in_front_ends bytes at end next span counted is behind = omega (arith, behind, size, counted.after)
  where
    place : ℕ
    place = span.at + span.len

    tag : get_or bytes at 0 ≡ 1 * 8 + 2
    tag = omega (arith, is)

    size : files.row_end (slice_range bytes at end) ≡ span.at + span.len - at
    size = ends_by bytes at end place (Content.Bytes (text_of bytes span)) (fields_in_front bytes at end place 1 (Content.Bytes (text_of bytes span)) (omega (arith, counted.after)) counted.before (counted.exact 1 (omega arith) (omega arith) tag))
