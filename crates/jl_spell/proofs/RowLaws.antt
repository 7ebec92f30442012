-- Rows are read back, and so are the rows of a frame.
use Rattle.std.proofs.Common.{◌≡◌, ℕ, ◌^◌, ◌<◌, List, [], ◌∷◌, ◌++◌, length, slice_set, Option, Some, None, Result, Ok, Bool, true, false, refl, ap, ◌∙◌, sym, subst, append-nil, arith}
use Rattle.jl_base.specs.Results.{Reading, with_front}
use Rattle.jl_base.specs.declared.kind.Kind.{Kind}
use Rattle.jl_wire.specs.Fields.{Field, fields}
use Rattle.jl_wire.proofs.FieldLaws.{fields_end}
use Rattle.jl_rows.specs.declared.row.Table.{Table}
use Rattle.jl_rows.specs.declared.message.Message.{Message}
use Rattle.jl_rows.specs.declared.message.Shape.{Shape}
use Rattle.jl_rows.specs.declared.message.Sort.{Sort}
use Rattle.jl_rows.specs.Messages.{known, sort_of}
use Rattle.jl_rows.specs.Written.{Ids, Term, StreamOptions, Row}
use Rattle.jl_rows.specs.Reading.{Part, message, nothing_said, content_said}
use Rattle.jl_rows.specs.Rows.{said_by, row_walk, row_on, row}
use Rattle.jl_rows.specs.Rows as read_rows
use Rattle.jl_rows.specs.Files.{rows_among, rows}
use Rattle.jl_spell.specs.Fields.{Held, Bytes, IsFilled, field_of, field_read}
use Rattle.jl_spell.specs.Messages.{message_of}
use Rattle.jl_spell.specs.Rows.{AreOptions, IsRow, bit, number, bytes, iri_of, positions, position, graph, options, maybe_iri, row_of}
use Rattle.jl_spell.specs.Frames.{body_of}
use Rattle.jl_spell.specs.Laws.{RowsReadBack, BodiesReadBack}
use Rattle.jl_spell.proofs.FieldLaws.{fields_front}
use Rattle.jl_spell.proofs.Passing.{Passes, starts, ended, here, IsPlain, text_said, number_next, text_next, bytes_taken, bytes_short, rest_short}
use Rattle.jl_spell.proofs.Scalars.{number_again, text_again, flag_again, empty_back}
use Rattle.jl_spell.proofs.TermLaws.{said, said_again, term_next, triple_read, quad_read, graph_read, iri_said}

says_plain : IsPlain (content_said 32)
unfolding content_said
says_plain = record { number = λ v. refl; text = λ t utf8. rw utf8 refl }

options_back : (o : StreamOptions) → AreOptions o → length (message_of Message.Options (options o)) < 2 ^ 64 → read_rows.options (message_of Message.Options (options o)) ≡ Ok o
unfolding read_rows.options message
options_back o is short =
    let a = starts (content_said 32) Message.Options (options o) short in
    let b = text_next o.stream_name says_plain a (here Message.Options (known 1 Shape.Text 0) refl refl refl) refl (record { none = refl; same = refl }) is.stream_name in
    let c = number_next says_plain b (here Message.Options (known 2 Shape.Number 1) refl refl refl) refl (record { none = refl; same = refl }) is.physical in
    let d = number_next says_plain c (here Message.Options (known 3 Shape.Number 2) refl refl refl) refl (record { none = refl; same = refl }) (bit_fits o.generalized) in
    let e = number_next says_plain d (here Message.Options (known 4 Shape.Number 3) refl refl refl) refl (record { none = refl; same = refl }) (bit_fits o.star) in
    let f = number_next says_plain e (here Message.Options (known 9 Shape.Number 4) refl refl refl) refl (record { none = refl; same = refl }) is.names in
    let g = number_next says_plain f (here Message.Options (known 10 Shape.Number 5) refl refl refl) refl (record { none = refl; same = refl }) is.prefixes in
    let h = number_next says_plain g (here Message.Options (known 11 Shape.Number 6) refl refl refl) refl (record { none = refl; same = refl }) is.datatypes in
    let i = number_next says_plain h (here Message.Options (known 14 Shape.Number 7) refl refl refl) refl (record { none = refl; same = refl }) is.logical in
    let j = number_next says_plain i (here Message.Options (known 15 Shape.Number 8) refl refl refl) refl (record { none = refl; same = refl }) is.version in
    rw (
      ended [] j,
      text_again o.stream_name,
      number_again o.physical is.physical,
      flag_again o.generalized,
      flag_again o.star,
      number_again o.names is.names,
      number_again o.prefixes is.prefixes,
      number_again o.datatypes is.datatypes,
      number_again o.logical is.logical,
      number_again o.version is.version,
    ) (ap with_strict (sym is.not_strict))
  where
    with_strict : Bool → Result StreamOptions Kind
    with_strict strict = Ok (record { stream_name = o.stream_name; physical = o.physical; generalized = o.generalized; star = o.star; names = o.names; prefixes = o.prefixes; datatypes = o.datatypes; logical = o.logical; version = o.version; strict = strict })

    bit_fits : (b : _) → bit b < 2 ^ 32
    bit_fits true = omega arith
    bit_fits false = omega arith

triple_back : (s p o : Term) → IsRow (Row.Triple s p o) → length (message_of Message.Triple (positions s p o)) < 2 ^ 64 → read_rows.triple (message_of Message.Triple (positions s p o)) ≡ Ok (Row.Triple s p o)
unfolding read_rows.triple message
triple_back s p o is short =
    rw (triple_read 32 s p o (term_next s 32 is.0) (term_next p 32 is.1) (term_next o 32 is.2) short, said_again s, said_again p, said_again o) refl

quad_back : (s p o g : Term) → IsRow (Row.Quad s p o g) → length (message_of Message.Quad (position s ++ (position p ++ (position o ++ graph g)))) < 2 ^ 64
    → read_rows.quad (message_of Message.Quad (position s ++ (position p ++ (position o ++ graph g)))) ≡ Ok (Row.Quad s p o g)
unfolding read_rows.quad message
quad_back s p o g is short = rw (quad_read 32 s p o g is.0 is.1 is.2 is.3 short, said_again s, said_again p, said_again o, said_again g) refl

graph_back : (g : Term) → IsRow (Row.GraphStart g) → length (message_of Message.GraphStart (graph g)) < 2 ^ 64 → read_rows.graph_start (message_of Message.GraphStart (graph g)) ≡ Ok (Row.GraphStart g)
unfolding read_rows.graph_start message
graph_back g is short = rw (graph_read 32 g is short, said_again g) refl

-- an IRI, where one stands
maybe_said : Option Ids → Option Part
maybe_said None = None
maybe_said (Some i) = Some (Part.Said (Term.Iri i))

namespace_back : (name : List ℕ) (i : Option Ids) → IsRow (Row.Namespace name i) → length (message_of Message.Namespace (bytes name ∷ maybe_iri i ∷ [])) < 2 ^ 64
    → read_rows.namespace (message_of Message.Namespace (bytes name ∷ maybe_iri i ∷ [])) ≡ Ok (Row.Namespace name i)
unfolding read_rows.namespace message
namespace_back name None is short =
    let a = starts (content_said 32) Message.Namespace (bytes name ∷ None ∷ []) short in
    let b = text_next name says_plain a (here Message.Namespace (known 1 Shape.Text 0) refl refl refl) refl (record { none = refl; same = refl }) is.0 in
    let c : Passes (content_said 32) Message.Namespace nothing_said (message_of Message.Namespace (bytes name ∷ None ∷ [])) (slice_set nothing_said 0 (text_said name)) [] [] = record { reads = b.reads; short = b.short } in
    rw (ended [] c, text_again name) refl
namespace_back name (Some i) is short =
    let whole = message_of Message.Namespace (bytes name ∷ bytes (iri_of i) ∷ []) in
    let a = starts (content_said 32) Message.Namespace (bytes name ∷ bytes (iri_of i) ∷ []) short in
    let b = text_next name says_plain a (here Message.Namespace (known 1 Shape.Text 0) refl refl refl) refl (record { none = refl; same = refl }) is.0 in
    let c = bytes_taken (content_said 32) Message.Namespace nothing_said whole (slice_set nothing_said 0 (text_said name)) (known 2 Shape.Iri 1) (iri_of i) (Part.Said (Term.Iri i)) [] [] b.reads b.short
    (here Message.Namespace (known 2 Shape.Iri 1) refl refl refl) refl refl (iri_said 32 i is.1) in
    rw (ended [] c, text_again name) refl

entry_back : (t : Table) (id : ℕ) (text : List ℕ) → IsRow (Row.Entry t id text) → length (message_of Message.Entry (number id ∷ bytes text ∷ [])) < 2 ^ 64 → read_rows.entry t (message_of Message.Entry (number id ∷ bytes text ∷ [])) ≡ Ok (Row.Entry t id text)
unfolding read_rows.entry message
entry_back t id text is short =
    let a = starts (content_said 32) Message.Entry (number id ∷ bytes text ∷ []) short in
    let b = number_next says_plain a (here Message.Entry (known 1 Shape.Number 0) refl refl refl) refl (record { none = refl; same = refl }) is.0 in
    let c = text_next text says_plain b (here Message.Entry (known 2 Shape.Text 1) refl refl refl) refl (record { none = refl; same = refl }) is.1 in
    rw (ended [] c, number_again id is.0, text_again text) refl

-- a message with one field
field_alone : (n : ℕ) (h : Held) → IsFilled (record { number = n; holds = h }) → fields (field_of n h) ≡ record { items = field_read (record { number = n; holds = h }) ∷ []; fault = None }
field_alone n h is =
    ap fields (sym (append-nil (field_of n h))) ∙ fields_front (record { number = n; holds = h }) [] is
    ∙ ap (λ (r : Reading Field Kind). with_front (field_read (record { number = n; holds = h })) r) fields_end

in_row : (n : ℕ) (t : List ℕ) (sort : Sort) (r : Row) → sort_of n ≡ Some sort → 0 < n → n < 2 ^ 29 → length (field_of n (Bytes t)) < 2 ^ 64 → (length t < 2 ^ 64 → said_by sort t ≡ Ok r) → row (field_of n (Bytes t)) ≡ Ok r
unfolding row row_on row_walk
in_row n t sort r known above below short said =
    let held : length t < 2 ^ 64 = bytes_short n t [] (subst (λ (bs : List ℕ). length bs < 2 ^ 64) (sym (append-nil (field_of n (Bytes t)))) short) in
    rw (field_alone n (Bytes t) (above, below, held), known, said held) refl

pub row_back : RowsReadBack
unfolding row_of
row_back (Row.Options o) is short = in_row 1 (message_of Message.Options (options o)) Sort.Options (Row.Options o) refl (omega arith) (omega arith) short (λ held. rw (options_back o is held) refl)
row_back (Row.Triple s p o) is short = in_row 2 (message_of Message.Triple (positions s p o)) Sort.Triple (Row.Triple s p o) refl (omega arith) (omega arith) short (triple_back s p o is)
row_back (Row.Quad s p o g) is short = in_row 3 (message_of Message.Quad (position s ++ (position p ++ (position o ++ graph g)))) Sort.Quad (Row.Quad s p o g) refl (omega arith) (omega arith) short (quad_back s p o g is)
row_back (Row.GraphStart g) is short = in_row 4 (message_of Message.GraphStart (graph g)) Sort.GraphStart (Row.GraphStart g) refl (omega arith) (omega arith) short (graph_back g is)
row_back Row.GraphEnd is short = in_row 5 (message_of Message.Empty []) Sort.GraphEnd Row.GraphEnd refl (omega arith) (omega arith) short (λ held. rw empty_back refl)
row_back (Row.Namespace name i) is short = in_row 6 (message_of Message.Namespace (bytes name ∷ maybe_iri i ∷ [])) Sort.Namespace (Row.Namespace name i) refl (omega arith) (omega arith) short (namespace_back name i is)
row_back (Row.Entry Table.Name id text) is short = in_row 9 (message_of Message.Entry (number id ∷ bytes text ∷ [])) (Sort.Entry Table.Name) (Row.Entry Table.Name id text) refl (omega arith) (omega arith) short (entry_back Table.Name id text is)
row_back (Row.Entry Table.Prefix id text) is short = in_row 10 (message_of Message.Entry (number id ∷ bytes text ∷ [])) (Sort.Entry Table.Prefix) (Row.Entry Table.Prefix id text) refl (omega arith) (omega arith) short (entry_back Table.Prefix id text is)
row_back (Row.Entry Table.Datatype id text) is short = in_row 11 (message_of Message.Entry (number id ∷ bytes text ∷ [])) (Sort.Entry Table.Datatype) (Row.Entry Table.Datatype id text) refl (omega arith) (omega arith) short (entry_back Table.Datatype id text is)

pub body_back : BodiesReadBack
unfolding rows rows_among
body_back [] all short = rw fields_end refl
body_back (r ∷ rs) all short =
    let held : length (row_of r) < 2 ^ 64 = bytes_short 1 (row_of r) (body_of rs) short in
    let rest : length (body_of rs) < 2 ^ 64 = rest_short (field_of 1 (Bytes (row_of r))) (body_of rs) short in
    let front = fields_front (record { number = 1; holds = Bytes (row_of r) }) (body_of rs) (omega arith, omega arith, held) in
    let said = row_back r all.0 held in
    rw (front, said) (ap (λ (R : Reading Row Kind). with_front r R) (body_back rs all.1 rest))
