-- The positions of a statement of usual shape.
use Rattle.std.proofs.Common.{◌≡◌, ℕ, zero, suc, ◌+◌, ◌*◌, ◌<◌, ◌≤◌, List, length, get_or, slice_set, true, false, Some, Ok, refl, sym, subst, arith}
use Rattle.std.specs.Str.{is_utf8}
use Rattle.jl_base.specs.Spans.{text_of}
use Rattle.jl_base.specs.declared.place.Span.{Span}
use Rattle.jl_wire.specs.Fields.{Content}
use Rattle.jl_rows.specs.Written as written
use Rattle.jl_rows.specs.Written.{Ids}
use Rattle.jl_rows.specs.Messages.{known, known_as}
use Rattle.jl_rows.specs.Reading.{Part, is_wrong_wire, plain, nothing_said, read_on, iri, literal, empty, content_said, most_nested}
use Rattle.jl_rows.specs.Seen.{ids_seen, term_seen, HasTerm}
use Rattle.jl_rows.specs.Usual.{IsCounted, Stands, IsPosition, ComesOn}
use Rattle.jl_rows.specs.declared.message.Message.{Message}
use Rattle.jl_rows.specs.declared.message.Shape.{Shape}
use Rattle.jl_rows.specs.declared.row.RawIri.{RawIri}
use Rattle.jl_rows.specs.declared.row.RawTerm.{RawTerm}
use Rattle.jl_rows.specs.declared.row.RawTerm.TheVariants as terms
use Rattle.jl_rows.proofs.Walking.{read_end}
use Rattle.jl_rows.proofs.UsualFields.{counted_said}
use Rattle.jl_rows.proofs.UsualTerms.{string_said}

-- the known fields of a position
known_iri : (m : Message) (group : ℕ) → Stands m group → known_as m (group * 4 + 1) ≡ Some (known (group * 4 + 1) Shape.Iri group)
known_iri Message.Triple zero s = refl
known_iri Message.Triple (suc zero) s = refl
known_iri Message.Triple (suc (suc zero)) s = refl
known_iri Message.Triple (suc (suc (suc group))) s = absurd (omega arith)
known_iri Message.Quad zero s = refl
known_iri Message.Quad (suc zero) s = refl
known_iri Message.Quad (suc (suc zero)) s = refl
known_iri Message.Quad (suc (suc (suc zero))) s = refl
known_iri Message.Quad (suc (suc (suc (suc group)))) s = absurd (omega arith)
known_iri m group s = absurd s

known_label : (m : Message) (group : ℕ) → Stands m group → known_as m (group * 4 + 2) ≡ Some (known (group * 4 + 2) Shape.Label group)
known_label Message.Triple zero s = refl
known_label Message.Triple (suc zero) s = refl
known_label Message.Triple (suc (suc zero)) s = refl
known_label Message.Triple (suc (suc (suc group))) s = absurd (omega arith)
known_label Message.Quad zero s = refl
known_label Message.Quad (suc zero) s = refl
known_label Message.Quad (suc (suc zero)) s = refl
known_label Message.Quad (suc (suc (suc zero))) s = refl
known_label Message.Quad (suc (suc (suc (suc group)))) s = absurd (omega arith)
known_label m group s = absurd s

known_literal : (m : Message) (group : ℕ) → Stands m group → group < 3 → known_as m (group * 4 + 3) ≡ Some (known (group * 4 + 3) Shape.Literal group)
known_literal Message.Triple zero s lt = refl
known_literal Message.Triple (suc zero) s lt = refl
known_literal Message.Triple (suc (suc zero)) s lt = refl
known_literal Message.Triple (suc (suc (suc group))) s lt = absurd (omega arith)
known_literal Message.Quad zero s lt = refl
known_literal Message.Quad (suc zero) s lt = refl
known_literal Message.Quad (suc (suc zero)) s lt = refl
known_literal Message.Quad (suc (suc (suc group))) s lt = absurd (omega arith)
known_literal m group s lt = absurd s

known_default : (m : Message) → Stands m 3 → known_as m 15 ≡ Some (known 15 Shape.Default 3)
known_default Message.Triple s = absurd (omega arith)
known_default Message.Quad s = refl
known_default m s = absurd s

-- a term at a position
module _ (bytes : List ℕ) (at end group next : ℕ) (span : Span) where
  term_there : (kind : ℕ) (shape : Shape) (t : RawTerm) → IsCounted bytes at end span → next ≡ span.at + span.len → 0 < kind → kind < 4 → group < 4 → (group * 4 + kind < 16) → get_or bytes at 0 ≡ (group * 4 + kind) * 8 + 2
      → ((m : Message) → Stands m group → known_as m (group * 4 + kind) ≡ Some (known (group * 4 + kind) shape group)) → is_wrong_wire shape (Content.Bytes (text_of bytes span)) ≡ false
      → content_said most_nested shape (Content.Bytes (text_of bytes span)) ≡ Ok (Part.Said (term_seen bytes t)) → HasTerm bytes t → IsPosition bytes at end group (Some t, next)
  term_there kind shape t counted behind some few small below is knows wire said inside = record {
    after = omega (arith, counted.after);
    before = omega (arith, counted.before);
    inside = inside;
    exact = λ m ps stands free.
        subst (λ (n : ℕ). ComesOn (content_said most_nested) m bytes at n end ps (slice_set ps group (Some (Part.Said (term_seen bytes t))))) (sym behind)
        (counted_said (content_said most_nested) m bytes at end (group * 4 + kind) group shape span (Part.Said (term_seen bytes t)) ps counted (omega arith) (omega arith) is (knows m stands) wire free said);
  }

  pub iri_there : (i : RawIri) → IsCounted bytes at end span → next ≡ span.at + span.len → group < 4 → get_or bytes at 0 ≡ group * 32 + 10 → iri (text_of bytes span) ≡ Ok (ids_seen i) → IsPosition bytes at end group (Some (terms.Iri i), next)
  unfolding content_said
  iri_there i counted behind small is said =
      let content : content_said most_nested Shape.Iri (Content.Bytes (text_of bytes span)) ≡ Ok (Part.Said (written.Iri (ids_seen i))) = rw said refl in
      term_there 1 Shape.Iri (terms.Iri i) counted behind (omega arith) (omega arith) small (omega arith) (omega arith) (λ m s. known_iri m group s) refl content tt

  pub label_there : IsCounted bytes at end span → next ≡ span.at + span.len → group < 4 → get_or bytes at 0 ≡ group * 32 + 18 → true ≡ is_utf8 (text_of bytes span) → end ≤ length bytes → IsPosition bytes at end group (Some (terms.Bnode span), next)
  unfolding content_said
  label_there counted behind small is utf8 inside =
      let content : content_said most_nested Shape.Label (Content.Bytes (text_of bytes span)) ≡ Ok (Part.Said (written.Bnode (text_of bytes span))) = rw (string_said (text_of bytes span) utf8) refl in
      term_there 2 Shape.Label (terms.Bnode span) counted behind (omega arith) (omega arith) small (omega arith) (omega arith) (λ m s. known_label m group s) refl content (omega (arith, counted.before))

  pub literal_there : (t : RawTerm) → IsCounted bytes at end span → next ≡ span.at + span.len → group < 3 → get_or bytes at 0 ≡ group * 32 + 26 → literal (text_of bytes span) ≡ Ok (term_seen bytes t) → HasTerm bytes t → IsPosition bytes at end group (Some t, next)
  unfolding content_said
  literal_there t counted behind small is said inside =
      let content : content_said most_nested Shape.Literal (Content.Bytes (text_of bytes span)) ≡ Ok (Part.Said (term_seen bytes t)) = rw said refl in
      term_there 3 Shape.Literal t counted behind (omega arith) (omega arith) (omega arith) (omega arith) (omega arith) (λ m s. known_literal m group s small) refl content inside

-- the default graph
pub default_there : (bytes : List ℕ) (at end next : ℕ) (span : Span) → IsCounted bytes at end span → next ≡ span.at + span.len → get_or bytes at 0 ≡ 0x7A → span.len ≡ 0 → IsPosition bytes at end 3 (Some terms.Default, next)
unfolding content_said empty
default_there bytes at end next span counted behind is none =
    let nothing : read_on plain Message.Empty nothing_said (text_of bytes span) ≡ Ok nothing_said = read_end plain Message.Empty bytes span.at (span.at + span.len) nothing_said (omega arith) in
    let content : content_said most_nested Shape.Default (Content.Bytes (text_of bytes span)) ≡ Ok (Part.Said written.Default) = rw nothing refl in
    term_there bytes at end 3 next span 3 Shape.Default terms.Default counted behind (omega arith) (omega arith) (omega arith) (omega arith) is (λ m s. known_default m s) refl content tt
