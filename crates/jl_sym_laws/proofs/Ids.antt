-- Ids and terms of a run that comes after another one.
use Rattle.std.proofs.Common.{◌≡◌, ℕ, refl, ap, arith}
use Rattle.jl_base.specs.Terms.{Value}
use Rattle.jl_rows.specs.Written.{Ids}
use Rattle.jl_rows.specs.Values.{Slots}
use Rattle.jl_state.specs.Steps.{text_at}
use Rattle.jl_sym_laws.specs.RelativeIds.{Id, real, following, Refs, real_ids, refs_following}
use Rattle.jl_sym_laws.specs.Symbols.{SymTerm, found, sym_value, term_following}

pub real_following : (a b : Id) (last : ℕ) → real (following a b) last ≡ real b (real a last)
real_following a (Id.Given n) last = refl
real_following (Id.Given n) (Id.After k) last = refl
real_following (Id.After j) (Id.After k) last = omega arith

pub real_ids_following : (a b : Refs) (ids : Ids) → real_ids (refs_following a b) ids ≡ real_ids b (real_ids a ids)
real_ids_following a b ids = λ i. record { prefix = real_following a.prefix b.prefix ids.prefix i; name = real_following a.name b.name ids.name i }

pub value_following : (slots : Slots) (ids : Ids) (a : Refs) (t : SymTerm) → sym_value slots ids (term_following a t) ≡ sym_value slots (real_ids a ids) t
value_following slots ids a (SymTerm.Iri r) = ap (λ (x : Ids). Value.Iri (found (text_at slots x))) (real_ids_following a r ids)
value_following slots ids a (SymTerm.Bnode label) = refl
value_following slots ids a (SymTerm.Literal lex tail) = refl
value_following slots ids a (SymTerm.Nested s p o) =
    λ i. Value.Nested (value_following slots ids a s i) (value_following slots ids a p i) (value_following slots ids a o i)
value_following slots ids a SymTerm.Default = refl
