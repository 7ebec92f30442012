-- The last ids that a state keeps are those of the IRIs that were seen, so terms mean the same.
use Rattle.std.proofs.Common.{◌≡◌, ℕ, ◌+◌, ◌==◌, Bool, true, false, List, ◌∷◌, map, Option, Result, Ok, Err, refl, ap, sym, ◌∙◌, cond, arith}
use Rattle.jl_base.specs.Results.{◌>>=◌, some_or}
use Rattle.jl_base.specs.Terms.{Value}
use Rattle.jl_base.specs.declared.kind.Kind.{Kind}
use Rattle.jl_base.specs.declared.kind.Kind.TheVariants.{NoTerm}
use Rattle.jl_rows.specs.Written.{Ids, Term}
use Rattle.jl_rows.specs.History.{last_above_0, after_it, counted, seen_after, prefix_id}
use Rattle.jl_rows.specs.Values.{Slots, value, iri_text, tail_of, is_unset}
use Rattle.jl_state.specs.Steps.{ids_after, text_at, looked, placed}
use Rattle.jl_state.specs.Stands.{last_ids}
use Rattle.jl_state.proofs.Binds.{bind_assoc, bind_ext}

-- the rule for 0, one number on
by_rule : (b : Bool) (n last after : ℕ) → cond b last n + cond b (after + 1) 0 ≡ cond b (last + after + 1) n
by_rule true n last after = omega arith
by_rule false n last after = omega arith

pub counted-cons : (n : ℕ) (ns : List ℕ) → counted (n ∷ ns) ≡ cond (n == 0) (counted ns + 1) n
counted-cons n ns = by_rule (n == 0) n (last_above_0 ns) (after_it ns)

pub last_ids-cons : (i : Ids) (seen : List Ids) → last_ids (i ∷ seen) ≡ ids_after i (last_ids seen)
last_ids-cons i seen = ap (λ (n : ℕ). let r : Ids = record { prefix = prefix_id (i ∷ seen); name = n } in r) (counted-cons i.name (map (λ (j : Ids). j.name) seen))

-- a value with the last ids behind it
abbrev pub behind : Result Value Kind → Ids → Result (Value × Ids) Kind
behind r ids = r >>= λ v. Ok (v, ids)

-- what goes on behind a value
behind_then : {X : Type 0} (r : Result Value Kind) (ids : Ids) (l : Result (Value × Ids) Kind) (f : Value × Ids → Result X Kind) → l ≡ behind r ids → (l >>= f) ≡ (r >>= λ v. f (v, ids))
behind_then (Ok v) ids l f e = ap (λ x. x >>= f) e
behind_then (Err k) ids l f e = ap (λ x. x >>= f) e

pub looked_is : (slots : Slots) (seen : List Ids) (t : Term) → looked slots (last_ids seen) t ≡ behind (value slots seen t) (last_ids (seen_after t seen))
looked_is slots seen Term.Unset = refl
looked_is slots seen (Term.Iri i) =
    ap (λ (ids : Ids). text_at slots ids >>= λ t. Ok (Value.Iri t, ids)) (sym (last_ids-cons i seen))
    ∙ sym (bind_assoc (iri_text slots (i ∷ seen)) (λ t. Ok (Value.Iri t)) (λ v. Ok (v, last_ids (i ∷ seen))))
looked_is slots seen (Term.Bnode label) = refl
looked_is slots seen (Term.Literal lex e) = sym (bind_assoc (tail_of slots e) (λ t. Ok (Value.Literal lex t)) (λ v. Ok (v, last_ids seen)))
looked_is slots seen (Term.Nested s p o) =
    let one = seen_after s seen in
    let two = seen_after p one in
    let three = seen_after o two in
    behind_then (value slots seen s) (last_ids one) (looked slots (last_ids seen) s) _ (looked_is slots seen s)
    ∙ bind_ext (value slots seen s) _ _ (λ a. behind_then (value slots one p) (last_ids two) (looked slots (last_ids one) p) _ (looked_is slots one p)
    ∙ bind_ext (value slots one p) _ _ (λ b. behind_then (value slots two o) (last_ids three) (looked slots (last_ids two) o) _ (looked_is slots two o)))
    ∙ sym (bind_assoc (value slots seen s) _ _
    ∙ bind_ext (value slots seen s) _ _ (λ a. bind_assoc (value slots one p) _ _
    ∙ bind_ext (value slots one p) _ _ (λ b. bind_assoc (value slots two o) _ _)))
looked_is slots seen Term.Default = refl
looked_is slots seen (Term.Refused k) = refl

-- a term that is set, or the one before
abbrev pub set_or : Option Value → Slots → List Ids → Term → Result Value Kind
set_or before slots seen t = cond (is_unset t) (some_or before NoTerm) (value slots seen t)

pub placed_is : (slots : Slots) (seen : List Ids) (before : Option Value) (t : Term) → placed slots (last_ids seen) before t ≡ behind (set_or before slots seen t) (last_ids (seen_after t seen))
placed_is slots seen before Term.Unset = refl
placed_is slots seen before (Term.Iri i) = looked_is slots seen (Term.Iri i)
placed_is slots seen before (Term.Bnode label) = looked_is slots seen (Term.Bnode label)
placed_is slots seen before (Term.Literal lex e) = looked_is slots seen (Term.Literal lex e)
placed_is slots seen before (Term.Nested s p o) = looked_is slots seen (Term.Nested s p o)
placed_is slots seen before Term.Default = looked_is slots seen Term.Default
placed_is slots seen before (Term.Refused k) = looked_is slots seen (Term.Refused k)
