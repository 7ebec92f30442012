use Rattle.std.proofs.Common.{◌≡◌, ◌++◌, [], ◌∷◌, List, ℕ, length, drop, ap, sym, ◌∙◌, arith, eq-eqb}
use Rattle.std.proofs.lemmas.List.{drop_all}
use Rattle.std.proofs.lemmas.Bool.{or_left, or_right, or_from, ne_eqb}
use Rattle.std.specs.List.{slice_range}
use Rattle.jl_io.specs.Cuts.{parts_from, last_end, are_ordered}
use Rattle.jl_io.proofs.CutLemmas.{length-parts_from, parts_from-push, last_end-push, ordered_push, slice_range-rest, held_parts}
use Rattle.jl_io.proofs.mem_shelf.MemShelfShelf.turn.Goals as goal
use Rattle.jl_io.proofs.mem_shelf.MemShelfShelf.turn.Goals.{then-fails-via-then-fails, then-fails-via-else-fails+then-len-self}

pub returns-then-fails-clause-fails : goal.returns-then-fails-clause-fails
returns-then-fails-clause-fails c =
    let shelf = c.args.self.now in
    let parts = parts_from 0 shelf.ends.items shelf.bytes.items in
    elim c.then-fails.branch [
      | then-fails-via-then-fails w ↦ sym (or_left _ _ (sym c.is_next_to_fail-fails.ensures.answer ∙ w.if-fails.true))
      | then-fails-via-else-fails+then-len-self w ↦ sym (or_right _ _ (eq-eqb (length parts) shelf.turns (omega (arith, length-parts_from 0 shelf.ends.items shelf.bytes.items, shelf.ends.ok.0, w.len.ensures, w.if-len-self.true))))
    ]

pub invariant_of-self-2 : goal.invariant_of-self-2
invariant_of-self-2 c =
    let shelf = c.args.self.now in
    record {
      begun = sym (ap (last_end 0) c.push_reserved.ensures.items ∙ last_end-push 0 shelf.ends.items c.len-end.result);
      ordered = ap (are_ordered 0) c.push_reserved.ensures.items ∙ ordered_push 0 shelf.ends.items c.len-end.result shelf.ordered (omega (arith, shelf.begun, shelf.within));
      within = omega arith;
      takes_some = omega arith;
      in_room = omega arith;
      has_room = omega arith;
      in_turns = omega arith;
      has_turns = omega arith;
    }

-- the part under way is the one that ends at the last byte
pub returns-clause-turns : goal.returns-clause-turns
returns-clause-turns c =
    let shelf = c.args.self.now in
    let ends = shelf.ends.items in
    let bytes = shelf.bytes.items in
    let end = c.len-end.result in
    let whole : end ≡ length bytes = omega (arith, shelf.bytes.ok.0) in
    let part : slice_range bytes (last_end 0 ends) end ≡ drop shelf.start bytes =
    ap (λ (last : ℕ). slice_range bytes last end) (sym shelf.begun) ∙ ap (λ (last : ℕ). slice_range bytes shelf.start last) whole ∙ slice_range-rest bytes shelf.start in
    held_parts _ _ _ _
    (ap (λ (all : List ℕ). parts_from 0 all bytes) c.push_reserved.ensures.items ∙ parts_from-push 0 ends bytes end ∙ ap (λ (last : List ℕ). parts_from 0 ends bytes ++ last ∷ []) part)
    (drop_all end bytes (omega arith))

pub returns-clause-fails : goal.returns-clause-fails
returns-clause-fails c =
    let shelf = c.args.self.now in
    let parts = parts_from 0 shelf.ends.items shelf.bytes.items in
    sym (or_from _ _ (sym c.is_next_to_fail-fails.ensures.answer ∙ c.if-fails.false) (ne_eqb (length parts) shelf.turns (λ e. c.if-len-self.false (omega (arith, length-parts_from 0 shelf.ends.items shelf.bytes.items, shelf.ends.ok.0)))))
