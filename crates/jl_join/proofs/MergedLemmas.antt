-- One file more, after those that are merged.
use Rattle.std.proofs.Common.{◌≡◌, ℕ, ◌+◌, Bool, List, [], ◌∷◌, ◌++◌, length, map, refl, sym, ap, ◌∙◌, arith, append_assoc}
use Rattle.std.proofs.lemmas.List.{append-nil}
use Rattle.jl_base.specs.Terms.{Item}
use Rattle.jl_join.specs.Merging.{joined_item, merged_from, merged}

one_more : (is_quads : Bool) (k : ℕ) (files : List (List Item)) (file : List Item)
    → merged_from is_quads k (files ++ file ∷ []) ≡ merged_from is_quads k files ++ map (joined_item is_quads (k + length files)) file
unfolding merged_from
one_more is_quads k [] file =
    let count : k ≡ k + 0 = omega arith in
    append-nil (map (joined_item is_quads k) file) ∙ ap (λ (n : ℕ). map (joined_item is_quads n) file) count
one_more is_quads k (first ∷ files) file =
    let count : k + 1 + length files ≡ k + length (first ∷ files) = omega arith in
    ap (λ (items : List Item). map (joined_item is_quads k) first ++ items)
    (one_more is_quads (k + 1) files file ∙ ap (λ (n : ℕ). merged_from is_quads (k + 1) files ++ map (joined_item is_quads n) file) count)
    ∙ sym (append_assoc (map (joined_item is_quads k) first) (merged_from is_quads (k + 1) files) (map (joined_item is_quads (k + length (first ∷ files))) file))

pub next_file : (is_quads : Bool) (files : List (List Item)) (file : List Item)
    → merged is_quads (files ++ file ∷ []) ≡ merged is_quads files ++ map (joined_item is_quads (length files + 1)) file
next_file is_quads files file =
    let count : 1 + length files ≡ length files + 1 = omega arith in
    one_more is_quads 1 files file ∙ ap (λ (n : ℕ). merged is_quads files ++ map (joined_item is_quads n) file) count

pub no_files : (is_quads : Bool) → merged is_quads [] ≡ []
unfolding merged_from
no_files is_quads = refl
