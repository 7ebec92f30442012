-- What an encoder still has to write.
use Rattle.std.proofs.Common.{◌≡◌, ℕ, ◌+◌, ◌==◌, ◌&&◌, Bool, true, false, nat_lt, nat_eq, List, [], ◌∷◌, ◌++◌, length, map, reverse, Option, Result, Ok, Err, if◌then◌else◌, refl, ap, sym, ◌∙◌, subst, arith, append-nil}
use Rattle.std.proofs.lemmas.Bool.{lt-ltb, and_right}
use Rattle.jl_base.specs.Results.{◌>>=◌}
use Rattle.jl_base.specs.Terms.{Item}
use Rattle.jl_base.specs.Sinks.{Held, Adds, AddsFront}
use Rattle.jl_base.specs.declared.failed.Failed.{Failed}
use Rattle.jl_base.proofs.SinkLemmas.{Adds-nil, Adds-whole}
use Rattle.jl_rows.specs.Written.{StreamOptions, Row}
use Rattle.jl_rows.specs.History.{History}
use Rattle.jl_rows.proofs.Binding.{bound}
use Rattle.jl_spell.specs.Frames.{body_of, frame_of, frames_of}
use Rattle.jl_encoding.specs.declared.form.Form.{Form}
use Rattle.jl_encoding.specs.Slots.{Refusal}
use Rattle.jl_encoding.specs.Items.{item_rows}
use Rattle.jl_encoding.specs.Encoding.{options_of, first_row, each_item, rows_of, file_of, encoding}
use Rattle.jl_encoding.specs.Handed.{under_way, left_of, last_frame, unless_empty, handed_of, handed}
use Rattle.jl_encoding.proofs.HandedLaws.{front_is_handed}
use Rattle.jl_encode.specs.Answers.{Progress, Stands, Lacks, GivesFront, is_done}

-- what is left to be written
abbrev pub left_bytes : Bool → Progress → List ℕ
left_bytes true e = []
left_bytes false e = frame_of e.body

-- an item has rows
some_rows : (o : StreamOptions) (H : History) (i : Item) (is : List Item) → each_item o H (i ∷ is) ≡ Ok [] → ⊥
unfolding each_item
some_rows o H i is e =
    let rs = bound (item_rows o H i) (λ (rs : List Row). each_item o (rs ++ H) is >>= λ (rest : List (List Row)). Ok (reverse rs ∷ rest)) [] e in
    let rest = bound (each_item o (rs.value ++ H) is) (λ (rest : List (List Row)). Ok (reverse rs.value ∷ rest)) [] rs.then in
    let never = rest.then in
    cc

no_rows : (o : StreamOptions) (H : History) (r : List Row) (rss : List (List Row)) → each_item o H [] ≡ Ok (r ∷ rss) → ⊥
unfolding each_item
no_rows o H r rss e = cc

pub left_is : (form : Form) (per : ℕ) (is : List Item) (rss : List (List Row)) (e : Progress) → rows_of form is ≡ Ok rss → e.desk.item ≡ length is + 1 → e.body ≡ body_of (left_of form per rss).rows → e.count ≡ (left_of form per rss).count
    → frames_of (map body_of (last_frame form per rss)) ≡ left_bytes (is_done e) e
unfolding under_way
left_is form per [] [] e are number body count =
    let first : nat_lt 1 e.desk.item ≡ false = ap (nat_lt 1) number in
    let whole : frame_of (body_of (first_row form ∷ [])) ++ [] ≡ frame_of e.body = append-nil (frame_of (body_of (first_row form ∷ []))) ∙ ap frame_of (sym body) in
    whole ∙ ap (λ (b : Bool). left_bytes b e) (sym (and_right (e.count == 0) (nat_lt 1 e.desk.item) first))
left_is form per [] (r ∷ rss) e are number body count = absurd (no_rows (options_of form) (first_row form ∷ []) r rss are)
left_is form per (i ∷ is) [] e are number body count = absurd (some_rows (options_of form) (first_row form ∷ []) i is are)
left_is form per (i ∷ is) (r ∷ rss) e are number body count = by_count ((left_of form per (r ∷ rss)).count == 0) refl
  where
    some : nat_lt 1 e.desk.item ≡ true
    some = lt-ltb 1 e.desk.item (omega (arith, number))

    same : (b : Bool) → (nat_eq (left_of form per (r ∷ rss)).count 0) ≡ b → is_done e ≡ b
    same b h = let c : nat_eq e.count 0 ≡ b = ap (λ (n : ℕ). nat_eq n 0) count ∙ h in rw (c, some) (by_bool b)
      where
        by_bool : (b : Bool) → (b && true) ≡ b
        by_bool true = refl
        by_bool false = refl

    by_count : (b : Bool) → (nat_eq (left_of form per (r ∷ rss)).count 0) ≡ b → frames_of (map body_of (unless_empty (left_of form per (r ∷ rss)))) ≡ left_bytes (is_done e) e
    by_count true h =
        ap (λ (c : Bool). frames_of (map body_of (if c then [] else ((left_of form per (r ∷ rss)).rows ∷ [])))) h
        ∙ ap (λ (c : Bool). left_bytes c e) (sym (same true h))
    by_count false h =
        ap (λ (c : Bool). frames_of (map body_of (if c then [] else ((left_of form per (r ∷ rss)).rows ∷ [])))) h
        ∙ append-nil (frame_of (body_of (left_of form per (r ∷ rss)).rows)) ∙ ap frame_of (sym body)
        ∙ ap (λ (c : Bool). left_bytes c e) (sym (same false h))

module _ (e : Progress) (is : List Item) (stands : Stands e is) where
  lacks : Lacks e is (left_bytes (is_done e) e)
  unfolding handed encoding
  lacks = record {
    before = handed_of e.form e.per stands.rows;
    was = ap (λ (r : Result (List (List Row)) Refusal). r >>= λ (rss : List (List Row)). Ok (handed_of e.form e.per rss)) stands.are;
    whole =
        ap (λ (r : Result (List (List Row)) Refusal). r >>= λ (rss : List (List Row)). Ok (file_of e.form e.per rss)) stands.are
        ∙ ap Ok (front_is_handed e.form e.per stands.rows ∙ ap (λ (xs : List ℕ). handed_of e.form e.per stands.rows ++ xs) (left_is e.form e.per is stands.rows e stands.are stands.number stands.body stands.count));
  }

  pub nothing_left : (held held' : Option Held) → is_done e ≡ true → held' ≡ held → (bytes : List ℕ) × Lacks e is bytes × Adds held held' bytes
  nothing_left held held' done same = ([], subst (λ (b : Bool). Lacks e is (left_bytes b e)) done lacks, subst (λ (h : Option Held). Adds held h []) (sym same) (Adds-nil held))

  pub frame_left : (held held' : Option Held) (u : Unit {0}) → is_done e ≡ false → AddsFront {E = Failed} held held' (frame_of e.body) (Ok u) → (bytes : List ℕ) × Lacks e is bytes × Adds held held' bytes
  frame_left held held' u done adds = (frame_of e.body, subst (λ (b : Bool). Lacks e is (left_bytes b e)) done lacks, Adds-whole held held' (frame_of e.body) u adds)

  pub front_left : (held held' : Option Held) (f : Failed) → is_done e ≡ false → AddsFront {T = Unit {0}} held held' (frame_of e.body) (Err f) → (bytes : List ℕ) × Lacks e is bytes × GivesFront bytes held held'
  front_left held held' f done adds = (frame_of e.body, subst (λ (b : Bool). Lacks e is (left_bytes b e)) done lacks, record { given = adds.done; rest = adds.rest; split = adds.split; adds = adds.adds })
