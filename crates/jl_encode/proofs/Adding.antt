-- An encoder behind one more item.
use Rattle.std.proofs.Common.{◌≡◌, ℕ, ◌+◌, Bool, true, false, List, [], ◌∷◌, ◌++◌, length, map, reverse, Option, Some, None, Result, Ok, Err, if◌then◌else◌, refl, ap, sym, ◌∙◌, subst, arith, append-nil, length-append}
use Rattle.std.specs.List.{AllByRecursion}
use Rattle.std.proofs.lemmas.List.Concat.{flat_map-append}
use Rattle.jl_base.specs.Results.{◌>>=◌}
use Rattle.jl_base.specs.Terms.{Item}
use Rattle.jl_base.specs.Sinks.{Held, Adds}
use Rattle.jl_base.specs.declared.failed.Failed.{Failed}
use Rattle.jl_base.proofs.SinkLemmas.{Adds-nil, Adds-whole}
use Rattle.jl_rows.specs.Written.{Row}
use Rattle.jl_spell.specs.Fields.{Bytes, field_of}
use Rattle.jl_spell.specs.Rows.{row_of}
use Rattle.jl_spell.specs.Frames.{body_of, frame_of, frames_of}
use Rattle.jl_encoding.specs.Slots.{Refusal}
use Rattle.jl_encoding.specs.Items.{Fits}
use Rattle.jl_encoding.specs.Proper.{IsProperItem}
use Rattle.jl_encoding.specs.Encoding.{options_of, first_row, rows_of, is_ended, wide}
use Rattle.jl_encoding.specs.Handed.{UnderWay, ended_by, left_of, handed_of, handed}
use Rattle.jl_encoding.specs.Handed as further
use Rattle.jl_encoding.proofs.HandedLaws.{rows_go_under_way, more_is_handed, more_rows, more_history, more_width}
use Rattle.jl_encoding.proofs.ProperLaws.{items_tags}
use Rattle.jl_encode.specs.Desks.{Desk, for_next}
use Rattle.jl_encode.specs.Putting.{Step, put_item, lasts_behind, item_bytes, is_refused, NextPut}
use Rattle.jl_encode.specs.InStep.{GivesRows}
use Rattle.jl_encode.specs.Answers.{Progress, Stands, IsTooWide, Grows, with_item, is_full, ends_frame, counted, with_spent, HandsFrame, GivesFront}
use Rattle.jl_encode.proofs.ItemsInStep.{steps_are_rows}
use Rattle.jl_encode.proofs.Refusals.{refused_are_wide}
use Rattle.jl_encode.proofs.NumberSteps.{Keeps, item_keeps}

all_append : (P : Item → Type 0) (is : List Item) (i : Item) → AllByRecursion P is → P i → AllByRecursion P (is ++ i ∷ [])
all_append P [] i all here = (here, tt)
all_append P (x ∷ is) i all here = (all.0, all_append P is i all.1 here)

-- an item too many
module _ (e : Progress) (is : List Item) (i : Item) (stands : Stands e is) where
  width : wide e.form (is ++ i ∷ []) ≡ (if is_refused (put_item i e.lasts e.desk) then Some (length is + 1) else None)
  width = more_width e.form is i stands.history stands.narrow stands.behind ∙ ap (λ (b : Bool). if b then Some (length is + 1) else None) (refused_are_wide (options_of e.form) stands.history e.desk e.lasts i stands.agrees)

  pub refused : is_refused (put_item i e.lasts e.desk) ≡ true → IsTooWide e is i e.desk.item
  refused h = let n = stands.number in (width ∙ ap (λ (b : Bool). if b then Some (length is + 1) else None) h ∙ ap Some (sym n), n)

  module _ (s : Step Row) (put : put_item i e.lasts e.desk ≡ Some s) (fits : is_refused (Some s) ≡ false) where
    pub still_narrow : wide e.form (is ++ i ∷ []) ≡ None
    still_narrow = width ∙ ap (λ (b : Bool). if b then Some (length is + 1) else None) (ap is_refused put ∙ fits)

    module _ (here : Fits (options_of e.form) i) (proper : IsProperItem i) where
      gives : GivesRows (options_of e.form) stands.history i e.lasts e.desk s
      gives = steps_are_rows (options_of e.form) stands.history e.desk e.lasts i s stands.agrees ((items_tags (i ∷ []) (proper, tt)).0) put

      abbrev rs : List Row
      rs = reverse gives.rows

      abbrev u : UnderWay
      u = left_of e.form e.per stands.rows

      now_are : rows_of e.form (is ++ i ∷ []) ≡ Ok (stands.rows ++ rs ∷ [])
      now_are = more_rows e.form is i stands.rows stands.history gives.rows stands.are stands.behind gives.are

      body_behind : body_of (u.rows ++ rs) ≡ e.body ++ item_bytes s
      body_behind =
          flat_map-append (λ (r : Row). field_of 1 (Bytes (row_of r))) u.rows rs
          ∙ ap (λ (xs : List ℕ). xs ++ body_of rs) (sym stands.body) ∙ ap (λ (xs : List ℕ). e.body ++ xs) gives.bytes

      ends : is_ended e.per (u.count + 1) (u.rows ++ rs) ≡ is_full e.per (e.count + 1) (e.body ++ item_bytes s)
      ends = ap (λ (n : ℕ). is_ended e.per (n + 1) (u.rows ++ rs)) (sym stands.count) ∙ ap (is_full e.per (e.count + 1)) body_behind

      moves : left_of e.form e.per (stands.rows ++ rs ∷ []) ≡ further.behind e.per u rs
      moves = rows_go_under_way e.per 0 (first_row e.form ∷ []) stands.rows rs

      was_handed : (rss : List (List Row)) (js : List Item) → rows_of e.form js ≡ Ok rss → handed e.form e.per js ≡ Ok (handed_of e.form e.per rss)
      unfolding handed
      was_handed rss js are = ap (λ (r : Result (List (List Row)) Refusal). r >>= λ (rss : List (List Row)). Ok (handed_of e.form e.per rss)) are

      grows_by : (bytes : List ℕ) → frames_of (map body_of (ended_by e.per u rs)) ≡ bytes → Grows e is i bytes
      grows_by bytes ended = record {
        before = handed_of e.form e.per stands.rows;
        was = was_handed stands.rows is stands.are;
        becomes = was_handed (stands.rows ++ rs ∷ []) (is ++ i ∷ []) now_are ∙ ap Ok (more_is_handed e.form e.per stands.rows rs ∙ ap (λ (xs : List ℕ). handed_of e.form e.per stands.rows ++ xs) ended);
      }

      -- with this frame under way
      abbrev with_frame : List ℕ → ℕ → Progress
      with_frame body count = record { form = e.form; per = e.per; desk = for_next s.desk; lasts = lasts_behind i e.lasts; body = body; count = count; spent = false }

      stands_with : (body : List ℕ) (count : ℕ) (v : UnderWay) → further.behind e.per u rs ≡ v → body ≡ body_of v.rows → count ≡ v.count → Stands (with_frame body count) (is ++ i ∷ [])
      stands_with body count v is_v body_is count_is = record {
        alive = refl;
        fit = all_append (Fits (options_of e.form)) is i stands.fit here;
        proper = all_append IsProperItem is i stands.proper proper;
        narrow = still_narrow;
        history = gives.rows ++ stands.history;
        behind = more_history e.form is i stands.history gives.rows stands.behind gives.are;
        agrees = gives.agrees;
        number = let a = gives.number in let b = stands.number in let c : length (is ++ i ∷ []) ≡ length is + 1 = length-append is (i ∷ []) in omega (arith, a, b, c);
        rows = stands.rows ++ rs ∷ [];
        are = now_are;
        body = body_is ∙ ap (λ (w : UnderWay). body_of w.rows) (sym (moves ∙ is_v));
        count = count_is ∙ ap (λ (w : UnderWay). w.count) (sym (moves ∙ is_v));
      }

      frame_ended : (b : Bool) → is_ended e.per (u.count + 1) (u.rows ++ rs) ≡ b → ended_by e.per u rs ≡ (if b then ((u.rows ++ rs) ∷ []) else [])
      frame_ended b h = ap (λ (c : Bool). if c then ((u.rows ++ rs) ∷ []) else []) h

      frame_left : (b : Bool) → is_ended e.per (u.count + 1) (u.rows ++ rs) ≡ b → further.behind e.per u rs ≡ (if b then record { count = 0; rows = [] } else record { count = u.count + 1; rows = u.rows ++ rs })
      frame_left b h = ap (λ (c : Bool). let v : UnderWay = if c then record { count = 0; rows = [] } else record { count = u.count + 1; rows = u.rows ++ rs } in v) h

      -- the frame takes more items
      pub goes_on : is_full e.per (e.count + 1) (e.body ++ item_bytes s) ≡ false → Stands (with_frame (e.body ++ item_bytes s) (e.count + 1)) (is ++ i ∷ []) × Grows e is i []
      goes_on h = (
        stands_with (e.body ++ item_bytes s) (e.count + 1) (record { count = u.count + 1; rows = u.rows ++ rs }) (frame_left false (ends ∙ h)) (sym body_behind) (ap (λ (n : ℕ). n + 1) stands.count),
        grows_by [] (ap (λ (fs : List (List Row)). frames_of (map body_of fs)) (frame_ended false (ends ∙ h))),
      )

      -- the frame is ended
      pub begins_anew : is_full e.per (e.count + 1) (e.body ++ item_bytes s) ≡ true → Stands (with_frame [] 0) (is ++ i ∷ []) × Grows e is i (frame_of (e.body ++ item_bytes s))
      begins_anew h = (
        stands_with [] 0 (record { count = 0; rows = [] }) (frame_left true (ends ∙ h)) refl refl,
        grows_by (frame_of (e.body ++ item_bytes s))
            (ap (λ (fs : List (List Row)). frames_of (map body_of fs)) (frame_ended true (ends ∙ h)) ∙ append-nil (frame_of (body_of (u.rows ++ rs))) ∙ ap frame_of body_behind),
      )

-- by what the code tells of an item that was put
module _ (e : Progress) (is : List Item) (i : Item) (stands : Stands e is) (out : List ℕ) (D : Desk) where
  pub narrow_by : (step : Option (Step Row)) → put_item i e.lasts e.desk ≡ step → NextPut step e.body out D → wide e.form (is ++ i ∷ []) ≡ None
  narrow_by None put next = absurd next
  narrow_by (Some s) put next = still_narrow e is i stands s put next.0

  module _ (here : Fits (options_of e.form) i) (proper : IsProperItem i) where
    -- what the sink is to be given, and what the encoder then stands for
    abbrev pub Follows : Bool → Type 0
    Follows b = Stands (with_spent false (counted b (with_item i D out e))) (is ++ i ∷ []) × Grows e is i (if b then frame_of out else [])

    pub follows : (step : Option (Step Row)) → put_item i e.lasts e.desk ≡ step → NextPut step e.body out D → (b : Bool) → is_full e.per (e.count + 1) out ≡ b → Follows b
    follows None put next b full = absurd next
    follows (Some s) put next true full =
        let found = begins_anew e is i stands s put next.0 here proper (ap (is_full e.per (e.count + 1)) (sym next.1) ∙ full) in
        (subst (λ (d : Desk). Stands (with_spent false (counted true (with_item i d out e))) (is ++ i ∷ [])) (sym next.2) found.0, subst (λ (xs : List ℕ). Grows e is i (frame_of xs)) (sym next.1) found.1)
    follows (Some s) put next false full =
        let found = goes_on e is i stands s put next.0 here proper (ap (is_full e.per (e.count + 1)) (sym next.1) ∙ full) in (
          subst (λ (d : Desk). Stands (with_spent false (counted false (with_item i d out e))) (is ++ i ∷ [])) (sym next.2)
              (subst (λ (xs : List ℕ). Stands (with_spent false (counted false (with_item i (for_next s.desk) xs e))) (is ++ i ∷ [])) (sym next.1) found.0),
          found.1,
        )

    module _ (step : Option (Step Row)) (put : put_item i e.lasts e.desk ≡ step) (next : NextPut step e.body out D) where
      abbrev pub put_behind : Progress
      put_behind = with_item i D out (with_spent true e)

      pub hands_whole : (e1 e2 : Progress) (held held' : Option Held) (u : Unit {0}) (b : Bool) → e1 ≡ put_behind → ends_frame e1 ≡ b → HandsFrame b e1 held held' (Ok u) → e2 ≡ counted b e1
          → Stands (with_spent false e2) (is ++ i ∷ []) × ((bytes : List ℕ) × Grows e is i bytes × Adds held held' bytes)
      hands_whole e1 e2 held held' u true is_behind ended hands counts =
          let found = follows step put next true (sym (ap ends_frame is_behind) ∙ ended) in
          let body : e1.body ≡ out = ap (λ (f : Progress). f.body) is_behind in
          let after : with_spent false e2 ≡ with_spent false (counted true (with_item i D out e)) = ap (with_spent false) counts ∙ ap (λ (f : Progress). with_spent false (counted true f)) is_behind in
          (subst (λ (f : Progress). Stands f (is ++ i ∷ [])) (sym after) found.0, (frame_of out, found.1, subst (λ (xs : List ℕ). Adds held held' (frame_of xs)) body (Adds-whole held held' (frame_of e1.body) u hands)))
      hands_whole e1 e2 held held' u false is_behind ended hands counts =
          let found = follows step put next false (sym (ap ends_frame is_behind) ∙ ended) in
          let after : with_spent false e2 ≡ with_spent false (counted false (with_item i D out e)) = ap (with_spent false) counts ∙ ap (λ (f : Progress). with_spent false (counted false f)) is_behind in
          (subst (λ (f : Progress). Stands f (is ++ i ∷ [])) (sym after) found.0, ([], found.1, subst (λ (h : Option Held). Adds held h []) (sym hands.0) (Adds-nil held)))

      pub hands_front : (e1 : Progress) (held held' : Option Held) (f : Failed) (b : Bool) → e1 ≡ put_behind → ends_frame e1 ≡ b → HandsFrame b e1 held held' (Err f)
          → (wide e.form (is ++ i ∷ []) ≡ None) × ((bytes : List ℕ) × Grows e is i bytes × GivesFront bytes held held')
      hands_front e1 held held' f true is_behind ended hands =
          let found = follows step put next true (sym (ap ends_frame is_behind) ∙ ended) in
          let body : e1.body ≡ out = ap (λ (f : Progress). f.body) is_behind in
          (narrow_by step put next, (frame_of out, found.1, record { given = hands.done; rest = hands.rest; split = ap frame_of (sym body) ∙ hands.split; adds = hands.adds }))
      hands_front e1 held held' f false is_behind ended hands = let never = hands.1 in cc

-- the number of the item that comes next
counted_number : (b : Bool) (e : Progress) → (counted b e).desk.item ≡ e.desk.item
counted_number true e = refl
counted_number false e = refl

next_put_number : (n : ℕ) (step : Option (Step Row)) (out out' : List ℕ) (D : Desk) → Keeps n step → NextPut step out out' D → D.item ≡ n + 1
next_put_number n None out out' D keeps next = absurd next
next_put_number n (Some s) out out' D keeps next = ap (λ (d : Desk). d.item) next.2 ∙ ap (λ (m : ℕ). m + 1) keeps

pub number_follows : (e e1 e2 : Progress) (i : Item) (out : List ℕ) (b : Bool) → NextPut (put_item i e.lasts e.desk) e.body out e1.desk → e2 ≡ counted b e1 → e2.desk.item ≡ e.desk.item + 1
number_follows e e1 e2 i out b next counts =
    ap (λ (x : Progress). x.desk.item) counts ∙ counted_number b e1
    ∙ next_put_number e.desk.item (put_item i e.lasts e.desk) e.body out e1.desk (item_keeps e.desk.item i e.lasts e.desk refl) next
