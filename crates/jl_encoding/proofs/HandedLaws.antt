-- Frames as they are handed on, item by item.
use Rattle.std.proofs.Common.{◌≡◌, ℕ, suc, ◌+◌, Bool, true, false, List, [], ◌∷◌, ◌++◌, length, map, reverse, Some, None, Result, Ok, Err, if◌then◌else◌, refl, ap, ◌∙◌, arith}
use Rattle.std.proofs.lemmas.List.{map-append}
use Rattle.std.proofs.lemmas.List.Concat.{flat_map-append}
use Rattle.jl_base.specs.Results.{◌>>=◌}
use Rattle.jl_base.specs.Terms.{Item}
use Rattle.jl_rows.specs.Written.{StreamOptions, Row}
use Rattle.jl_rows.specs.History.{History}
use Rattle.jl_rows.proofs.Binding.{bound}
use Rattle.jl_spell.specs.Frames.{body_of, frame_of, frames_of}
use Rattle.jl_encoding.specs.Slots.{Refusal}
use Rattle.jl_encoding.specs.Items.{item_rows, with_items}
use Rattle.jl_encoding.specs.Wide.{is_too_wide, where_answered, wide_from}
use Rattle.jl_encoding.specs.Encoding.{options_of, first_row, each_item, is_ended, cut}
use Rattle.jl_encoding.specs.Handed.{ended, under_way, ended_of, unless_empty, last_frame, ended_by, behind, RowsEndFrames, RowsGoUnderWay, MoreIsHanded, FramesAreHanded, FrontIsHanded, MoreRows, MoreHistory, MoreWidth, NarrowHaveRows}
use Rattle.jl_encoding.proofs.FileLaws.{onto, all_of, each_with}
use Rattle.jl_encoding.proofs.EncodingLaws.{each_next, narrow_items}

pub rows_end_frames : RowsEndFrames
unfolding ended under_way
rows_end_frames per count rows [] rs = refl
rows_end_frames per count rows (qs ∷ rss) rs = by_end (is_ended per (count + 1) (rows ++ qs)) (rows_end_frames per 0 [] rss rs) (rows_end_frames per (count + 1) (rows ++ qs) rss rs)
  where
    by_end : (b : Bool) → ended per 0 [] (rss ++ rs ∷ []) ≡ ended per 0 [] rss ++ ended_by per (under_way per 0 [] rss) rs
        → ended per (count + 1) (rows ++ qs) (rss ++ rs ∷ []) ≡ ended per (count + 1) (rows ++ qs) rss ++ ended_by per (under_way per (count + 1) (rows ++ qs) rss) rs
        → (if b then ((rows ++ qs) ∷ ended per 0 [] (rss ++ rs ∷ [])) else ended per (count + 1) (rows ++ qs) (rss ++ rs ∷ []))
        ≡ (if b then ((rows ++ qs) ∷ ended per 0 [] rss) else ended per (count + 1) (rows ++ qs) rss) ++ ended_by per (if b then under_way per 0 [] rss else under_way per (count + 1) (rows ++ qs) rss) rs
    by_end true fresh on = ap (λ (frames : List (List Row)). (rows ++ qs) ∷ frames) fresh
    by_end false fresh on = on

pub rows_go_under_way : RowsGoUnderWay
unfolding under_way
rows_go_under_way per count rows [] rs = refl
rows_go_under_way per count rows (qs ∷ rss) rs = by_end (is_ended per (count + 1) (rows ++ qs)) (rows_go_under_way per 0 [] rss rs) (rows_go_under_way per (count + 1) (rows ++ qs) rss rs)
  where
    by_end : (b : Bool) → under_way per 0 [] (rss ++ rs ∷ []) ≡ behind per (under_way per 0 [] rss) rs
        → under_way per (count + 1) (rows ++ qs) (rss ++ rs ∷ []) ≡ behind per (under_way per (count + 1) (rows ++ qs) rss) rs
        → (if b then under_way per 0 [] (rss ++ rs ∷ []) else under_way per (count + 1) (rows ++ qs) (rss ++ rs ∷ [])) ≡ behind per (if b then under_way per 0 [] rss else under_way per (count + 1) (rows ++ qs) rss) rs
    by_end true fresh on = fresh
    by_end false fresh on = on

-- bytes of frames behind others
pub frames_append : (fs gs : List (List Row)) → frames_of (map body_of (fs ++ gs)) ≡ frames_of (map body_of fs) ++ frames_of (map body_of gs)
frames_append fs gs = ap frames_of (map-append body_of fs gs) ∙ flat_map-append (λ (b : List ℕ). frame_of b) (map body_of fs) (map body_of gs)

pub more_is_handed : MoreIsHanded
more_is_handed form per rss rs =
    ap (λ (fs : List (List Row)). frames_of (map body_of fs)) (rows_end_frames per 0 (first_row form ∷ []) rss rs) ∙ frames_append (ended_of form per rss) (ended_by per (under_way per 0 (first_row form ∷ []) rss) rs)

-- behind an item, or a first row
pub cut_ends : (per count : ℕ) (rows : List Row) (rss : List (List Row)) → cut per count rows rss ≡ ended per count rows rss ++ unless_empty (under_way per count rows rss)
unfolding cut ended under_way
cut_ends per count rows [] = refl
cut_ends per count rows (rs ∷ rss) = by_end (is_ended per (count + 1) (rows ++ rs)) (cut_ends per 0 [] rss) (cut_ends per (count + 1) (rows ++ rs) rss)
  where
    by_end : (b : Bool) → cut per 0 [] rss ≡ ended per 0 [] rss ++ unless_empty (under_way per 0 [] rss)
        → cut per (count + 1) (rows ++ rs) rss ≡ ended per (count + 1) (rows ++ rs) rss ++ unless_empty (under_way per (count + 1) (rows ++ rs) rss)
        → (if b then ((rows ++ rs) ∷ cut per 0 [] rss) else cut per (count + 1) (rows ++ rs) rss)
        ≡ (if b then ((rows ++ rs) ∷ ended per 0 [] rss) else ended per (count + 1) (rows ++ rs) rss) ++ unless_empty (if b then under_way per 0 [] rss else under_way per (count + 1) (rows ++ rs) rss)
    by_end true fresh on = ap (λ (frames : List (List Row)). (rows ++ rs) ∷ frames) fresh
    by_end false fresh on = on

pub frames_are_handed : FramesAreHanded
unfolding ended
frames_are_handed form per [] = refl
frames_are_handed form per (rs ∷ rss) = cut_ends per 0 (first_row form ∷ []) (rs ∷ rss)

pub front_is_handed : FrontIsHanded
front_is_handed form per rss = ap (λ (fs : List (List Row)). frames_of (map body_of fs)) (frames_are_handed form per rss) ∙ frames_append (ended_of form per rss) (last_frame form per rss)

-- an item behind others, behind any history
module _ (o : StreamOptions) (i : Item) where
  pub history_more : (H K : History) (is : List Item) (rs : List Row) → with_items o H is ≡ Ok K → item_rows o K i ≡ Ok rs → with_items o H (is ++ i ∷ []) ≡ Ok (rs ++ K)
  unfolding with_items
  history_more H K [] rs e here = let same : H ≡ K = cc in rw (same, here) refl
  history_more H K (j ∷ is) rs e here =
      let first = bound (item_rows o H j) (λ (qs : List Row). with_items o (qs ++ H) is) K e in
      let was = first.was in
      rw was (history_more (first.value ++ H) K is rs first.then here)

  pub rows_more : (H K : History) (is : List Item) (rss : List (List Row)) (rs : List Row) → each_item o H is ≡ Ok rss → with_items o H is ≡ Ok K → item_rows o K i ≡ Ok rs → each_item o H (is ++ i ∷ []) ≡ Ok (rss ++ reverse rs ∷ [])
  unfolding each_item with_items
  rows_more H K [] rss rs e f here =
      let same : H ≡ K = cc in
      let none : [] ≡ rss = cc in
      rw (same, here) (ap (λ (qss : List (List Row)). Ok (qss ++ reverse rs ∷ [])) none)
  rows_more H K (j ∷ is) rss rs e f here =
      let first = bound (item_rows o H j) (λ (qs : List Row). each_item o (qs ++ H) is >>= λ (rest : List (List Row)). Ok (reverse qs ∷ rest)) rss e in
      let rest = bound (each_item o (first.value ++ H) is) (λ (rest : List (List Row)). Ok (reverse first.value ∷ rest)) rss first.then in
      let same : reverse first.value ∷ rest.value ≡ rss = let h = rest.then in cc in
      let was = first.was in
      let goes : with_items o (first.value ++ H) is ≡ Ok K = rw was at f in
      let others = rows_more (first.value ++ H) K is rest.value rs rest.was goes here in
      each_next o H j (is ++ i ∷ []) first.value (rest.value ++ reverse rs ∷ []) was others ∙ ap (λ (qss : List (List Row)). Ok (qss ++ reverse rs ∷ [])) same

  none_behind : (n : ℕ) (r : Result (List Row) Refusal) (H : History) → where_answered r (λ rs. wide_from o (rs ++ H) n []) ≡ None
  unfolding wide_from
  none_behind n (Ok rs) H = refl
  none_behind n (Err e) H = refl

  pub width_more : (H K : History) (n : ℕ) (is : List Item) → wide_from o H n is ≡ None → with_items o H is ≡ Ok K → wide_from o H n (is ++ i ∷ []) ≡ (if is_too_wide o K i then Some (length is + n) else None)
  unfolding wide_from with_items
  width_more H K n [] none e = let same : H ≡ K = cc in rw same (by_test (is_too_wide o K i))
    where
      none_before : n ≡ 0 + n
      none_before = omega arith

      by_test : (b : Bool) → (if b then Some n else where_answered (item_rows o K i) (λ rs. wide_from o (rs ++ K) (n + 1) [])) ≡ (if b then Some (0 + n) else None)
      by_test true = ap Some none_before
      by_test false = none_behind (n + 1) (item_rows o K i) K
  width_more H K n (j ∷ is) none e =
      let first = bound (item_rows o H j) (λ (rs : List Row). with_items o (rs ++ H) is) K e in
      by_test (is_too_wide o H j) first.value first.was none (λ h. width_more (first.value ++ H) K (n + 1) is h first.then)
    where
      count : length is + (n + 1) ≡ suc (length is) + n
      count = omega arith

      by_test : (b : Bool) (rs : List Row) → item_rows o H j ≡ Ok rs → (if b then Some n else where_answered (item_rows o H j) (λ rs. wide_from o (rs ++ H) (n + 1) is)) ≡ None
          → (wide_from o (rs ++ H) (n + 1) is ≡ None → wide_from o (rs ++ H) (n + 1) (is ++ i ∷ []) ≡ (if is_too_wide o K i then Some (length is + (n + 1)) else None))
          → (if b then Some n else where_answered (item_rows o H j) (λ rs. wide_from o (rs ++ H) (n + 1) (is ++ i ∷ []))) ≡ (if is_too_wide o K i then Some (suc (length is) + n) else None)
      by_test true rs was none rest = absurd (cc)
      by_test false rs was none rest =
          let behind : wide_from o (rs ++ H) (n + 1) is ≡ None = rw was at none in
          rw was (rest behind ∙ ap (λ (k : ℕ). if is_too_wide o K i then Some k else None) count)

pub more_rows : MoreRows
more_rows form is i rss H rs rows behind here = rows_more (options_of form) i (first_row form ∷ []) H is rss rs rows behind here

pub more_history : MoreHistory
more_history form is i H rs behind here = history_more (options_of form) i (first_row form ∷ []) H is rs behind here

pub more_width : MoreWidth
more_width form is i H none behind = width_more (options_of form) i (first_row form ∷ []) H 1 is none behind

pub narrow_have_rows : NarrowHaveRows
narrow_have_rows form is none =
    let H = first_row form ∷ [] in
    let found = narrow_items (options_of form) H 1 is none in
    (found.rss, onto (all_of found.rss) H, found.are, each_with (options_of form) H is found.rss found.are)
