-- An item is refused exactly where it is too wide.
use Rattle.std.proofs.Common.{◌≡◌, ℕ, ◌^◌, ◌||◌, ◌&&◌, Bool, true, false, List, [], ◌∷◌, ◌++◌, length, reverse, Option, Some, None, is_none, Result, Ok, Err, nat_lt, refl, ap, ◌∙◌, subst, arith, length-append}
use Rattle.jl_encoding.specs.Limits.{most_item_bytes}
use Rattle.std.proofs.lemmas.Bool.{ltb-false, lt-ltb}
use Rattle.jl_base.specs.Terms.{Item}
use Rattle.jl_rows.specs.declared.row.Table.{Table}
use Rattle.jl_rows.specs.Written.{StreamOptions, Row}
use Rattle.jl_rows.specs.History.{History}
use Rattle.jl_rows.specs.Decoder.{size_of}
use Rattle.jl_spell.specs.Frames.{body_of}
use Rattle.jl_encoding.specs.Slots.{Refusal, State}
use Rattle.jl_encoding.specs.Items.{start, item_rows}
use Rattle.jl_encoding.specs.Wide.{different, asked_by_item, is_crowded, is_long, is_too_wide}
use Rattle.jl_encoding.proofs.FitLaws.{FitsTables, HasRows, item_fits}
use Rattle.jl_encoding.proofs.ExactSteps.{Crowds, crowds}
use Rattle.jl_encode.specs.Desks.{Desk, next_place, is_overfull}
use Rattle.jl_encode.specs.Putting.{Step, Lasts, put_item, item_bytes, is_refused}
use Rattle.jl_encode.specs.Standing.{Agrees}
use Rattle.jl_encode.specs.InStep.{RefusedAreTooWide}
use Rattle.jl_encode.proofs.Places.{shifted}
use Rattle.jl_encode.proofs.TableSteps.{next_is}
use Rattle.jl_encode.proofs.Along.{entry_text, Along, body_behind}
use Rattle.jl_encode.proofs.RowSteps.{put_row, rows_of, rows_in, rows_are}
use Rattle.jl_encode.proofs.ItemsInStep.{row_along, bytes_are}
use Rattle.jl_encode.proofs.HiddenSteps.{item_exactly}

-- an item without rows has a crowded table
crowded : (o : StreamOptions) (H : History) (i : Item) (e : Refusal) → item_rows o H i ≡ Err e → (a b c long : Bool) → is_crowded o H i Table.Name ≡ a → is_crowded o H i Table.Prefix ≡ b → is_crowded o H i Table.Datatype ≡ c → (a || (b || (c || long))) ≡ true
crowded o H i e none true b c long names prefixes datatypes = refl
crowded o H i e none false true c long names prefixes datatypes = refl
crowded o H i e none false false true long names prefixes datatypes = refl
crowded o H i e none false false false long names prefixes datatypes =
    let has : HasRows o H i = item_fits o H i fits in
    let are = has.are in
    absurd (cc)
  where
    fits : FitsTables o H i
    fits Table.Name = ltb-false (size_of o Table.Name) (different (asked_by_item Table.Name i H)) names
    fits Table.Prefix = ltb-false (size_of o Table.Prefix) (different (asked_by_item Table.Prefix i H)) prefixes
    fits Table.Datatype = ltb-false (size_of o Table.Datatype) (different (asked_by_item Table.Datatype i H)) datatypes

by_long : (a b c long : Bool) → long ≡ true → (a || (b || (c || long))) ≡ true
by_long true b c long h = refl
by_long false true c long h = refl
by_long false false true long h = refl
by_long false false false long h = h

pub none_is_wide : (o : StreamOptions) (H : History) (D : Desk) (L : Lasts) (i : Item) → Agrees o H D L → put_item i L D ≡ None → is_too_wide o H i ≡ true
none_is_wide o H D L i agrees none = by_row (put_row o H i) refl (subst (λ (x : Option (Step Row)). Along o H (start H) x (put_row o H i)) none (row_along o H D L agrees i))
  where
    by_row : (r : Result (Row × State) Refusal) → put_row o H i ≡ r → Along {A = Row} o H (start H) None r → is_too_wide o H i ≡ true
    by_row (Ok r) was w =
        let are : item_rows o H i ≡ Ok (rows_of r) = rows_are o H i ∙ ap rows_in was in
        let bytes = ap length (body_behind r.0 r.1.entries) in
        let long : nat_lt most_item_bytes (length (body_of (reverse (rows_of r)))) ≡ true = lt-ltb most_item_bytes (length (body_of (reverse (rows_of r)))) (omega (arith, w, bytes, length-append (entry_text r.1) (body_of (r.0 ∷ [])))) in
        by_long (is_crowded o H i Table.Name) (is_crowded o H i Table.Prefix) (is_crowded o H i Table.Datatype) (is_long (item_rows o H i)) (ap is_long are ∙ long)
    by_row (Err e) was w = crowded o H i e (rows_are o H i ∙ ap rows_in was) (is_crowded o H i Table.Name) (is_crowded o H i Table.Prefix) (is_crowded o H i Table.Datatype) (is_long (item_rows o H i)) refl refl refl

shifted_none : (k : Option ℕ) → is_none (shifted k) ≡ is_none k
shifted_none None = refl
shifted_none (Some k) = refl

turned : (a b c long full : Bool) → a ≡ false → b ≡ full → c ≡ false → (a || (b || (c || long))) ≡ (long || full)
turned true b c long full x y z = absurd (cc)
turned false b true long full x y z = absurd (cc)
turned false true false true full x y z = refl
turned false true false false full x y z = y
turned false false false true full x y z = refl
turned false false false false full x y z = y

pub some_is_wide : (o : StreamOptions) (H : History) (D : Desk) (L : Lasts) (i : Item) (s : Step Row) → Agrees o H D L → put_item i L D ≡ Some s → is_too_wide o H i ≡ is_refused (Some s)
some_is_wide o H D L i s agrees put = by_row (put_row o H i) refl (subst (λ (x : Option (Step Row)). Along o H (start H) x (put_row o H i)) put (row_along o H D L agrees i))
  where
    by_row : (r : Result (Row × State) Refusal) → put_row o H i ≡ r → Along o H (start H) (Some s) r → is_too_wide o H i ≡ is_refused (Some s)
    by_row (Ok r) was w =
        let are : item_rows o H i ≡ Ok (rows_of r) = rows_are o H i ∙ ap rows_in was in
        let long : is_long (item_rows o H i) ≡ nat_lt most_item_bytes (length (item_bytes s)) = ap is_long are ∙ ap (λ (bs : List ℕ). nat_lt most_item_bytes (length bs)) (bytes_are o H D L agrees s r w) in
        let counts : Crowds o H i r.1 s.desk.hidden = crowds o H i r.1 s.desk.hidden (item_exactly o H D L agrees i s r put was) in
        let S = w.stands.tables Table.Prefix in
        let next = next_is o Table.Prefix [] s.desk.item s.desk.prefixes (r.1.entries ++ H) r.1.claims S in
        let full : is_crowded o H i Table.Prefix ≡ is_overfull s.desk =
        counts.prefixes ∙ ap (λ (f : Option ℕ). s.desk.hidden && is_none f) next ∙ ap (λ (b : Bool). s.desk.hidden && b) (shifted_none (next_place s.desk.item s.desk.prefixes)) in
        turned (is_crowded o H i Table.Name) (is_crowded o H i Table.Prefix) (is_crowded o H i Table.Datatype) (is_long (item_rows o H i)) (is_overfull s.desk) counts.names full counts.datatypes ∙ ap (λ (b : Bool). b || is_overfull s.desk) long
    by_row (Err e) was w = absurd w

pub refused_are_wide : RefusedAreTooWide
refused_are_wide o H D L i agrees = by_put (put_item i L D) refl
  where
    by_put : (x : Option (Step Row)) → put_item i L D ≡ x → is_too_wide o H i ≡ is_refused x
    by_put None put = none_is_wide o H D L i agrees put
    by_put (Some s) put = some_is_wide o H D L i s agrees put
