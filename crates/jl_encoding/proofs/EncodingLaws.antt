-- The file of proper items is decoded to these items.
use Rattle.std.proofs.Common.{◌≡◌, ℕ, Bool, true, false, reverse, nat_lt, Some, Result, if◌then◌else◌, ◌+◌, ◌++◌, ◌<◌, ◌≤◌, ◌^◌, List, [], ◌∷◌, length, map, None, Ok, refl, ap, sym, ◌∙◌, subst, arith}
use Rattle.jl_encoding.specs.Limits.{most_item_bytes}
use Rattle.std.specs.List.{AllByRecursion}
use Rattle.std.proofs.lemmas.Bool.{ltb-false, or_parts}
use Rattle.std.proofs.lemmas.Str.{is_utf8-from_IsUtf8, IsUtf8-nil}
use Rattle.jl_base.specs.Results.{◌>>=◌, Reading}
use Rattle.jl_base.specs.Terms.{Item}
use Rattle.jl_base.specs.declared.kind.Kind.{Kind}
use Rattle.jl_base.specs.declared.place.Fault.{Fault}
use Rattle.jl_rows.specs.declared.row.Table.{Table}
use Rattle.jl_rows.specs.Written.{StreamOptions, Row}
use Rattle.jl_rows.specs.History.{History}
use Rattle.jl_rows.specs.Files.{Placed, most_body, all_rows, rows_from}
use Rattle.jl_rows.specs.Decoder.{head_checked, first_row_checked, decoded, head_of, held_to, decoded_under, head, decode}
use Rattle.jl_spell.specs.Varints.{varint_within, varint_of}
use Rattle.jl_spell.specs.Fields.{field_of}
use Rattle.jl_spell.specs.Messages.{message_of}
use Rattle.jl_spell.specs.Rows.{IsRow, row_of}
use Rattle.jl_spell.specs.Frames.{body_of}
use Rattle.jl_spell.proofs.FrameLaws.{frames_back}
use Rattle.jl_encoding.specs.declared.form.Form.{Form}
use Rattle.jl_encoding.specs.Slots.{Refusal}
use Rattle.jl_encoding.specs.Items.{item_rows, stated_by, under, AllowsAll}
use Rattle.jl_encoding.specs.Proper.{IsProperItem}
use Rattle.jl_encoding.specs.Wide.{is_crowded, is_long, is_too_wide, where_answered, wide_from}
use Rattle.jl_encoding.specs.Encoding.{options_of, first_row, each_item, framed, file_of, encoding, EncodingsDecode, FramesAreShort}
use Rattle.jl_encoding.proofs.ItemLaws.{items_stated}
use Rattle.jl_encoding.proofs.FitLaws.{FitsTables, item_fits}
use Rattle.jl_encoding.proofs.WideLaws.{tables_fit}
use Rattle.jl_encoding.proofs.FileLaws.{onto, all_of, row_of_place, each_with, decodes}
use Rattle.jl_encoding.proofs.CutLaws.{AreRows, IsFrame, IsNarrow, IsGood, framed_all, framed_frames, frames_places}
use Rattle.jl_encoding.proofs.ProperLaws.{AreSmall, each_put, items_tags}

first_is_row : (form : Form) → IsRow (first_row form)
first_is_row Form.Triples = record { stream_name = is_utf8-from_IsUtf8 [] IsUtf8-nil; physical = omega arith; names = omega arith; prefixes = omega arith; datatypes = omega arith; logical = omega arith; version = omega arith; not_strict = refl }
first_is_row Form.Quads = record { stream_name = is_utf8-from_IsUtf8 [] IsUtf8-nil; physical = omega arith; names = omega arith; prefixes = omega arith; datatypes = omega arith; logical = omega arith; version = omega arith; not_strict = refl }

first_is_short : (form : Form) → length (body_of (first_row form ∷ [])) < 2 ^ 24
unfolding row_of message_of field_of varint_of varint_within
first_is_short Form.Triples = omega arith
first_is_short Form.Quads = omega arith

first_states_nothing : (strict : Bool) (form : Form) → stated_by (under strict (options_of form)) (first_row form ∷ []) ≡ Ok []
unfolding stated_by
first_states_nothing true Form.Triples = refl
first_states_nothing true Form.Quads = refl
first_states_nothing false Form.Triples = refl
first_states_nothing false Form.Quads = refl

none_stated : (o : StreamOptions) → stated_by o [] ≡ Ok []
unfolding stated_by
none_stated o = refl

all_allowed : (form : Form) → AllowsAll (options_of form)
all_allowed form = record { generalized = refl; star = refl; later = refl }

sizes_are_small : (form : Form) → AreSmall (options_of form)
sizes_are_small form Table.Name = omega arith
sizes_are_small form Table.Prefix = omega arith
sizes_are_small form Table.Datatype = omega arith

-- a file that begins with the options row
under_first : (strict : Bool) (form : Form) (ps : List Placed) (rs : List Row) → map row_of_place ps ≡ first_row form ∷ rs → decoded_under (held_to strict (head_of ps None)) ps None ≡ decoded (under strict (options_of form)) [] ps None
under_first strict form [] rs same = cc
under_first strict form (p ∷ ps) rs same = by_form strict form (let first : p.row ≡ first_row form = cc in first)
  where
    by_form : (strict : Bool) (form : Form) → p.row ≡ first_row form → decoded_under (held_to strict (head_of (p ∷ ps) None)) (p ∷ ps) None ≡ decoded (under strict (options_of form)) [] (p ∷ ps) None
    by_form true Form.Triples first = ap (λ (r : Row). decoded_under (held_to true (head_checked p.place (first_row_checked r))) (p ∷ ps) None) first
    by_form true Form.Quads first = ap (λ (r : Row). decoded_under (held_to true (head_checked p.place (first_row_checked r))) (p ∷ ps) None) first
    by_form false Form.Triples first = ap (λ (r : Row). decoded_under (head_checked p.place (first_row_checked r)) (p ∷ ps) None) first
    by_form false Form.Quads first = ap (λ (r : Row). decoded_under (head_checked p.place (first_row_checked r)) (p ∷ ps) None) first

decode_by : (strict : Bool) (form : Form) (file : List ℕ) (ps : List Placed) (rs : List Row) → all_rows file ≡ record { items = ps; fault = None } → map row_of_place ps ≡ first_row form ∷ rs → decode strict file ≡ decoded (under strict (options_of form)) [] ps None
unfolding decode head
decode_by strict form file ps rs are same = ap (λ (R : Reading Placed Fault). decoded_under (held_to strict (head_of R.items R.fault)) R.items R.fault) are ∙ under_first strict form ps rs same

short_frames : (rss : List (List Row)) → AllByRecursion IsFrame rss → AllByRecursion (λ b. length b ≤ most_body) (map body_of rss)
short_frames [] all = tt
short_frames (rs ∷ rss) all = (let short = all.0.short in omega (arith, short), short_frames rss all.1)

good : (rss : List (List Row)) → AllByRecursion AreRows rss → AllByRecursion IsNarrow rss → AllByRecursion IsGood rss
good [] rows narrow = tt
good (rs ∷ rss) rows narrow = (record { rows = rows.0; narrow = narrow.0 }, good rss rows.1 narrow.1)

file_decodes : (strict : Bool) (form : Form) (per : ℕ) (is : List Item) (rss : List (List Row)) → AllByRecursion IsFrame (framed form per rss) → stated_by (under strict (options_of form)) (onto (all_of rss) (first_row form ∷ [])) ≡ Ok is → decode strict (file_of form per rss) ≡ record { items = is; fault = None }
file_decodes strict form per is rss frames_are stated =
    let o = under strict (options_of form) in
    let file = file_of form per rss in
    let bodies = map body_of (framed form per rss) in
    let back = frames_back bodies (short_frames (framed form per rss) frames_are) in
    let places = frames_places 1 (framed form per rss) frames_are in
    let are : all_rows file ≡ record { items = places.items; fault = None } = ap (λ (R : Reading (List ℕ) Kind). rows_from 1 R.items R.fault) back ∙ places.are in
    let rows : map row_of_place places.items ≡ first_row form ∷ all_of rss = places.rows ∙ framed_all form per rss in
    let whole : stated_by o (onto (map row_of_place places.items) []) ≡ Ok is = ap (λ (rs : List Row). stated_by o (onto rs [])) rows ∙ stated in
    let found = decodes o places.items [] [] is (none_stated o) whole in
    decode_by strict form file places.items (all_of rss) are rows ∙ found.says ∙ ap (λ (xs : List Item). record { items = xs; fault = None }) (sym found.all)

-- items with rows that are narrow
pub record Narrow (o : StreamOptions) (H : History) (is : List Item) : Type 0 where
  pub rss : List (List Row)
  pub are : each_item o H is ≡ Ok rss
  pub narrow : AllByRecursion IsNarrow rss

pub each_next : (o : StreamOptions) (H : History) (i : Item) (is : List Item) (rs : List Row) (rest : List (List Row)) → item_rows o H i ≡ Ok rs → each_item o (rs ++ H) is ≡ Ok rest → each_item o H (i ∷ is) ≡ Ok (reverse rs ∷ rest)
unfolding each_item
each_next o H i is rs rest first others = rw (first, others) refl

pub narrow_items : (o : StreamOptions) (H : History) (n : ℕ) (is : List Item) → wide_from o H n is ≡ None → Narrow o H is
unfolding wide_from each_item
narrow_items o H n [] none = record { rss = []; are = refl; narrow = tt }
narrow_items o H n (i ∷ is) none = by_test (is_too_wide o H i) refl none (λ rs h. narrow_items o (rs ++ H) (n + 1) is h)
  where
    by_test : (b : Bool) → is_too_wide o H i ≡ b → (if b then Some n else where_answered (item_rows o H i) (λ rs. wide_from o (rs ++ H) (n + 1) is)) ≡ None → ((rs : List Row) → wide_from o (rs ++ H) (n + 1) is ≡ None → Narrow o (rs ++ H) is) → Narrow o H (i ∷ is)
    by_test true e none rest = absurd (cc)
    by_test false e none rest =
        let a = or_parts (is_crowded o H i Table.Name) _ e in
        let b = or_parts (is_crowded o H i Table.Prefix) _ a.1 in
        let c = or_parts (is_crowded o H i Table.Datatype) (is_long (item_rows o H i)) b.1 in
        let fits : FitsTables o H i = tables_fit o H i a.0 b.0 c.0 in
        let found = item_fits o H i fits in
        let behind : wide_from o (found.rows ++ H) (n + 1) is ≡ None = sym (ap (λ (r : Result (List Row) Refusal). where_answered r (λ rs. wide_from o (rs ++ H) (n + 1) is)) found.are) ∙ none in
        let short : nat_lt most_item_bytes (length (body_of (reverse found.rows))) ≡ false = sym (ap is_long found.are) ∙ c.1 in
        let others = rest found.rows behind in
        record {
          rss = reverse found.rows ∷ others.rss;
          are = each_next o H i is found.rows others.rss found.are others.are;
          narrow = (ltb-false most_item_bytes (length (body_of (reverse found.rows))) short, others.narrow);
        }

-- the frames of items that are narrow
good_frames : (form : Form) (per : ℕ) (is : List Item) (found : Narrow (options_of form) (first_row form ∷ []) is) → AllByRecursion IsProperItem is → AllByRecursion IsFrame (framed form per found.rss)
good_frames form per is found proper =
    framed_frames form per found.rss (first_is_row form) (first_is_short form) (good found.rss (each_put (options_of form) (first_row form ∷ []) is found.rss (sizes_are_small form) proper found.are) found.narrow)

pub frames_are_short : FramesAreShort
frames_are_short form per is rss proper none are =
    let found = narrow_items (options_of form) (first_row form ∷ []) 1 is none in
    let rows = found.are in
    let same : found.rss ≡ rss = cc in
    subst (λ (qss : List (List Row)). AllByRecursion (λ (rs : List Row). length (body_of rs) < most_body) (framed form per qss)) same (lengths (framed form per found.rss) (good_frames form per is found proper))
  where
    lengths : (rss : List (List Row)) → AllByRecursion IsFrame rss → AllByRecursion (λ (rs : List Row). length (body_of rs) < most_body) rss
    lengths [] all = tt
    lengths (rs ∷ rss) all = (all.0.short, lengths rss all.1)

pub encodings_decoded : EncodingsDecode
unfolding encoding
encodings_decoded form per is fits proper none =
    let o = options_of form in
    let H = first_row form ∷ [] in
    let found = narrow_items o H 1 is none in
    let rows = found.are in
    let goes = each_with o H is found.rss rows in
    let frames_are = good_frames form per is found proper in
    (file_of form per found.rss, ap (λ (r : Result (List (List Row)) Refusal). r >>= λ (rss : List (List Row)). Ok (file_of form per rss)) rows, λ strict. file_decodes strict form per is found.rss frames_are (items_stated strict o H (onto (all_of found.rss) H) [] is (λ _. all_allowed form) fits (items_tags is proper) (first_states_nothing strict form) goes))
