-- What rows state, as the decoder goes through them.
use Rattle.std.proofs.Common.{◌≡◌, List, [], ◌∷◌, ◌++◌, map, reverse, flat_map, None, Result, Ok, refl, ap, sym, ◌∙◌, subst, append_assoc, append-nil}
use mathlib.Core.List.{reverse_aux}
use Rattle.jl_base.specs.Results.{◌>>=◌}
use Rattle.jl_base.specs.Terms.{Item}
use Rattle.jl_rows.specs.Written.{StreamOptions, Row}
use Rattle.jl_rows.specs.Files.{Placed}
use Rattle.jl_rows.specs.History.{History}
use Rattle.jl_rows.specs.Decoder.{meaning, decoded}
use Rattle.jl_rows.proofs.Binding.{bound}
use Rattle.jl_encoding.specs.Slots.{Refusal}
use Rattle.jl_encoding.specs.Items.{item_rows, with_items, stated_by}
use Rattle.jl_encoding.specs.Encoding.{each_item}

-- rows behind a history, one after another
abbrev pub onto : List Row → History → History
onto [] H = H
onto (r ∷ rs) H = onto rs (r ∷ H)

pub onto_append : (rs qs : List Row) (H : History) → onto (rs ++ qs) H ≡ onto qs (onto rs H)
onto_append [] qs H = refl
onto_append (r ∷ rs) qs H = onto_append rs qs (r ∷ H)

onto_reversed : (rs qs : List Row) (H : History) → onto (reverse_aux rs qs) H ≡ onto qs (rs ++ H)
onto_reversed [] qs H = refl
onto_reversed (r ∷ rs) qs H = onto_reversed rs (r ∷ qs) H

onto_reverse : (rs : List Row) (H : History) → onto (reverse rs) H ≡ rs ++ H
onto_reverse rs H = onto_reversed rs [] H

abbrev pub all_of : List (List Row) → List Row
all_of rss = flat_map (λ (rs : List Row). rs) rss

-- the rows of items one after another are the history behind them
pub each_with : (o : StreamOptions) (H : History) (is : List Item) (rss : List (List Row)) → each_item o H is ≡ Ok rss → with_items o H is ≡ Ok (onto (all_of rss) H)
unfolding each_item with_items
each_with o H [] rss e = let same : [] ≡ rss = cc in subst (λ (rows : List (List Row)). ◌≡◌ {A = Result History Refusal} (Ok H) (Ok (onto (all_of rows) H))) same refl
each_with o H (i ∷ is) rss e =
    let rs = bound (item_rows o H i) (λ (rs : List Row). each_item o (rs ++ H) is >>= λ (rest : List (List Row)). Ok (reverse rs ∷ rest)) rss e in
    let rest = bound (each_item o (rs.value ++ H) is) (λ (rest : List (List Row)). Ok (reverse rs.value ∷ rest)) rss rs.then in
    let same : reverse rs.value ∷ rest.value ≡ rss = let h = rest.then in cc in
    let behind : onto (all_of rest.value) (rs.value ++ H) ≡ onto (reverse rs.value ++ all_of rest.value) H =
    ap (onto (all_of rest.value)) (sym (onto_reverse rs.value H)) ∙ sym (onto_append (reverse rs.value) (all_of rest.value) H) in
    let goes : ◌≡◌ {A = Result History Refusal} (with_items o (rs.value ++ H) is) (Ok (onto (all_of rss) H)) =
    each_with o (rs.value ++ H) is rest.value rest.was ∙ ap Ok behind ∙ ap (λ (rows : List (List Row)). Ok (onto (all_of rows) H)) same in
    first (item_rows o H i) rs.value rs.was goes
  where
    first : (r : Result (List Row) Refusal) (rs : List Row) → r ≡ Ok rs → with_items o (rs ++ H) is ≡ Ok (onto (all_of rss) H) → (r >>= λ (rs : List Row). with_items o (rs ++ H) is) ≡ Ok (onto (all_of rss) H)
    first r rs was goes = rw was goes

-- what rows state in front of others
pub record Stated (o : StreamOptions) (H : History) : Type 0 where
  pub items : List Item
  pub are : stated_by o H ≡ Ok items

ok_before : (o : StreamOptions) (rs : List Row) (H : History) (zs : List Item) → stated_by o (onto rs H) ≡ Ok zs → Stated o H
unfolding stated_by
ok_before o [] H zs e = record { items = zs; are = e }
ok_before o (r ∷ rs) H zs e =
    let next = ok_before o rs (r ∷ H) zs e in
    let b = bound (stated_by o H) (λ (xs : List Item). meaning o r H >>= λ (ys : List Item). Ok (xs ++ ys)) next.items next.are in
    record { items = b.value; are = b.was }

pub record Decodes (o : StreamOptions) (H : History) (ps : List Placed) (xs zs : List Item) : Type 0 where
  pub items : List Item
  pub all : zs ≡ xs ++ items
  pub says : decoded o H ps None ≡ record { items = items; fault = None }

abbrev pub row_of_place : Placed → Row
row_of_place p = p.row

says_next : (o : StreamOptions) (H : History) (p : Placed) (ps : List Placed) (ys zs : List Item) → meaning o p.row H ≡ Ok ys → decoded o (p.row ∷ H) ps None ≡ record { items = zs; fault = None } → decoded o H (p ∷ ps) None ≡ record { items = ys ++ zs; fault = None }
unfolding decoded
says_next o H p ps ys zs means says = rw (means, says) refl

pub decodes : (o : StreamOptions) (ps : List Placed) (H : History) (xs zs : List Item) → stated_by o H ≡ Ok xs → stated_by o (onto (map row_of_place ps) H) ≡ Ok zs → Decodes o H ps xs zs
unfolding decoded stated_by
decodes o [] H xs zs before e = let same : zs ≡ xs = cc in record { items = []; all = same ∙ sym (append-nil xs); says = refl }
decodes o (p ∷ ps) H xs zs before e =
    let whole = ok_before o (map row_of_place ps) (p.row ∷ H) zs e in
    let here = rw before at whole.are in
    let b = bound (meaning o p.row H) (λ (ys : List Item). Ok (xs ++ ys)) whole.items here in
    let sum : xs ++ b.value ≡ whole.items = let h = b.then in cc in
    let rest = decodes o ps (p.row ∷ H) whole.items zs whole.are e in
    record {
      items = b.value ++ rest.items;
      all = rest.all ∙ ap (λ (ws : List Item). ws ++ rest.items) (sym sum) ∙ append_assoc xs b.value rest.items;
      says = says_next o H p ps b.value rest.items b.was rest.says;
    }
