-- The steps of a statement, one behind another.
use Rattle.std.proofs.Common.{◌≡◌, ℕ, List, Option, Some, None, Result, Ok, Err, subst}
use Rattle.jl_base.specs.Terms.{Value, Item}
use Rattle.jl_rows.specs.Written.{Term, Row}
use Rattle.jl_encode.specs.declared.refusal.Refusal.{Refusal}
use Rattle.jl_encode.specs.declared.refusal.Refusal.TheVariants.{TooWide, NoMemory}
use Rattle.jl_encode.specs.Desks.{Desk}
use Rattle.jl_encode.specs.Putting.{Step, Lasts, at_once, then_put, put_unless, put_item, Did, Puts, PutsRow, PutItem, PutsRows}
use Rattle.jl_encode.proofs.NumberSteps.{Keeps}
use Rattle.jl_encode.proofs.DidLemmas.{did_then, did_once, none_first, none_then, puts_row, long_row, none_refused}

-- an item's own row behind its entries, or why it isn't there
pub row_puts : (step : Option (Step Row)) (out mid out' : List ℕ) (r : Row) (D : Desk) (result : Result (Unit {0}) Refusal) → Did step out r mid D → PutsRow r mid out' result → PutsRows step out out' D result
row_puts step out mid out' r D (Ok u) did puts = puts_row step out mid out' r D did puts
row_puts step out mid out' r D (Err TooWide) did puts = long_row step out mid r D did puts
row_puts step out mid out' r D (Err NoMemory) did puts = tt

-- where a term of the item wasn't put, neither was the item
pub refused_by : {X : Type 0} (part : Option (Step Term)) (says : X → Term) (step : Option (Step Row)) (out mid mid' : List ℕ) (D : Desk) (e : Refusal) (result : Result (Unit {0}) Refusal) → Puts part says mid mid' D (Err e) → (part ≡ None → step ≡ None) → result ≡ Err e → PutsRows step out mid' D result
refused_by part says step out mid mid' D TooWide result puts none is = rw is (none_refused step (none puts))
refused_by part says step out mid mid' D NoMemory result puts none is = rw is tt

module _ (L : Lasts) (s p o : Value) (a b c : Term) (out out1 out2 out3 : List ℕ) (D D1 D2 D3 : Desk) where
  abbrev third : Term → Term → Term → Desk → Option (Step Row)
  third a b c D3 = at_once (Row.Triple a b c) D3

  abbrev second : Term → Term → Desk → Option (Step Row)
  second a b D2 = then_put (put_unless L.object o D2) (third a b)

  abbrev first : Term → Desk → Option (Step Row)
  first a D1 = then_put (put_unless L.predicate p D1) (second a)

  pub triple_did : Did (put_unless L.subject s D) out a out1 D1 → Did (put_unless L.predicate p D1) out1 b out2 D2 → Did (put_unless L.object o D2) out2 c out3 D3 → Did (put_item (Item.Triple s p o) L D) out (Row.Triple a b c) out3 D3
  triple_did x y z =
      did_then (put_unless L.subject s D) first out out1 out3 a (Row.Triple a b c) D1 D3 x
      (did_then (put_unless L.predicate p D1) (second a) out1 out2 out3 b (Row.Triple a b c) D2 D3 y
      (did_then (put_unless L.object o D2) (third a b) out2 out3 out3 c (Row.Triple a b c) D3 D3 z (did_once (Row.Triple a b c) out3 D3)))

  pub triple_none_2 : Did (put_unless L.subject s D) out a out1 D1 → put_unless L.predicate p D1 ≡ None → put_item (Item.Triple s p o) L D ≡ None
  triple_none_2 x none = none_then (put_unless L.subject s D) first out out1 a D1 x (none_first (put_unless L.predicate p D1) (second a) none)

  pub triple_none_3 : Did (put_unless L.subject s D) out a out1 D1 → Did (put_unless L.predicate p D1) out1 b out2 D2 → put_unless L.object o D2 ≡ None → put_item (Item.Triple s p o) L D ≡ None
  triple_none_3 x y none =
      none_then (put_unless L.subject s D) first out out1 a D1 x (none_then (put_unless L.predicate p D1) (second a) out1 out2 b D2 y (none_first (put_unless L.object o D2) (third a b) none))

module _ (L : Lasts) (s p o g : Value) (a b c d : Term) (out out1 out2 out3 out4 : List ℕ) (D D1 D2 D3 D4 : Desk) where
  abbrev fourth' : Term → Term → Term → Term → Desk → Option (Step Row)
  fourth' a b c d D4 = at_once (Row.Quad a b c d) D4

  abbrev third' : Term → Term → Term → Desk → Option (Step Row)
  third' a b c D3 = then_put (put_unless L.graph g D3) (fourth' a b c)

  abbrev second' : Term → Term → Desk → Option (Step Row)
  second' a b D2 = then_put (put_unless L.object o D2) (third' a b)

  abbrev first' : Term → Desk → Option (Step Row)
  first' a D1 = then_put (put_unless L.predicate p D1) (second' a)

  pub quad_did : Did (put_unless L.subject s D) out a out1 D1 → Did (put_unless L.predicate p D1) out1 b out2 D2 → Did (put_unless L.object o D2) out2 c out3 D3 → Did (put_unless L.graph g D3) out3 d out4 D4
      → Did (put_item (Item.Quad s p o g) L D) out (Row.Quad a b c d) out4 D4
  quad_did x y z w =
      did_then (put_unless L.subject s D) first' out out1 out4 a (Row.Quad a b c d) D1 D4 x
      (did_then (put_unless L.predicate p D1) (second' a) out1 out2 out4 b (Row.Quad a b c d) D2 D4 y
      (did_then (put_unless L.object o D2) (third' a b) out2 out3 out4 c (Row.Quad a b c d) D3 D4 z
      (did_then (put_unless L.graph g D3) (fourth' a b c) out3 out4 out4 d (Row.Quad a b c d) D4 D4 w (did_once (Row.Quad a b c d) out4 D4))))

  pub quad_none_2 : Did (put_unless L.subject s D) out a out1 D1 → put_unless L.predicate p D1 ≡ None → put_item (Item.Quad s p o g) L D ≡ None
  quad_none_2 x none = none_then (put_unless L.subject s D) first' out out1 a D1 x (none_first (put_unless L.predicate p D1) (second' a) none)

  pub quad_none_3 : Did (put_unless L.subject s D) out a out1 D1 → Did (put_unless L.predicate p D1) out1 b out2 D2 → put_unless L.object o D2 ≡ None → put_item (Item.Quad s p o g) L D ≡ None
  quad_none_3 x y none =
      none_then (put_unless L.subject s D) first' out out1 a D1 x (none_then (put_unless L.predicate p D1) (second' a) out1 out2 b D2 y (none_first (put_unless L.object o D2) (third' a b) none))

  pub quad_none_4 : Did (put_unless L.subject s D) out a out1 D1 → Did (put_unless L.predicate p D1) out1 b out2 D2 → Did (put_unless L.object o D2) out2 c out3 D3 → put_unless L.graph g D3 ≡ None → put_item (Item.Quad s p o g) L D ≡ None
  quad_none_4 x y z none =
      none_then (put_unless L.subject s D) first' out out1 a D1 x
      (none_then (put_unless L.predicate p D1) (second' a) out1 out2 b D2 y (none_then (put_unless L.object o D2) (third' a b) out2 out3 c D3 z (none_first (put_unless L.graph g D3) (fourth' a b c) none)))

-- the desk that an item leaves is still at its number
pub put_number : (item : ℕ) (step : Option (Step Row)) (out out' : List ℕ) (D : Desk) → Keeps item step → PutItem step out out' D → D.item ≡ item
put_number item None out out' D keeps put = absurd put
put_number item (Some s) out out' D keeps put = let same : s.desk ≡ D = put.1 in let kept : s.desk.item ≡ item = keeps in subst (λ (d : Desk). d.item ≡ item) same kept
