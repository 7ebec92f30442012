-- Ids, tables and needs that a test finds the same are the same.
use Rattle.std.proofs.Common.{◌≡◌, true, refl, ap}
use Rattle.std.proofs.lemmas.Bool.{eqb-true, and_parts, false≢true}
use Rattle.jl_rows.specs.declared.row.Table.{Table}
use Rattle.jl_rows.specs.History.{is_table}
use Rattle.jl_rows.specs.Values.{Position}
use Rattle.jl_sym_laws.specs.RelativeIds.{Id}
use Rattle.jl_sym_laws.specs.Summaries.{Kept, Need}
use Rattle.jl_sym_laws.specs.Compacting.{same_id, same_position, same_kept, same_need}

pub id_is : (i j : Id) → same_id i j ≡ true → i ≡ j
id_is (Id.Given m) (Id.Given n) e = ap Id.Given (eqb-true m n e)
id_is (Id.After m) (Id.After n) e = ap Id.After (eqb-true m n e)
id_is (Id.Given m) (Id.After n) e = absurd (false≢true e)
id_is (Id.After m) (Id.Given n) e = absurd (false≢true e)

pub table_is : (t u : Table) → is_table t u ≡ true → t ≡ u
table_is Table.Name Table.Name e = refl
table_is Table.Name Table.Prefix e = absurd (false≢true e)
table_is Table.Name Table.Datatype e = absurd (false≢true e)
table_is Table.Prefix Table.Name e = absurd (false≢true e)
table_is Table.Prefix Table.Prefix e = refl
table_is Table.Prefix Table.Datatype e = absurd (false≢true e)
table_is Table.Datatype Table.Name e = absurd (false≢true e)
table_is Table.Datatype Table.Prefix e = absurd (false≢true e)
table_is Table.Datatype Table.Datatype e = refl

position_is : (x y : Position) → same_position x y ≡ true → x ≡ y
position_is Position.Subject Position.Subject e = refl
position_is Position.Subject Position.Predicate e = absurd (false≢true e)
position_is Position.Subject Position.Object e = absurd (false≢true e)
position_is Position.Subject Position.Graph e = absurd (false≢true e)
position_is Position.Predicate Position.Subject e = absurd (false≢true e)
position_is Position.Predicate Position.Predicate e = refl
position_is Position.Predicate Position.Object e = absurd (false≢true e)
position_is Position.Predicate Position.Graph e = absurd (false≢true e)
position_is Position.Object Position.Subject e = absurd (false≢true e)
position_is Position.Object Position.Predicate e = absurd (false≢true e)
position_is Position.Object Position.Object e = refl
position_is Position.Object Position.Graph e = absurd (false≢true e)
position_is Position.Graph Position.Subject e = absurd (false≢true e)
position_is Position.Graph Position.Predicate e = absurd (false≢true e)
position_is Position.Graph Position.Object e = absurd (false≢true e)
position_is Position.Graph Position.Graph e = refl

kept_is : (x y : Kept) → same_kept x y ≡ true → x ≡ y
kept_is (Kept.LastAt x) (Kept.LastAt y) e = ap Kept.LastAt (position_is x y e)
kept_is Kept.OpenGraph Kept.OpenGraph e = refl
kept_is (Kept.LastAt x) Kept.OpenGraph e = absurd (false≢true e)
kept_is Kept.OpenGraph (Kept.LastAt y) e = absurd (false≢true e)

pub need_is : (a b : Need) → same_need a b ≡ true → a ≡ b
need_is (Need.Fits t i) (Need.Fits u j) e = let p = and_parts (is_table t u) (same_id i j) e in λ k. Need.Fits (table_is t u p.0 k) (id_is i j p.1 k)
need_is (Need.Filled t i) (Need.Filled u j) e = let p = and_parts (is_table t u) (same_id i j) e in λ k. Need.Filled (table_is t u p.0 k) (id_is i j p.1 k)
need_is (Need.Has x) (Need.Has y) e = ap Need.Has (kept_is x y e)
need_is (Need.Lacks x) (Need.Lacks y) e = ap Need.Lacks (kept_is x y e)
need_is Need.Never Need.Never e = refl
need_is (Need.Fits t i) (Need.Filled u j) e = absurd (false≢true e)
need_is (Need.Fits t i) (Need.Has y) e = absurd (false≢true e)
need_is (Need.Fits t i) (Need.Lacks y) e = absurd (false≢true e)
need_is (Need.Fits t i) Need.Never e = absurd (false≢true e)
need_is (Need.Filled t i) (Need.Fits u j) e = absurd (false≢true e)
need_is (Need.Filled t i) (Need.Has y) e = absurd (false≢true e)
need_is (Need.Filled t i) (Need.Lacks y) e = absurd (false≢true e)
need_is (Need.Filled t i) Need.Never e = absurd (false≢true e)
need_is (Need.Has x) (Need.Fits u j) e = absurd (false≢true e)
need_is (Need.Has x) (Need.Filled u j) e = absurd (false≢true e)
need_is (Need.Has x) (Need.Lacks y) e = absurd (false≢true e)
need_is (Need.Has x) Need.Never e = absurd (false≢true e)
need_is (Need.Lacks x) (Need.Fits u j) e = absurd (false≢true e)
need_is (Need.Lacks x) (Need.Filled u j) e = absurd (false≢true e)
need_is (Need.Lacks x) (Need.Has y) e = absurd (false≢true e)
need_is (Need.Lacks x) Need.Never e = absurd (false≢true e)
need_is Need.Never (Need.Fits u j) e = absurd (false≢true e)
need_is Need.Never (Need.Filled u j) e = absurd (false≢true e)
need_is Need.Never (Need.Has y) e = absurd (false≢true e)
need_is Need.Never (Need.Lacks y) e = absurd (false≢true e)
