-- Before the first item: the desk stands for the options row alone.
use Rattle.std.proofs.Common.{◌≡◌, ℕ, zero, suc, ◌<◌, [], ◌∷◌, length, replicate, slice_get, Some, refl, ap, arith}
use Rattle.jl_rows.specs.declared.row.Table.{Table}
use Rattle.jl_rows.specs.Written.{StreamOptions, Row}
use Rattle.jl_rows.specs.History.{slot, seen_in}
use Rattle.jl_rows.specs.Values.{last_term}
use Rattle.jl_rows.specs.Decoder.{size_of}
use Rattle.jl_encode.specs.Desks.{new_texts, new_desk, texts_of}
use Rattle.jl_encode.specs.Standing.{TableAgrees}
use Rattle.jl_encode.specs.InStep.{NewDeskAgrees}

length_zeros : (n : ℕ) → length {A = ℕ} (replicate n 0) ≡ n
length_zeros zero = refl
length_zeros (suc n) = ap suc (length_zeros n)

all_zeros : (n k mark : ℕ) → slice_get {X = ℕ} (replicate n 0) k ≡ Some mark → mark < 1
all_zeros zero k mark e = absurd (cc)
all_zeros (suc n) zero mark e = let same : ◌≡◌ {A = ℕ} 0 mark = cc in omega (arith, same)
all_zeros (suc n) (suc k) mark e = all_zeros n k mark e

new_table : (o p : StreamOptions) (t : Table) → TableAgrees o (Row.Options p ∷ []) t 1 (new_texts (size_of o t))
unfolding slot
new_table o p t = record {
  size = refl;
  slots = λ k. refl;
  last = refl;
  held_fit = omega arith;
  last_fits = omega arith;
  filling = λ room. refl;
  marked = length_zeros (size_of o t);
  older = λ k mark e. all_zeros (size_of o t) k mark e;
}

pub new_desk_agrees : NewDeskAgrees
unfolding seen_in last_term
new_desk_agrees o p = record { tables = each; prefix = refl; name = refl; hidden = refl; item = omega arith; subject = refl; predicate = refl; object = refl; graph = refl }
  where
    each : (t : Table) → TableAgrees o (Row.Options p ∷ []) t 1 (texts_of t (new_desk o.names o.prefixes o.datatypes))
    each Table.Name = new_table o p Table.Name
    each Table.Prefix = new_table o p Table.Prefix
    each Table.Datatype = new_table o p Table.Datatype
