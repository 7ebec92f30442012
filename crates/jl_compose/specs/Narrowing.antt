-- Ids that are too large for the code's numbers are the largest of these: no table has either.
use Rattle.std.specs.Prelude.{ℕ, ◌-◌, ◌^◌, min}
use Rattle.jl_sym_laws.specs.RelativeIds.{Id, Refs}
use Rattle.jl_sym_laws.specs.Summaries.{Written, Need, Demand}

-- the largest number, of which no table has an entry
abbrev pub no_id : ℕ
no_id = 2 ^ 32 - 1

abbrev pub narrow : Id → Id
narrow (Id.Given n) = Id.Given (min n no_id)
narrow (Id.After k) = Id.After (min k no_id)

abbrev pub narrow_refs : Refs → Refs
narrow_refs r = record { prefix = narrow r.prefix; name = narrow r.name }

abbrev pub narrow_write : Written → Written
narrow_write w = record w { id = narrow w.id }

abbrev pub narrow_need : Need → Need
narrow_need (Need.Fits t id) = Need.Fits t (narrow id)
narrow_need (Need.Filled t id) = Need.Filled t (narrow id)
narrow_need (Need.Has x) = Need.Has x
narrow_need (Need.Lacks x) = Need.Lacks x
narrow_need Need.Never = Need.Never

abbrev pub narrow_demand : Demand → Demand
narrow_demand d = record d { need = narrow_need d.need }
