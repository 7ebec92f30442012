use Rattle.std.proofs.Common.{ℕ, List, ◌++◌, ◌∙◌, ap}
use Rattle.jl_spell.specs.Fields.{front_of}
use Rattle.jl_encode.proofs.RowLemmas.{row_long, fronts_appended}
use Rattle.jl_encode.proofs.spelling.push_fronts.Goals as goal

pub returns-in_default : goal.returns-in_default
returns-in_default c m is = row_long c.args.field m c.args.message c.field_size-row.result c.field_size.result is c.field_size-row.ensures c.field_size.ensures c.in_default.is

pub returns : goal.returns
returns c m is =
    fronts_appended c.args.field m c.args.message c.field_size-row.result c.field_size.result c.in-Some.size c.unwrap_or.result c.unwrap_or-2.result c.args.out.now.items c.push_front.new.out.items c.push_front-2.new.out.items
    is c.field_size-row.ensures c.field_size.ensures c.in-Some.is c.unwrap_or.ensures c.unwrap_or-2.ensures
    (c.in_ok-push_front.ensures.ok ∙ ap (λ (xs : List ℕ). xs ++ front_of 1 c.unwrap_or.result) c.in_ok-reserve.ensures.items) c.in_ok-push_front-2.ensures.ok
