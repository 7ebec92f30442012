use Rattle.std.proofs.Common.{ℕ, ◌+◌, arith, ap, refl, ◌∙◌}
use Rattle.jl_base.specs.Items.{item_of}
use Rattle.jl_encode.specs.Desks.{Desk}
use Rattle.jl_encode.specs.Lasts.{lasts_of}
use Rattle.jl_encode.specs.Putting.{put_item}
use Rattle.jl_encode.proofs.NumberSteps.{item_keeps}
use Rattle.jl_encode.proofs.ItemSteps.{put_number}
use Rattle.jl_encode.proofs.items.put_next.Goals as goal

pub for_next-requires : goal.for_next-requires
for_next-requires c =
    let i = item_of c.args.item.now in
    let l = lasts_of c.args.lasts.now in
    let same = put_number c.args.desk.now.item (put_item i l c.args.desk.now) c.args.out.now.items c.put_rows.new.out.items c.put_rows.new.desk (item_keeps c.args.desk.now.item i l c.args.desk.now refl) c.in_ok-put_rows.ensures.puts in
    let few = c.requires in
    omega (arith, same, few)

pub returns-clause-number : goal.returns-clause-number
returns-clause-number c =
    let i = item_of c.args.item.now in
    let l = lasts_of c.args.lasts.now in
    let same = put_number c.args.desk.now.item (put_item i l c.args.desk.now) c.args.out.now.items c.put_rows.new.out.items c.put_rows.new.desk (item_keeps c.args.desk.now.item i l c.args.desk.now refl) c.in_ok-put_rows.ensures.puts in
    ap (λ (d : Desk). d.item) c.for_next.ensures ∙ ap (λ (n : ℕ). n + 1) same
