use Rattle.std.proofs.Common.{false, refl}
use Rattle.jl_encode.specs.Lasts.{lasts_of}
use Rattle.jl_encode.specs.Answers.{Progress}
use Rattle.jl_encode.proofs.Beginning.{new_stands}
use Rattle.jl_encode.proofs.encoder.Encoder.new.Goals as goal

pub returns-clause-stands : goal.returns-clause-stands
returns-clause-stands c =
    let body = rw c.new-body.ensures.items at c.in_ok-push_options_row.ensures.ok in
    let e : Progress = record { form = c.args.form; per = c.new-3.result.per; desk = c.in_ok-new.field-0; lasts = lasts_of c.new-2.result; body = c.push_options_row.new.out.items; count = c.new-3.result.items; spent = false } in
    new_stands e c.in_ok-new.ensures c.new-2.ensures body c.new-3.ensures.items refl
