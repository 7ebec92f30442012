-- How far the code's encoder has come.
use Rattle.jl_encode.specs.declared.encoder.Encoder.{Encoder}
use Rattle.jl_encode.specs.Lasts.{lasts_of}
use Rattle.jl_encode.specs.Answers.{Progress}

abbrev pub progress : Encoder → Progress
progress e = record { form = e.form; per = e.count.per; desk = e.desk; lasts = lasts_of e.lasts; body = e.body.items; count = e.count.items; spent = e.spent }
