use Rattle.std.proofs.Common.{◌≡◌}
use Rattle.std.proofs.lemmas.Result.{err_from_is_err_and}
use Rattle.jl_base.specs.Items.{items_of}
use Rattle.jl_encode.specs.declared.stop.Stop.TheVariants.{NoMemory}
use Rattle.jl_encode.proofs.ListLemmas.{never_begun}
use Rattle.jl_encode.proofs.list.encode.Goals as goal

pub returns-in_err-encoder-clause-encodes : goal.returns-in_err-encoder-clause-encodes
returns-in_err-encoder-clause-encodes g c proper =
    let p = err_from_is_err_and c.from_residual.result c.from_residual.ensures.1 in
    let why : c.in_err-encoder.field-0.0 ≡ NoMemory = let refused = c.in_err-encoder.ensures.refused in cc in
    rw (p.1, p.2, why) (never_begun c.args.form c.args.per (items_of c.args.items.now) _)

pub write-requires-clause-fit : goal.write-requires-clause-fit
write-requires-clause-fit g c = rw (c.deref_mut.ensures.value, c.in_ok-encoder.ensures.form) c.requires.fit
