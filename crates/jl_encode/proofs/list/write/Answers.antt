use Rattle.jl_base.specs.Items.{items_of}
use Rattle.jl_encode.specs.Encoders.{progress}
use Rattle.jl_encode.proofs.ListLemmas.{far_finished}
use Rattle.jl_encode.proofs.list.write.Goals as goal

pub returns-clause-encodes : goal.returns-clause-encodes
returns-clause-encodes g c stands proper =
    let all = items_of c.args.items.now in
    let far = c.in_ok-add_all.ensures.adds stands proper in
    far_finished (progress c.args.encoder.now).form (progress c.args.encoder.now).per (progress c.add_all.new.encoder) all _ _ far _ c.finish.result (c.finish.ensures.finishes all far.stands)
