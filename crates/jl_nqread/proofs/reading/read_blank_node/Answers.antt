use Rattle.std.proofs.Common.{◌∙◌, drop, sym, ap}
use Rattle.jl_base.specs.Terms.{Bnode}
use Rattle.jl_nqread.specs.Meaning.{blank_node_said}
use Rattle.jl_nqread.proofs.MeaningLaws.{label_there}
use Rattle.jl_nqread.proofs.reading.read_blank_node.Goals as goal

pub returns : goal.returns
unfolding blank_node_said
returns c =
    let exact = c.in-Some.ensures.exact in
    let inside = c.in-Some.ensures.inside in
    (exact, ap Bnode (c.in_ok-label.ensures ∙ sym (label_there c.args.bytes.now c.args.at c.in-Some.end inside.0 inside.1 exact)))
