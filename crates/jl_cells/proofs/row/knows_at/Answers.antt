use Rattle.jl_cells.proofs.KnowledgeLemmas.{known_in_row}
use Rattle.jl_cells.proofs.row.knows_at.Goals as goal

pub returns : goal.returns
returns g c = known_in_row c.args.sights.now c.args.i c.index-sights-i.result c.is_known.result c.requires c.index-sights-i.is c.is_known.ensures
