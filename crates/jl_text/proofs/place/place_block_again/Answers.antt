use Rattle.jl_text.proofs.PlaceLemmas.{block_placed}
use Rattle.jl_text.proofs.place.place_block_again.Goals as goal

pub returns-clause-placed : goal.returns-clause-placed
returns-clause-placed g c = block_placed c.args.page.now c.args.page.now c.args.at c.args.from c.args.len g.row.N c.requires.counted c.requires.inside c.requires.room
