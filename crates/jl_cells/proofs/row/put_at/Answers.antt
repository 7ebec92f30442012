use Rattle.std.proofs.Common.{set, sym, ap, ◌∙◌, arith}
use Rattle.once_cell.specs.Once.{cell_name}
use Rattle.jl_cells.specs.Knowledge.{knowledge_of}
use Rattle.jl_cells.proofs.KnowledgeLemmas.{learns, learns_keeps, same_cell, within_row}
use Rattle.jl_cells.proofs.row.put_at.Goals as goal

pub put-requires : goal.put-requires
put-requires g c =
    same_cell cell_name c.args.sights.now c.args.cells.now c.args.i c.index-sights-i.result c.index-cells-i.result c.requires.row c.requires.within ∙ ap cell_name (sym c.index-cells-i.is)

pub returns-clause-value : goal.returns-clause-value
returns-clause-value g c =
    learns c.args.sights.now c.args.i c.index-sights-i.result c.put.new.self c.put.result.now (omega (arith, within_row c.args.sights.now c.args.cells.now cell_name c.requires.row)) c.put.ensures

pub returns-clause-kept : goal.returns-clause-kept
returns-clause-kept g c = learns_keeps (knowledge_of c.args.sights.now) (knowledge_of (set c.args.sights.now c.args.i c.put.new.self)) c.args.i c.put.result.now (returns-clause-value g c)
