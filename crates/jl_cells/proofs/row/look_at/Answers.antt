use Rattle.std.proofs.Common.{set, sym, ap, ◌∙◌, arith}
use Rattle.once_cell.specs.Once.{cell_name}
use Rattle.jl_cells.proofs.KnowledgeLemmas.{looks, looks_keeps, same_cell, within_row}
use Rattle.jl_cells.proofs.row.look_at.Goals as goal

pub look-requires : goal.look-requires
look-requires g c =
    same_cell cell_name c.args.sights.now c.args.cells.now c.args.i c.index-sights-i.result c.index-cells-i.result c.requires.row c.requires.within ∙ ap cell_name (sym c.index-cells-i.is)

pub returns-clause-value : goal.returns-clause-value
returns-clause-value g c =
    looks c.args.sights.now c.args.i c.index-sights-i.result c.look.new.self c.look.result (omega (arith, within_row c.args.sights.now c.args.cells.now cell_name c.requires.row)) c.look.ensures

pub returns-clause-kept : goal.returns-clause-kept
returns-clause-kept g c = looks_keeps c.args.sights.now (set c.args.sights.now c.args.i c.look.new.self) c.args.i c.look.result (returns-clause-value g c)
