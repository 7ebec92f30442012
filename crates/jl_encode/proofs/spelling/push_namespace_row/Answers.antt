use Rattle.std.proofs.Common.{◌++◌, Some}
use Rattle.jl_spell.specs.Fields.{Bytes, field_of}
use Rattle.jl_spell.specs.Messages.{unless_empty}
use Rattle.jl_spell.specs.Rows.{iri_of}
use Rattle.jl_encode.specs.Stated.{ids_stated}
use Rattle.jl_rows.specs.Written.{Row}
use Rattle.std.proofs.lemmas.Result.{err_from_is_err_and}
use Rattle.jl_encode.proofs.RowLemmas.{namespace_row, row_refused, namespace_told, two_behind}
use Rattle.jl_encode.proofs.spelling.push_namespace_row.Goals as goal

pub returns-in_err-push_fronts : goal.returns-in_err-push_fronts
returns-in_err-push_fronts c =
    let m = unless_empty 1 c.args.name.now ++ field_of 2 (Bytes (iri_of (ids_stated c.args.iri))) in
    let size = namespace_told c.args.name.now (ids_stated c.args.iri) _ _ _ _ _ c.iri_size.ensures.exact c.limit.ensures c.field_size-held.ensures c.lone_text_size.ensures c.sum.ensures in
    let p = err_from_is_err_and c.from_residual.result c.from_residual.ensures.1 in
    rw (p.1, p.2) (row_refused c.in_err-push_fronts.field-0.0 (Row.Namespace c.args.name.now (Some (ids_stated c.args.iri))) 6 c.args.out.now.items c.push_fronts.new.out.items m (namespace_row c.args.name.now (ids_stated c.args.iri)) (c.in_err-push_fronts.ensures m size))

pub returns : goal.returns
returns c =
    let name = unless_empty 1 c.args.name.now in
    let iri = field_of 2 (Bytes (iri_of (ids_stated c.args.iri))) in
    let size = namespace_told c.args.name.now (ids_stated c.args.iri) _ _ _ _ _ c.iri_size.ensures.exact c.limit.ensures c.field_size-held.ensures c.lone_text_size.ensures c.sum.ensures in
    let begun = c.in_ok-push_fronts.ensures (name ++ iri) size in
    two_behind 6 c.args.out.now.items c.push_fronts.new.out.items c.push_lone_text.new.out.items c.push_iri.new.out.items name iri _ (namespace_row c.args.name.now (ids_stated c.args.iri)) begun.0 c.in_ok-push_lone_text.ensures c.in_ok-push_iri.ensures
