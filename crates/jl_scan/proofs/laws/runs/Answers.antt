use Rattle.jl_sym_laws.proofs.DecodeLaws.{decodes}
use Rattle.jl_scan.specs.Fields.{rows}
use Rattle.jl_scan.proofs.FieldLemmas.{after_runs, field_is, starts}
use Rattle.jl_scan.proofs.laws.runs.Goals as goal

pub returns-clause-fields : goal.returns-clause-fields
returns-clause-fields c = field_is

pub returns-clause-none : goal.returns-clause-none
returns-clause-none c = starts

pub returns-clause-turns : goal.returns-clause-turns
returns-clause-turns c = λ w a b c' s is le le'. after_runs w is a b c' s le le'

pub returns-clause-leads : goal.returns-clause-leads
returns-clause-leads c = λ w a b H s stands. decodes w.options (rows w a b) H s stands
