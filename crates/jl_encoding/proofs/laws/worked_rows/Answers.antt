use Rattle.jl_encoding.proofs.WorkedRows.{made_rows, no_items, made_file, two_to_a_frame, empty_prefix_later, passes_over, three_names, two_prefixes, no_datatypes, made_fits}
use Rattle.jl_encoding.proofs.laws.worked_rows.Goals as goal

pub returns-clause-made_rows : goal.returns-clause-made_rows
returns-clause-made_rows c = made_rows

pub returns-clause-no_items : goal.returns-clause-no_items
returns-clause-no_items c = no_items

pub returns-clause-made_file : goal.returns-clause-made_file
returns-clause-made_file c = made_file

pub returns-clause-two_to_a_frame : goal.returns-clause-two_to_a_frame
returns-clause-two_to_a_frame c = two_to_a_frame

pub returns-clause-empty_prefix_later : goal.returns-clause-empty_prefix_later
returns-clause-empty_prefix_later c = empty_prefix_later

pub returns-clause-passes_over : goal.returns-clause-passes_over
returns-clause-passes_over c = passes_over

pub returns-clause-three_names : goal.returns-clause-three_names
returns-clause-three_names c = three_names

pub returns-clause-two_prefixes : goal.returns-clause-two_prefixes
returns-clause-two_prefixes c = two_prefixes

pub returns-clause-no_datatypes : goal.returns-clause-no_datatypes
returns-clause-no_datatypes c = no_datatypes

pub returns-clause-made_fits : goal.returns-clause-made_fits
returns-clause-made_fits c = made_fits
