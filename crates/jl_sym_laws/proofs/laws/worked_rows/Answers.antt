use Rattle.jl_sym_laws.proofs.RowsWorked.{three_at_opening, three_after_two, three_after_eight, implied_ids_across_runs, nothing_to_repeat, wrong_row_after, repeated_term_keeps_its_text, previous_prefix_after_rewrite, triple_after_graph_end, nested_term_without_entry}
use Rattle.jl_sym_laws.proofs.laws.worked_rows.Goals as goal

pub returns-clause-three_at_opening : goal.returns-clause-three_at_opening
returns-clause-three_at_opening c = three_at_opening

pub returns-clause-three_after_two : goal.returns-clause-three_after_two
returns-clause-three_after_two c = three_after_two

pub returns-clause-three_after_eight : goal.returns-clause-three_after_eight
returns-clause-three_after_eight c = three_after_eight

pub returns-clause-implied_ids_across_runs : goal.returns-clause-implied_ids_across_runs
returns-clause-implied_ids_across_runs c = implied_ids_across_runs

pub returns-clause-nothing_to_repeat : goal.returns-clause-nothing_to_repeat
returns-clause-nothing_to_repeat c = nothing_to_repeat

pub returns-clause-wrong_row_after : goal.returns-clause-wrong_row_after
returns-clause-wrong_row_after c = wrong_row_after

pub returns-clause-repeated_term_keeps_its_text : goal.returns-clause-repeated_term_keeps_its_text
returns-clause-repeated_term_keeps_its_text c = repeated_term_keeps_its_text

pub returns-clause-previous_prefix_after_rewrite : goal.returns-clause-previous_prefix_after_rewrite
returns-clause-previous_prefix_after_rewrite c = previous_prefix_after_rewrite

pub returns-clause-triple_after_graph_end : goal.returns-clause-triple_after_graph_end
returns-clause-triple_after_graph_end c = triple_after_graph_end

pub returns-clause-nested_term_without_entry : goal.returns-clause-nested_term_without_entry
returns-clause-nested_term_without_entry c = nested_term_without_entry
