-- The worked rows, by computing.
use Rattle.std.proofs.Common.{refl}
use Rattle.jl_sym_laws.specs.Acting.{played, unmet}
use Rattle.jl_sym_laws.specs.Composing.{later_demands}
use Rattle.jl_sym_laws.specs.SmallSteps.{of_smalls}
use Rattle.jl_sym_laws.specs.Runs.{extended}
use Rattle.jl_sym_laws.specs.WorkedRows.{rows_at, ThreeAtOpening, ThreeAfterTwo, ThreeAfterEight, ImpliedIdsAcrossRuns, NothingToRepeat, WrongRowAfter, RepeatedTermKeepsItsText, PreviousPrefixAfterRewrite, TripleAfterGraphEnd, NestedTermWithoutEntry}

pub three_at_opening : ThreeAtOpening
unfolding played unmet later_demands of_smalls extended rows_at
three_at_opening = refl

pub three_after_two : ThreeAfterTwo
unfolding played unmet later_demands of_smalls extended rows_at
three_after_two = refl

pub three_after_eight : ThreeAfterEight
unfolding played unmet later_demands of_smalls extended rows_at
three_after_eight = refl

pub implied_ids_across_runs : ImpliedIdsAcrossRuns
unfolding played unmet later_demands of_smalls extended rows_at
implied_ids_across_runs = refl

pub nothing_to_repeat : NothingToRepeat
unfolding played unmet later_demands of_smalls extended rows_at
nothing_to_repeat = refl

pub wrong_row_after : WrongRowAfter
unfolding played unmet later_demands of_smalls extended rows_at
wrong_row_after = refl

pub repeated_term_keeps_its_text : RepeatedTermKeepsItsText
unfolding played unmet later_demands of_smalls extended rows_at
repeated_term_keeps_its_text = refl

pub previous_prefix_after_rewrite : PreviousPrefixAfterRewrite
unfolding played unmet later_demands of_smalls extended rows_at
previous_prefix_after_rewrite = refl

pub triple_after_graph_end : TripleAfterGraphEnd
unfolding played unmet later_demands of_smalls extended rows_at
triple_after_graph_end = refl

pub nested_term_without_entry : NestedTermWithoutEntry
unfolding played unmet later_demands of_smalls extended rows_at
nested_term_without_entry = refl
