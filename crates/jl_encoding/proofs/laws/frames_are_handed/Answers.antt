use Rattle.jl_encoding.proofs.HandedLaws.{rows_end_frames, rows_go_under_way, more_is_handed, frames_are_handed, front_is_handed, more_rows, more_history, more_width, narrow_have_rows}
use Rattle.jl_encoding.proofs.laws.frames_are_handed.Goals as goal

pub returns-clause-frames_end : goal.returns-clause-frames_end
returns-clause-frames_end c = rows_end_frames

pub returns-clause-under_way : goal.returns-clause-under_way
returns-clause-under_way c = rows_go_under_way

pub returns-clause-more_handed : goal.returns-clause-more_handed
returns-clause-more_handed c = more_is_handed

pub returns-clause-frames : goal.returns-clause-frames
returns-clause-frames c = frames_are_handed

pub returns-clause-front : goal.returns-clause-front
returns-clause-front c = front_is_handed

pub returns-clause-more_rows : goal.returns-clause-more_rows
returns-clause-more_rows c = more_rows

pub returns-clause-more_history : goal.returns-clause-more_history
returns-clause-more_history c = more_history

pub returns-clause-more_width : goal.returns-clause-more_width
returns-clause-more_width c = more_width

pub returns-clause-narrow : goal.returns-clause-narrow
returns-clause-narrow c = narrow_have_rows
