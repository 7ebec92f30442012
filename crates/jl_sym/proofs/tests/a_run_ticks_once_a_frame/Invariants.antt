use Rattle.jl_sym.proofs.tests.a_run_ticks_once_a_frame.Given as goal

abbrev pub ghosts-rest_of_file : goal.ghosts-rest_of_file
ghosts-rest_of_file g a = record { name = a.blank.name; parts = a.blank.parts }
