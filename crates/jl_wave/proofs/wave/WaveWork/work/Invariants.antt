use Rattle.jl_wave.proofs.wave.WaveWork.work.Given as goal

abbrev pub ghosts-go_to : goal.ghosts-go_to
ghosts-go_to g a = record { name = a.blank.name; parts = a.blank.parts }
