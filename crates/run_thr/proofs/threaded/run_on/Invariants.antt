-- The run is of these words, these steps and these list registers.
use Rattle.thr_cast.specs.PortTable.All.{told_words}
use Rattle.run_thr.proofs.threaded.run_on.Given as goal

abbrev pub ghosts-run_as : goal.ghosts-run_as
ghosts-run_as g a = record { words = told_words a.words.now; steps = a.scenario.now.steps; lrs = a.scenario.now.lrs }
