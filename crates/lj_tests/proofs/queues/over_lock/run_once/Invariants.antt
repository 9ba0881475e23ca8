use Rattle.lj_tests.proofs.queues.over_lock.run_once.Given as goal

abbrev pub ghosts-run : goal.ghosts-run
ghosts-run g a = record { name = a.blank.name; parts = a.blank.parts }
