use Rattle.std.specs.Prelude.{◌+◌}
use Rattle.lj_tests.proofs.queues.over_queue.run_once.Given as goal

abbrev pub ghosts-run-L-Ledger : goal.ghosts-run-L-Ledger
ghosts-run-L-Ledger g a = record { name = a.blank.name; parts = a.blank.parts }

abbrev pub ghosts-run-L-PoolIdentity : goal.ghosts-run-L-PoolIdentity
ghosts-run-L-PoolIdentity g a = record { table = a.blank.table; passes = a.setup.workers + 64 }
