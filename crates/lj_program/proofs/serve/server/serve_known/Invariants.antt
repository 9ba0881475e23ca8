use Rattle.std.proofs.Common.{◌+◌}
use Rattle.lj_program.proofs.serve.server.serve_known.Given as goal

abbrev pub ghosts-serve_by_lock : goal.ghosts-serve_by_lock
ghosts-serve_by_lock g a = record { name = a.blank.name; parts = a.blank.parts }

abbrev pub ghosts-serve_by_queue-L-Ledger : goal.ghosts-serve_by_queue-L-Ledger
ghosts-serve_by_queue-L-Ledger g a = record { name = a.blank.name; parts = a.blank.parts }

abbrev pub ghosts-serve_by_queue-L-PoolIdentity : goal.ghosts-serve_by_queue-L-PoolIdentity
ghosts-serve_by_queue-L-PoolIdentity g a = record { table = a.blank.table; passes = a.workers + 64 }
