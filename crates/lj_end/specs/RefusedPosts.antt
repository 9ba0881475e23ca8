-- Why a task was not posted, and which it was.
use Rattle.lj_task.specs.Task.{Task}
use Rattle.lj_end.specs.declared.pool.NotPosted.{NotPosted}
use Rattle.lj_end.specs.declared.pool.NotPosted.TheVariants.{Full as NoRoom, Closed as PoolClosed}
use Rattle.lj_end.specs.declared.pool.Refused.{Refused}
use Rattle.lj_end.specs.declared.pool.Refused.TheVariants.{Full, Closed}

-- the task that is handed back
abbrev pub refused_task : Refused → Task
refused_task (Full task) = task
refused_task (Closed task) = task

-- the pool is closed
abbrev pub IsClosed : Refused → Type 0
IsClosed (Full task) = ⊥
IsClosed (Closed task) = Unit {0}

-- the task was not posted since the pool is closed
abbrev pub IsPoolClosed : {C : Type 0} → NotPosted C → Type 0
IsPoolClosed NoRoom = ⊥
IsPoolClosed (PoolClosed closed) = Unit {0}
