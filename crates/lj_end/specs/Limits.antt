-- How many ends a pool has room for, how many tasks an end may be owed, and how many strays it may bring.
use Rattle.std.specs.Prelude.{◌≡◌, refl}
use Rattle.lj_end.specs.declared.pool.TheConstants.{MAX_AHEAD, MAX_ENDS, MAX_OWED, MAX_STRAYS}
use Rattle.lj_end.specs.declared.waking.TheConstants.{WAIT_QUEUES}

-- a pool has boxes for at most 64 ends at once
most_ends : MAX_ENDS ≡ 64
most_ends = refl

-- ends wait for results in 64 queues
wait_queues : WAIT_QUEUES ≡ 64
wait_queues = refl

-- at most 64 tasks are owed to an end
most_owed : MAX_OWED ≡ 64
most_owed = refl

-- at most 15 of them while the next command is awaited
most_ahead : MAX_AHEAD ≡ 15
most_ahead = refl

-- 4,096 strays in a row end the work for a user
most_strays : MAX_STRAYS ≡ 4096
most_strays = refl
