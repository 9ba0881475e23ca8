-- The limits of quotas and of open connections, and the limits of several crates that are equal.
use Rattle.std.specs.Prelude.{◌≡◌, refl}
use Rattle.lj_access.specs.declared.directory.TheConstants.{MAX_USERS}
use Rattle.lj_end.specs.declared.pool.TheConstants.{MAX_ENDS}
use Rattle.lj_end.specs.declared.pool.TheConstants.{MAX_OWED}
use Rattle.lj_queue.specs.declared.mailboxes.TheConstants.{USERS}
use Rattle.lj_queue.specs.declared.queue_pool.TheConstants.{CONNECTIONS}
use Rattle.lj_world.specs.declared.world_limits.TheConstants as world
use Rattle.lj_program.specs.declared.quota_limits.TheConstants.{MAX_QUOTA_ATOMS, MAX_QUOTA_BRANCHES}
use Rattle.lj_program.specs.declared.quota_limits.TheConstants.{MAX_QUOTA_SESSIONS}
use Rattle.lj_program.specs.declared.serve.connection_limit.TheConstants.{MAX_OPEN_CONNECTIONS}
use Rattle.lj_program.specs.declared.serve.shared_directory.TheConstants.{MAX_WAITING}

-- a quota has at most 64 sessions
most_sessions : MAX_QUOTA_SESSIONS ≡ 64
most_sessions = refl

-- a quota has at most 65,536 atoms
most_atoms : MAX_QUOTA_ATOMS ≡ 65536
most_atoms = refl

-- a quota has at most 256 branches
most_branches : MAX_QUOTA_BRANCHES ≡ 256
most_branches = refl

-- as many connections of a server are open at once as a pool behind a lock has boxes for
most_open : MAX_OPEN_CONNECTIONS ≡ MAX_ENDS
most_open = refl

-- as many as a schedule can name
most_open_of_world : MAX_OPEN_CONNECTIONS ≡ world.MAX_CONNECTIONS
most_open_of_world = refl

-- each of them can have an end of the pool with a queue
end_for_each : MAX_OPEN_CONNECTIONS ≡ CONNECTIONS
end_for_each = refl

-- that pool has a mailbox for each user of a directory
users_apart : USERS ≡ MAX_USERS
users_apart = refl

-- a connection of a world may have as many tasks posted as may be owed to an end of a pool
posted_as_owed : world.MAX_POSTED ≡ MAX_OWED
posted_as_owed = refl

-- eight connections of a user wait
most_waiting : MAX_WAITING ≡ 8
most_waiting = refl
