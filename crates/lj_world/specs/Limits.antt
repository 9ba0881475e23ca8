-- The numbers of connections and workers, and how many tasks a connection may have posted.
use Rattle.std.specs.Prelude.{◌≡◌, refl}
use Rattle.lj_world.specs.declared.world_limits.TheConstants.{MAX_CONNECTIONS, MAX_POSTED, MAX_WORKERS}

-- connections are numbered up to 64
most_connections : MAX_CONNECTIONS ≡ 64
most_connections = refl

-- workers are numbered up to 16
most_workers : MAX_WORKERS ≡ 16
most_workers = refl

-- a connection has at most 64 tasks that are posted and not fetched
most_posted : MAX_POSTED ≡ 64
most_posted = refl
