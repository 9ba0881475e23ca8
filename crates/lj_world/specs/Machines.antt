-- The invariant of the machine.
use Rattle.std.specs.Prelude.{◌≡◌, ◌+◌, ℕ, List, length, slice_index_or, Option, Some, None}
use Rattle.lj_access.specs.UserRows.{UserRow}
use Rattle.lj_world.specs.declared.world_limits.TheConstants.{MAX_CONNECTIONS, MAX_WORKERS}
use Rattle.lj_world.specs.Machine.{Connection, Worker}
use Rattle.lj_world.specs.KnownConnections.{HasRow}

-- There is a slot for each connection and each worker, and slot 0. Each connection has a row, and no two have the same ticket.
pub record IsMachine (rows : List UserRow) (connections : List (Option Connection)) (workers : List (Option Worker))
    : Type 0 where
  pub connection_slots : length connections ≡ MAX_CONNECTIONS + 1
  pub worker_slots : length workers ≡ MAX_WORKERS + 1
  pub known : (c : ℕ) (connection : Connection)
      → slice_index_or connections c None ≡ Some connection → HasRow rows connection
  pub apart : (c d : ℕ) (a b : Connection)
      → slice_index_or connections c None ≡ Some a → slice_index_or connections d None ≡ Some b
      → a.user ≡ b.user → a.number ≡ b.number → c ≡ d
