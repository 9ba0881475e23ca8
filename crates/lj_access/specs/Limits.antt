-- The limits of users and of tickets.
use Rattle.std.specs.Prelude.{◌≡◌, ◌^◌, refl}
use Rattle.lj_access.specs.declared.directory.TheConstants.{MAX_USERS}
use Rattle.lj_access.specs.declared.user_row.TheConstants.{MAX_TICKETS}

-- a directory has at most 64 users
most_users : MAX_USERS ≡ 64
most_users = refl

-- a user is granted at most 2^32 tickets
most_tickets : MAX_TICKETS ≡ 2 ^ 32
most_tickets = refl
