-- How many workers a server may be given, and how many connections it may accept.
use Rattle.std.specs.Prelude.{◌≡◌, ◌^◌, refl}
use Rattle.lj_world.specs.declared.world_limits.TheConstants as world
use Rattle.ljserve.specs.declared.option_limits.TheConstants.{MAX_ACCEPTED, MAX_WORKERS}

-- a server has at most as many workers as a schedule can name
most_workers : MAX_WORKERS ≡ world.MAX_WORKERS
most_workers = refl

-- it accepts at most a million connections before it ends
most_accepted : MAX_ACCEPTED ≡ 10 ^ 6
most_accepted = refl
