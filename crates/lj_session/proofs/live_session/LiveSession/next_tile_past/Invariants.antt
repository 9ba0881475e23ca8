use Rattle.std.proofs.Common.{◌≡◌, ◌-◌}
use Rattle.std.specs.List.{find, range_with_len}
use Rattle.lj_step.specs.OpenSteps.{is_tile_awaited, tiles_of}
use Rattle.lj_session.specs.UserState.{next_tile}
use Rattle.lj_session.proofs.live_session.LiveSession.next_tile_past.Given as goal

-- what is found from here on is what is found
abbrev pub invariant-loop-i : goal.invariant-loop-i
invariant-loop-i l = find (is_tile_awaited l.self.live) (range_with_len l.i (tiles_of l.self.live - l.i)) ≡ next_tile (record l.self { passed = l.from })
