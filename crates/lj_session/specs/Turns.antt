-- The steps that a command takes of its own, each a turn of its session, and the session that it waits for.
use Rattle.std.specs.Prelude.{ℕ, List, Option, Some, None, if◌then◌else◌}
use Rattle.lj_session.specs.declared.command.Command.{Command}
use Rattle.lj_session.specs.declared.command.Command.TheVariants.{Load, Advance, Start, Reverse, Branch, Restore, Forget, Tug}
use Rattle.lj_session.specs.declared.command.Command.TheVariants.{Measure, Show, Dump, List as ListSessions}
use Rattle.lj_session.specs.declared.command.Command.TheVariants.{ListBranches, Unload, Bye}
use Rattle.lj_branch.specs.Named.{value_named}
use Rattle.lj_session.specs.Users.{Session, User}
use Rattle.lj_session.specs.Answers.{can_advance}

-- the turns of an ADVANCE: one a step, and none if it is refused
abbrev pub advance_turns : Option Session → ℕ → ℕ
advance_turns None n = 0
advance_turns (Some session) n = if can_advance session n then n else 0

-- the turns of a MEASURE: one, in which the potential is summed
abbrev pub measure_turns : Option Session → ℕ
measure_turns None = 0
measure_turns (Some session) = 1

-- how many turns a command takes of its own: ADVANCE as many as steps, MEASURE one, and every other none
unfoldable pub turns : User → Command → ℕ
turns user (Advance name n) = advance_turns (value_named name user.sessions) n
turns user (Measure name) = measure_turns (value_named name user.sessions)
turns user _ = 0

-- The session that a command waits for, until no step is pending there. LOAD, LOADMIX, START, FORGET, LIST and BYE wait
-- for none.
unfoldable pub waits_for : Command → Option (List ℕ)
waits_for (Load load) = None
waits_for (Advance name n) = Some name
waits_for (Start name n) = None
waits_for (Reverse name) = Some name
waits_for (Branch name branch) = Some name
waits_for (Restore name branch) = Some name
waits_for (Forget name branch) = None
waits_for (Tug name atom x y z) = Some name
waits_for (Measure name) = Some name
waits_for (Show name atom) = Some name
waits_for (Dump name) = Some name
waits_for ListSessions = None
waits_for (ListBranches name) = None
waits_for (Unload name) = Some name
waits_for Bye = None
