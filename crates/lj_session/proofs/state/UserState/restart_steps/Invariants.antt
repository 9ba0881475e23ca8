use Rattle.std.specs.Prelude.{◌≡◌}
use Rattle.lj_session.proofs.Resting.{rested_to}
use Rattle.lj_session.proofs.state.UserState.restart_steps.Given as goal

-- the sessions before are at rest
abbrev pub invariant-loop-i : goal.invariant-loop-i
invariant-loop-i l = record {
  entries : l.self-inside.sessions.entries ≡ rested_to l.i l.fn.self.sessions;
  quota : l.self-inside.quota ≡ l.fn.self.quota;
  used : l.self-inside.used ≡ l.initial.self-inside.used;
}
