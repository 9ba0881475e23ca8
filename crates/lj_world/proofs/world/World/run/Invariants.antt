use Rattle.lj_world.specs.Machine.{initial_machine}
use Rattle.lj_world.specs.Runs.{RunBy}
use Rattle.lj_world.specs.Picked.{PickedStep}
use Rattle.lj_world.proofs.world.World.run.Given as goal

-- what was replied so far is replied by a run over the events so far in which each pick decides
abbrev pub invariant-loop-event : goal.invariant-loop-event
invariant-loop-event l = RunBy PickedStep (initial_machine l.fn.users.items) l.yielded l.entries.items l.world.state
