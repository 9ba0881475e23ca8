use Rattle.std.proofs.Common.{rules, map-id, append-nil}
use Rattle.std.proofs.lemmas.Iterator.Consumers.{YieldsList-end}
use Rattle.std.proofs.lemmas.Iterator.Adapters.{YieldsList-from_vec}
use Rattle.lj_world.specs.Picked.{PickedStep}
use Rattle.lj_world.proofs.RunAppend.{run_push, run_of}
use Rattle.lj_world.proofs.world.World.run.Goals as goal

-- a reply is pushed
pub loop-event-preserved-in-Continue-branch-4 : goal.loop-event-preserved-in-Continue-branch-4
loop-event-preserved-in-Continue-branch-4 c =
    let step = rw c.in-Some-2.is at c.in_ok-entry.ensures.step in
    rw c.in_ok-push.ensures.items (run_push PickedStep _ _ _ _ _ _ _ c.loop-event.invariant (step, c.in_ok-entry.ensures.picked))

-- nothing is replied
pub loop-event-preserved : goal.loop-event-preserved
loop-event-preserved c =
    let step = rw c.in_default.is at c.in_ok-entry.ensures.step in
    rw (← append-nil c.loop-event.entries.items) (run_push PickedStep _ _ _ _ _ _ _ c.loop-event.invariant (step, c.in_ok-entry.ensures.picked))

-- all events were yielded
pub returns-clause-picked : goal.returns-clause-picked
returns-clause-picked c =
    let end = YieldsList-end (YieldsList-from_vec {s = c.into_iter-event-iterator.result} c.args.events.items (search rules) (search rules))
    c.loop-event.yielded c.loop-event.event-iterator c.loop-event.yielded_by c.next.result c.next.new.self c.in-None.is c.next.ensures.steps in
    (c.loop-event.world.state, rw (c.new-2.ensures, ← end.0, map-id) c.loop-event.invariant)

pub returns-clause-run : goal.returns-clause-run
returns-clause-run c = let picked = returns-clause-picked c in (picked.0, run_of _ _ _ _ picked.1)

pub returns-clause-headline : goal.returns-clause-headline
returns-clause-headline c = λ user quota has_quota is_run other. c.headline.ensures quota (record {
  users = c.args.users.items;
  user = user;
  has_quota = has_quota;
  events = c.args.events.items;
  entries = c.new-2.result;
  is_run = is_run;
}) other
