use Rattle.std.proofs.Common.{◌≡◌, ◌<◌, ◌∙◌, Some, ap, sym, subst}
use Rattle.lj_session.specs.Cursors.{IsPostedTo, owner_posted_to}
use Rattle.lj_session.specs.Owner.{Owner, next_task_of, with_task_posted}
use Rattle.lj_session.proofs.Cursors.{first-task}
use Rattle.lj_engine.specs.Coming.{GoesOn, posts_coming}
use Rattle.lj_engine.proofs.Gathered.{owes_some}
use Rattle.lj_engine.proofs.Going.{goes_nothing, goes_posted, fewer_posts, post-coming}
use Rattle.lj_engine.proofs.running.post_next.Given.{Over}
use Rattle.lj_engine.proofs.running.post_next.Goals.{In-Some-task_past}
use Rattle.lj_engine.proofs.running.post_next.Goals as goal

-- the task is the next one
is_next : (g : Over) (c : In-Some-task_past g) → next_task_of c.args.owner.now ≡ Some c.in-Some-task_past.task
is_next g c = c.in-Some-task_past.ensures.task c.args.owner.now
    (subst (λ n. IsPostedTo c.in-Some.cursor n c.args.owner.now c.args.owner.now) (sym c.passed.ensures) c.in-Some.ensures.posted)

-- and is posted then
is_posted : (g : Over) (c : In-Some-task_past g)
    → with_task_posted c.args.owner.now ≡ owner_posted_to c.in-Some.cursor c.in-Some-task_past.next c.args.owner.now
is_posted g c = c.in-Some-task_past.ensures.posted c.args.owner.now
    (subst (λ n. IsPostedTo c.in-Some.cursor n c.args.owner.now c.args.owner.now) (sym c.passed.ensures) c.in-Some.ensures.posted)
    (c.in-Some.ensures.same ∙ ap (λ n. owner_posted_to c.in-Some.cursor n c.args.owner.now) (sym c.passed.ensures))

pub returns-then-room-eq0-clause-goes_on : goal.returns-then-room-eq0-clause-goes_on
returns-then-room-eq0-clause-goes_on g c = goes_nothing c.args.owner.now (g.P.PoolEnd.seen c.args.pool.now) c.requires.gathers

pub returns-in_default-clause-goes_on : goal.returns-in_default-clause-goes_on
returns-in_default-clause-goes_on g c = goes_nothing c.args.owner.now (g.P.PoolEnd.seen c.args.pool.now) c.requires.gathers

pub returns-in_default-clause-owes : goal.returns-in_default-clause-owes
returns-in_default-clause-owes g c = λ alone waits none_ready _.
    owes_some c.args.owner.now (g.P.PoolEnd.seen c.args.pool.now).owed c.requires.gathers waits none_ready
    c.in_default.ensures.none

pub returns-in_default-task_past-clause-owes : goal.returns-in_default-task_past-clause-owes
returns-in_default-task_past-clause-owes g c = λ alone waits none_ready _.
    owes_some c.args.owner.now (g.P.PoolEnd.seen c.args.pool.now).owed c.requires.gathers waits none_ready
    (sym (first-task c.args.owner.now c.in-Some.cursor c.in-Some.ensures.first)
    ∙ c.in_default-task_past.ensures.none c.args.owner.now
    (subst (λ n. IsPostedTo c.in-Some.cursor n c.args.owner.now c.args.owner.now) (sym c.passed.ensures) c.in-Some.ensures.posted))

pub returns-in-Ok-clause-goes_on : goal.returns-in-Ok-clause-goes_on
returns-in-Ok-clause-goes_on g c =
    let at = (goal.at.returns-in-Ok-clause-goes_on g c).In-Some-task_past in
    subst (λ (o : Owner). GoesOn c.args.owner.now (g.P.PoolEnd.seen c.args.pool.now) o (g.P.PoolEnd.seen c.post_from.new.self))
    (is_posted g at ∙ sym c.post_to.ensures.noted)
    (goes_posted c.args.owner.now (g.P.PoolEnd.seen c.args.pool.now) (g.P.PoolEnd.seen c.post_from.new.self) c.requires.gathers
    c.in-Some-task_past.task (is_next g at) c.in-Ok.ensures.posted)

pub returns-in-Ok-clause-fewer : goal.returns-in-Ok-clause-fewer
returns-in-Ok-clause-fewer g c _ =
    let at = (goal.at.returns-in-Ok-clause-fewer g c).In-Some-task_past in
    subst (λ (o : Owner). posts_coming o < posts_coming c.args.owner.now) (is_posted g at ∙ sym c.post_to.ensures.noted)
    (fewer_posts c.args.owner.now (g.P.PoolEnd.seen c.args.pool.now) (g.P.PoolEnd.seen c.post_from.new.self) c.requires.gathers
    c.in-Some-task_past.task (is_next g at))

pub returns-clause-awaits : goal.returns-clause-awaits
returns-clause-awaits g c =
    let at = (goal.at.returns-clause-awaits g c).In-Some-task_past in
    post-coming c.args.owner.now (g.P.PoolEnd.seen c.args.pool.now) c.requires.gathers
    c.in-Some-task_past.task (is_next g at)
