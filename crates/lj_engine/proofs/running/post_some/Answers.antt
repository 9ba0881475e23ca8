use Rattle.std.proofs.Common.{length, nat_eq, true, ◌≡◌, sym, subst, ◌∙◌}
use Rattle.lj_session.specs.Owner.{Owner}
use Rattle.lj_engine.proofs.Posts.{PostsFront, posts_front, users_front}
use Rattle.lj_engine.proofs.running.post_some.Given.{Over}
use Rattle.lj_engine.proofs.running.post_some.Goals.{After-note_posted}
use Rattle.lj_engine.proofs.running.post_some.Goals as goal

-- the tasks posted of the next ones
posts : (g : Over) (c : After-note_posted g)
    → PostsFront c.args.owner.now (g.P.PoolEnd.seen c.args.pool.now) (length c.add_next.new.tasks)
    c.post_some.result c.note_posted.new.owner (g.P.PoolEnd.seen c.post_some.new.self)
posts g c =
    subst (λ (o : Owner). PostsFront c.args.owner.now (g.P.PoolEnd.seen c.args.pool.now) (length c.add_next.new.tasks)
    c.post_some.result o (g.P.PoolEnd.seen c.post_some.new.self)) (sym c.note_posted.ensures)
    (posts_front c.args.owner.now (g.P.PoolEnd.seen c.args.pool.now) c.requires.gathers c.add_next.new.tasks
    c.add_next.ensures.next c.post_some.result c.post_some.ensures.most
    (g.P.PoolEnd.seen c.post_some.new.self) c.post_some.ensures.posted)

pub returns-clause-goes_on : goal.returns-clause-goes_on
returns-clause-goes_on g c = (posts g (goal.at.returns-clause-goes_on g c).After-note_posted).goes

pub returns-clause-fewer : goal.returns-clause-fewer
returns-clause-fewer g c = λ all.
    let count = c.len-count.ensures.value in
    (posts g (goal.at.returns-clause-fewer g c).After-note_posted).fewer
    (subst (λ n. nat_eq c.post_some.result n ≡ true) count all)
    (λ none. c.if-count-eq0.false (count ∙ none))

pub returns-clause-own : goal.returns-clause-own
returns-clause-own g c =
    c.post_some.ensures.own c.args.owner.now.number
    (users_front c.args.owner.now (g.P.PoolEnd.seen c.args.pool.now) c.requires.gathers c.add_next.new.tasks
    c.add_next.ensures.next)
