use Rattle.std.proofs.Common.{◌≡◌, true, false, refl, arith, rules}
use Rattle.lj_engine.proofs.Ending.{ends, alike_some, at_err, strays_none}
use Rattle.lj_engine.proofs.Going.{TurnsOn, goes_then, turns_on}
use Rattle.lj_engine.proofs.running.run.Given.{Over}
use Rattle.lj_engine.proofs.running.run.Goals.{In_default-turn_session}
use Rattle.lj_engine.proofs.running.run.Goals as goal

pub returns-in-Some-turn_session-clause-answered : goal.returns-in-Some-turn_session-clause-answered
returns-in-Some-turn_session-clause-answered g c =
    ends c.args.owner.now (g.P.PoolEnd.seen c.args.pool.now) c.loop-name.owner (g.P.PoolEnd.seen c.loop-name.pool)
    c.loop-name.invariant.among.goes c.in-Some.name c.in-Some.ensures.whole (c.in-Some-turn_session.ensures.last.0 refl)
    c.turn_session.new.self c.in-Some-turn_session.reply c.turn_session.ensures.kept.number c.in-Some-turn_session.ensures.answered.idle
    c.turn_session.ensures.kept.others c.in-Some-turn_session.ensures.answered.rests
    (alike_some c.args.owner.now c.loop-name.owner c.loop-name.invariant.among.goes.alike c.requires.waits)
    c.in-Some-turn_session.ensures.answered.replied c.in-Some-turn_session.ensures.answered.settled

-- a turn that answers nothing
turned : (g : Over) (c : In_default-turn_session g)
    → TurnsOn c.loop-name.owner c.turn_session.new.self (g.P.PoolEnd.seen c.loop-name.pool)
turned g c =
    turns_on c.loop-name.owner c.turn_session.new.self (g.P.PoolEnd.seen c.loop-name.pool)
    c.loop-name.invariant.among.goes.gathers c.in-Some.name c.in-Some.ensures.whole
    (λ e. let last : false ≡ true = c.in_default-turn_session.ensures.last.1 e in cc)
    c.in_default-turn_session.ensures.turned c.in_default-turn_session.ensures.alike
    c.turn_session.ensures.kept.number c.turn_session.ensures.kept.quota

pub poll_next-requires : goal.poll_next-requires
poll_next-requires g c = record { gathers = (turned g (goal.at.poll_next-requires g c).In_default-turn_session).goes.gathers }

pub returns-in_err-post_next-clause-missing : goal.returns-in_err-post_next-clause-missing
returns-in_err-post_next-clause-missing g c =
    let turn = turned g (goal.at.returns-in_err-post_next-clause-missing g c).In_default-turn_session in
    let handed = (goes_then c.loop-name.invariant.among.goes
    (goes_then turn.goes (goes_then c.poll_next.ensures.goes_on c.post_next.ensures.goes_on))).handed in
    let some = c.in_err-post_next.ensures.awaits in
    at_err c.from_residual.result (omega (arith, handed, some))

pub loop-name-preserved-in-Some : goal.loop-name-preserved-in-Some
loop-name-preserved-in-Some g c =
    let turn = turned g (goal.at.loop-name-preserved-in-Some g c).In_default-turn_session in
    let goes = goes_then c.loop-name.invariant.among.goes
    (goes_then turn.goes (goes_then c.poll_next.ensures.goes_on c.post_next.ensures.goes_on)) in
    record {
      among = record {
        goes = goes;
        in_a_row = strays_none (g.P.PoolEnd.seen c.args.pool.now) (g.P.PoolEnd.seen c.post_next.new.pool) goes.counted;
        few = omega arith;
      };
      counted = λ none. c.post_next.ensures.counted (c.poll_next.ensures.counted (c.loop-name.invariant.counted none));
      own = search rules;
    }

pub loop-name-smaller-in-Some : goal.loop-name-smaller-in-Some
loop-name-smaller-in-Some g c =
    let turn = turned g (goal.at.loop-name-smaller-in-Some g c).In_default-turn_session in
    let less = turn.fewer in
    let rest = goes_then c.poll_next.ensures.goes_on c.post_next.ensures.goes_on in
    let tiles = turn.goes.tiles in let posts = turn.goes.posts in
    let turns_then = rest.turns in let tiles_then = rest.tiles in let posts_then = rest.posts in
    let few = c.loop-name.invariant.among.few in
    omega (arith, less, tiles, posts, turns_then, tiles_then, posts_then, few)
