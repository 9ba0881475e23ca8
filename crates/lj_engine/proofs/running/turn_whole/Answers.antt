use Rattle.std.proofs.Common.{arith, rules}
use Rattle.std.specs.Prelude.{IsSome}
use Rattle.lj_engine.proofs.Ending.{alike_none, none_last, when_none}
use Rattle.lj_engine.proofs.Going.{TurnsOn, goes_then, turns_on}
use Rattle.lj_engine.proofs.running.turn_whole.Given.{Over}
use Rattle.lj_engine.proofs.running.turn_whole.Goals.{After-turn_session-none}
use Rattle.lj_engine.proofs.running.turn_whole.Goals as goal

-- the session turned
turned : (g : Over) (c : After-turn_session-none g)
    → TurnsOn c.loop-name.owner c.turn_session-none.new.self (g.P.PoolEnd.seen c.loop-name.pool)
turned g c =
    let idle = (alike_none c.args.owner.now c.loop-name.owner c.loop-name.invariant.goes.alike c.requires.idle).0 in
    let not_last = none_last c.in-Some.name c.loop-name.owner idle in
    let not_some : IsSome c.turn_session-none.result → ⊥ = λ some. not_last (c.turn_session-none.ensures.last.0 some) in
    turns_on c.loop-name.owner c.turn_session-none.new.self (g.P.PoolEnd.seen c.loop-name.pool)
    c.loop-name.invariant.goes.gathers c.in-Some.name c.in-Some.ensures.whole not_last
    (when_none c.turn_session-none.result not_some c.turn_session-none.ensures.turned)
    (when_none c.turn_session-none.result not_some c.turn_session-none.ensures.alike)
    c.turn_session-none.ensures.kept.number c.turn_session-none.ensures.kept.quota

pub poll_next-requires : goal.poll_next-requires
poll_next-requires g c = record { gathers = (turned g (goal.at.poll_next-requires g c).After-turn_session-none).goes.gathers }

pub loop-name-preserved : goal.loop-name-preserved
loop-name-preserved g c = record {
  goes = goes_then c.loop-name.invariant.goes
      (goes_then (turned g (goal.at.loop-name-preserved g c).After-turn_session-none).goes
      (goes_then c.poll_next.ensures.goes_on c.post_next-posted.ensures.goes_on));
  counted = λ none. c.post_next-posted.ensures.counted (c.poll_next.ensures.counted (c.loop-name.invariant.counted none));
  own = search rules;
}

pub loop-name-smaller : goal.loop-name-smaller
loop-name-smaller g c =
    let less = (turned g (goal.at.loop-name-smaller g c).After-turn_session-none).fewer in
    let rest = goes_then c.poll_next.ensures.goes_on c.post_next-posted.ensures.goes_on in
    let turns_then = rest.turns in
    omega (arith, less, turns_then)
