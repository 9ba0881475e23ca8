use Rattle.std.proofs.Common.{sym, ◌∙◌, arith}
use Rattle.lj_session.proofs.NextTiles.{next-here, next-on, next-first, next-nowhere}
use Rattle.lj_session.proofs.state.UserState.next_tile.Goals as goal

pub loop-i-init : goal.loop-i-init
loop-i-init c = next-first c.args.self.now

pub returns-in-Some-clause-some : goal.returns-in-Some-clause-some
returns-in-Some-clause-some c =
    let within = c.loop-i-test.true in
    let count = c.len-i-end.ensures.value in
    next-here c.args.self.now c.len-i-end.ensures.distinct c.loop-i.i c.at.result.now c.at.ensures c.in-Some.k
    (omega (arith, within, count)) (sym c.in-Some.ensures.value) c.in-Some.ensures.below c.loop-i.invariant

pub loop-i-preserved : goal.loop-i-preserved
loop-i-preserved c =
    next-on c.args.self.now c.len-i-end.ensures.distinct c.loop-i.i c.at.result.now c.at.ensures
    (sym c.next_tile.ensures.value ∙ c.in_default.is) c.loop-i.invariant

pub returns-clause-none : goal.returns-clause-none
returns-clause-none c =
    let past = c.loop-i-test.false in
    let most = c.loop-i.auto.i-end in
    let count = c.len-i-end.ensures.value in
    next-nowhere c.args.self.now c.loop-i.i (omega (arith, past, most, count)) c.loop-i.invariant
