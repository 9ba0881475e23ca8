use Rattle.std.proofs.Common.{rules, ◌≡◌, ◌∷◌, length}
use Rattle.std.specs.Vec.Iter.{into_iter_items}
use Rattle.lj_queue.proofs.Moves.{learns, merges}
use Rattle.lj_queue.proofs.Settling.{takes_in, some_part, every_part, leaves_of, left_is}
use Rattle.lj_queue.proofs.queue_pool.QueuePool.settle.Goals as goal

pub absorb-requires-clause-rule : goal.absorb-requires-clause-rule
absorb-requires-clause-rule g c = merges _ _ _ _ (some_part _ _ _ _ _ _ _ c.loop-pass.invariant)

pub loop-pass-preserved : goal.loop-pass-preserved
loop-pass-preserved g c =
    let step : into_iter_items c.loop-pass.pass-iterator ≡ c.in-Some.pass ∷ into_iter_items c.next.new.self = search rules in
    takes_in g.L.PoolIdentity.table g.L.PoolIdentity.passes c.args.passes.items (into_iter_items c.loop-pass.pass-iterator)
    (into_iter_items c.next.new.self) c.in-Some.pass c.loop-pass.all c.absorb.new.pass c.into_pass.result
    c.loop-pass.settled.pushed c.loop-pass.settled.popped c.from.result c.from-in-loop-pass.result
    c.loop-pass.invariant step c.absorb.ensures.queue c.absorb.ensures.rule c.into_pass.ensures.pass
    c.into_pass.ensures.counted (search rules) (search rules) (search rules) (search rules)

pub len_as-requires-clause-rule : goal.len_as-requires-clause-rule
len_as-requires-clause-rule g c =
    let none : length (into_iter_items c.loop-pass.pass-iterator) ≡ 0 = search rules in
    learns _ _ (every_part _ _ _ _ _ _ _ c.loop-pass.invariant none)

pub returns-clause-left : goal.returns-clause-left
returns-clause-left g c =
    left_is _ _ _ _ _ c.loop-pass.invariant.pushed_all c.loop-pass.invariant.popped_all c.len_as.ensures.rule.1

pub returns-clause-same : goal.returns-clause-same
returns-clause-same g c =
    let none : length (into_iter_items c.loop-pass.pass-iterator) ≡ 0 = search rules in
    leaves_of _ _ _ _ _ _ _ _ c.loop-pass.invariant none c.len_as.ensures.rule.1
