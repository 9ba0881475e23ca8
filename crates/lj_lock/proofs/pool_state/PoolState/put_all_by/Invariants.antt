use Rattle.std.specs.Prelude.{◌≡◌}
use Rattle.lj_lock.specs.EndBoxes.{end_box_count}
use Rattle.lj_lock.specs.PoolStates.{NoneIsLost}
use Rattle.lj_lock.proofs.pool_state.PoolState.put_all_by.Given as goal

abbrev pub invariant-loop-lent : goal.invariant-loop-lent
invariant-loop-lent g l = record {
  kept : NoneIsLost l.fn.self.book l.fn.own l.self.book l.left;
  stays : l.self ≡ record l.fn.self { book = record l.fn.self.book { spare = l.self.book.spare } };
}

abbrev pub decreases-loop-lent : goal.decreases-loop-lent
decreases-loop-lent g l = end_box_count l.left
