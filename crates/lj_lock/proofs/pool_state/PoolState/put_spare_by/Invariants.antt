use Rattle.std.specs.Prelude.{◌≡◌}
use Rattle.lj_lock.specs.PoolStates.{NoneIsLost}
use Rattle.lj_lock.proofs.pool_state.PoolState.put_spare_by.Given as goal

abbrev pub invariant-loop-spare : goal.invariant-loop-spare
invariant-loop-spare g l = record {
  last : l.own.last ≡ l.fn.own.last;
  hand : l.own.hand ≡ l.fn.own.hand;
  took_all : l.own.took_all ≡ l.fn.own.took_all;
  kept : NoneIsLost l.fn.self.book l.fn.own l.self.book l.own;
  stays : l.self ≡ record l.fn.self { book = record l.fn.self.book { spare = l.self.book.spare } };
}

abbrev pub decreases-loop-spare : goal.decreases-loop-spare
decreases-loop-spare g l = l.own.spare
