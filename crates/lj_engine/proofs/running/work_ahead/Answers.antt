use Rattle.std.proofs.Common.{length, sym, ap, inl, ◌∙◌, arith}
use Rattle.lj_engine.proofs.Going.{goes_nothing, goes_then}
use Rattle.lj_engine.proofs.Rested.{not-busy, quiet-next, quiet-owed}
use Rattle.lj_engine.proofs.running.work_ahead.Goals as goal

pub returns-then-not-has_pending-clause-few : goal.returns-then-not-has_pending-clause-few
returns-then-not-has_pending-clause-few g c =
    let owed = (g.P.PoolEnd.seen c.args.pool.now).owed in
    let none = c.requires.quiet c.if-not-has_pending.true in
    let nothing = ap length (quiet-owed c.args.owner.now owed c.requires.gathers c.requires.idle none) in
    omega (arith, nothing)

pub returns-then-not-has_pending-clause-posts : goal.returns-then-not-has_pending-clause-posts
returns-then-not-has_pending-clause-posts g c =
    let seen = g.P.PoolEnd.seen c.args.pool.now in
    let goes = goes_nothing c.args.owner.now seen c.requires.gathers in
    let none = c.requires.quiet c.if-not-has_pending.true in
    record {
      owner = c.args.owner.now;
      seen = seen;
      until = goes;
      all = inl (quiet-next c.args.owner.now seen.owed c.requires.gathers c.requires.idle none);
      since = goes;
    }

pub returns-clause-posts : goal.returns-clause-posts
returns-clause-posts g c = record {
  owner = c.post_all.new.owner;
  seen = g.P.PoolEnd.seen c.post_all.new.pool;
  until = goes_then c.poll_all.ensures.goes_on (goes_then c.turn_whole.ensures.goes_on c.post_all.ensures.goes_on);
  all = c.post_all.ensures.all;
  since = goes_then c.fetch_down.ensures.goes_on c.poll_all-2.ensures.goes_on;
}

pub returns-clause-quiet : goal.returns-clause-quiet
returns-clause-quiet g c none = not-busy c.poll_all-2.new.owner (sym c.is_busy.ensures ∙ none)
