use Rattle.std.proofs.Common.{length, ap, ◌∙◌, arith}
use Rattle.lj_engine.proofs.Going.{owed-coming}
use Rattle.lj_engine.proofs.running.fetch_next.Goals as goal

pub returns-then-is_err-clause-awaits_still : goal.returns-then-is_err-clause-awaits_still
returns-then-is_err-clause-awaits_still g c =
    owed-coming c.args.owner.now (g.P.PoolEnd.seen c.args.pool.now) c.requires.gathers c.requires.owes

pub returns-clause-stray : goal.returns-clause-stray
returns-clause-stray g c taken =
    let is = c.accept_and_count.ensures.stray taken in
    let same = c.fetch_uncounted.ensures.unchanged in
    let counted = is.strays in
    let before = same.strays in
    let kept = is.owed ∙ same.owed in
    let many = ap length kept in
    let some = c.requires.owes in
    record {
      stray = λ below. omega (arith, counted, before, below);
      kept = kept;
      awaits = owed-coming c.accept_and_count.new.owner (g.P.PoolEnd.seen c.accept_and_count.new.pool)
          c.accept_and_count.ensures.goes_on.gathers (omega (arith, many, some));
    }
