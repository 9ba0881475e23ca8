use Rattle.std.proofs.Common.{◌≡◌, length}
use Rattle.lj_end.specs.declared.pool.TheConstants.{MAX_POSTS}
use Rattle.lj_session.specs.Cursors.{IsPostedTo, owner_posted_to}
use Rattle.lj_engine.specs.Posting.{AreEnds, AreNext, after_posts}
use Rattle.lj_engine.proofs.running.add_next.Given as goal

abbrev pub invariant-loop-here : goal.invariant-loop-here
invariant-loop-here l = record {
  room : length l.ends ≡ MAX_POSTS;
  count : length l.tasks ≡ l.here;
  next : AreNext l.here l.tasks l.owner;
  ends : AreEnds l.here l.ends l.cursor l.owner;
  at : IsPostedTo l.cursor l.from l.owner (after_posts l.here l.owner);
  only : after_posts l.here l.owner ≡ owner_posted_to l.cursor l.from l.owner;
}
