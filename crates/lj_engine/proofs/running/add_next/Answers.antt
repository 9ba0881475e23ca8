use Rattle.std.proofs.Common.{◌+◌, ◌∙◌, [], ◌∷◌, length, ap, sym, subst, arith}
use Rattle.std.proofs.lemmas.List.{length-append, length-set}
use Rattle.lj_session.specs.Cursors.{IsPostedTo}
use Rattle.lj_engine.specs.Posting.{AreNext, after_posts}
use Rattle.lj_engine.proofs.Posts.{after_more, ends_more, next_more}
use Rattle.lj_engine.proofs.running.add_next.Goals as goal

pub loop-here-preserved : goal.loop-here-preserved
loop-here-preserved c =
    let owner = c.args.owner.now in
    let here = c.loop-here.here in
    let tasks = c.loop-here.tasks in
    let before = c.loop-here.invariant in
    let some = c.in-Some.ensures.task (after_posts here owner) before.at in
    let grown = ap length c.push.ensures in
    let last = after_more here owner ∙ c.in-Some.ensures.posted (after_posts here owner) before.at before.only in
    let longer = length-append tasks (c.in-Some.task ∷ []) in
    let room = before.room in
    let inside = c.loop-here-test.true in
    let few = c.requires.few in
    record {
      room = length-set c.loop-here.ends here c.in-Some.next ∙ room;
      count = omega (arith, grown, longer, before.count);
      next = subst (λ list. AreNext (here + 1) list owner) (sym c.push.ensures)
          (next_more owner tasks here c.in-Some.task before.count before.next some);
      ends = ends_more owner c.args.cursor.now c.loop-here.ends here c.in-Some.next (omega (arith, room, inside, few)) before.ends last;
      only = last;
      at = subst (λ later. IsPostedTo c.args.cursor.now c.in-Some.next owner later) (sym (after_more here owner))
          (c.in-Some.ensures.moved (after_posts here owner) before.at);
    }
