use Rattle.std.proofs.Common.{◌+◌, ◌≤◌, ap, arith, sym, ◌∙◌}
use Rattle.lj_lock.specs.EndBoxes.{EndBoxes}
use Rattle.lj_lock.specs.LockLinks.{LockLink}
use Rattle.lj_lock.proofs.CopyLemmas.{left_over}
use Rattle.lj_lock.proofs.lock_link.LockLinkPoolLinkLockClosed.push_some.Given.{Over}
use Rattle.lj_lock.proofs.lock_link.LockLinkPoolLinkLockClosed.push_some.Goals as goal
use Rattle.lj_lock.proofs.lock_link.LockLinkPoolLinkLockClosed.push_some.Goals.{After-take_back}

-- no more spare boxes have gone than tasks were posted
kept : (g : Over) (c : After-take_back g) → c.args.self.now.spare ≤ c.take_back.new.self.spare + c.post_some-posted.result
kept g c =
    let left = left_over c.post_some-posted.result c.copies_of-copies.result.items c.post_some-posted.new.copies.items
    c.copies_of-copies.ensures.boxes c.post_some-posted.ensures.hands_over in
    let noted = ap (λ (own : EndBoxes). own.spare) c.note_post.ensures in
    let taken = ap (λ (own : EndBoxes). own.spare) c.copies_of-copies.ensures.taken in
    let taken_back = ap (λ (own : EndBoxes). own.spare) c.take_back.ensures in
    let spare = ap (λ (link : LockLink). link.spare) c.self.view_is in
    omega (arith, left, noted, taken, taken_back, spare)

pub returns-clause-pushed : goal.returns-clause-pushed
returns-clause-pushed g c = record {
  user = ap (λ (link : LockLink). link.user) c.self.view_is;
  hand = ap (λ (own : EndBoxes). own.hand) c.take_back.ensures ∙ sym (ap (λ (own : EndBoxes). own.hand) c.copies_of-copies.ensures.taken)
      ∙ ap (λ (own : EndBoxes). own.hand) c.note_post.ensures ∙ ap (λ (link : LockLink). link.hand) c.self.view_is;
  boxes_kept = kept g (goal.at.returns-clause-pushed g c).After-take_back;
}
