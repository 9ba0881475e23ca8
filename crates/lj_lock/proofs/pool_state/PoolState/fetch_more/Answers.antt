use Rattle.std.proofs.Common.{◌≡◌, ◌+◌, ◌++◌, ◌∷◌, [], length, ap, ◌∙◌, arith}
use Rattle.std.proofs.lemmas.List.{append_assoc, length_push}
use Rattle.std.proofs.lemmas.List.Elements.{All-push}
use Rattle.lj_book.specs.Book.{user_of_task}
use Rattle.lj_lock.specs.EndBoxes.{EndBoxes}
use Rattle.lj_lock.proofs.EndBoxLemmas.{fetches_more, users_result}
use Rattle.lj_lock.proofs.pool_state.PoolState.fetch_more.Goals as goal

pub loop-in_hand-preserved : goal.loop-in_hand-preserved
loop-in_hand-preserved g c =
    let before = c.loop-in_hand.invariant in
    let done = c.in-Some.next in
    let next = c.in-Some.ensures.some in
    let pushed = c.push.ensures in
    let one_more : length c.push.new.self.hand ≡ length c.loop-in_hand.own.hand + 1 =
    ap (λ (own : EndBoxes). length own.hand) pushed ∙ length_push c.loop-in_hand.own.hand done in
    record {
      in_hand = omega (arith, before.in_hand, one_more);
      last = ap (λ (own : EndBoxes). own.last) pushed ∙ before.last;
      spare = ap (λ (own : EndBoxes). own.spare) pushed ∙ before.spare;
      took_all = ap (λ (own : EndBoxes). own.took_all) pushed ∙ before.took_all;
      others = (
        before.others.0 ++ done ∷ [],
        ap (λ (own : EndBoxes). own.hand) pushed ∙ ap (λ front. front ++ done ∷ []) before.others.1
            ∙ append_assoc c.args.own.now.hand before.others.0 (done ∷ []),
        fetches_more before.others.0 done _ _ _ next.0 before.others.2 next.1.fetches,
        All-push (λ task. user_of_task task ≡ c.args.user) before.others.0 done before.others.3
            (users_result _ _ _ _ _ next.1.fetches next.2.passes),
      );
      kept = omega (arith, before.kept, one_more, next.1.boxes);
      made = next.1.made ∙ before.made;
      next = before.next;
      unsignalled = before.unsignalled;
      idle = before.idle;
      wait_queues = before.wait_queues;
      closed = before.closed;
      counted = next.1.fetches.given ∙ before.counted;
    }
