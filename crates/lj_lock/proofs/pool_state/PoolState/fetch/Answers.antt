use Rattle.std.proofs.Common.{ℕ, arith, ap, cond, is_some, subst, ◌++◌, ◌∙◌}
use Rattle.lj_book.specs.Book.{Fetches}
use Rattle.lj_lock.specs.EndBoxes.{EndBoxes}
use Rattle.lj_lock.specs.PoolStates.{PoolState}
use Rattle.lj_lock.proofs.EndBoxLemmas.{users_result}
use Rattle.lj_lock.proofs.pool_state.PoolState.fetch.Goals as goal

pub returns-clause-some : goal.returns-clause-some
returns-clause-some g c =
    let first = c.in-Some.ensures.some in
    let more = c.fetch_more.ensures.fetches in
    λ _. record {
      takes = record {
        first = c.in-Some.first;
        others = more.0;
        last = ap (λ (own : EndBoxes). own.last) more.1 ∙ ap (λ (own : EndBoxes). own.last) c.show.ensures;
        hand = ap (λ (own : EndBoxes). own.hand) more.1
            ∙ ap (λ (own : EndBoxes). own.hand ++ more.0) c.show.ensures
            ∙ ap (λ (own : EndBoxes). own.hand ++ more.0) c.put_spare_by.ensures.own;
        freed = let spare = ap (λ (own : EndBoxes). own.spare) more.1 ∙ ap (λ (own : EndBoxes). own.spare) c.show.ensures in
            let same = ap {B = ℕ} (λ (own : EndBoxes). cond (is_some own.last) 1 0) c.put_spare_by.ensures.own in
            omega (arith, spare, same);
        whose = users_result _ _ _ _ _ first.1.fetches first.2.passes;
        whose_others = more.3;
      };
      fetches = (
        c.fetch_box.new.self.inner,
        (
          first.0,
          subst (λ book. Fetches book c.fetch_box.new.self.inner c.in-Some.first first.0)
              (ap (λ (state : PoolState). state.book.inner) (c.self.view_is ∙ c.put_spare_by.ensures.stays))
              first.1.fetches,
        ),
        more.2,
      );
    }
