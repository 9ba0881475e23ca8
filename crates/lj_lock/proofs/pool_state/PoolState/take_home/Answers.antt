use Rattle.std.proofs.Common.{◌≡◌, ◌+◌, ap, sym, subst}
use Rattle.lj_book.specs.Boxes.{BoxBook, WithdrawsBox, boxes}
use Rattle.lj_lock.specs.EndBoxes.{end_box_count}
use Rattle.lj_lock.specs.PoolStates.{PoolState, Withdrawn}
use Rattle.lj_lock.proofs.pool_state.PoolState.take_home.Given.{Over}
use Rattle.lj_lock.proofs.pool_state.PoolState.take_home.Goals.{After-put_all_by}
use Rattle.lj_lock.proofs.pool_state.PoolState.take_home.Goals as goal

-- the book once the boxes are spare
put : (g : Over) (c : After-put_all_by g) → c.put_all_by.new.self.book
    ≡ record c.args.self.now.book { spare = c.put_all_by.new.self.book.spare }
put g c = ap (λ (s : PoolState). s.book) c.put_all_by.ensures.stays

pub returns-in-Some-clause-book : goal.returns-in-Some-clause-book
returns-in-Some-clause-book g c =
    let p = (goal.at.returns-in-Some-clause-book g c).After-put_all_by in
    record {
      spare = c.put_all_by.new.self.book.spare;
      kept = λ few. subst (λ (b : BoxBook). boxes b ≡ boxes c.args.self.now.book + end_box_count c.args.own) (put g p)
          (c.put_all_by.ensures.kept few);
      withdrawn =
          subst (λ u. Withdrawn u (record c.args.self.now.book { spare = c.put_all_by.new.self.book.spare }) c.withdraw.new.self.book)
          (sym c.in-Some.is)
          (subst (λ (b : BoxBook). WithdrawsBox c.in-Some.user b c.withdraw.new.self.book) (put g p) c.withdraw.ensures.withdraws);
    }

pub returns-in_default-clause-book : goal.returns-in_default-clause-book
returns-in_default-clause-book g c =
    let p = (goal.at.returns-in_default-clause-book g c).After-put_all_by in
    record {
      spare = c.put_all_by.new.self.book.spare;
      kept = λ few. subst (λ (b : BoxBook). boxes b ≡ boxes c.args.self.now.book + end_box_count c.args.own) (put g p)
          (c.put_all_by.ensures.kept few);
      withdrawn =
          subst (λ u. Withdrawn u (record c.args.self.now.book { spare = c.put_all_by.new.self.book.spare })
          c.put_all_by.new.self.book) (sym c.in_default.is) (put g p);
    }
