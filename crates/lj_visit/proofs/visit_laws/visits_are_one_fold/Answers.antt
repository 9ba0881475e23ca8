use Rattle.lj_session.specs.UserState.{empty_state}
use Rattle.lj_visit.proofs.Folding.{fold_all}
use Rattle.lj_visit.proofs.visit_laws.visits_are_one_fold.Goals as goal

pub returns : goal.returns
returns c = λ quota visits last follow.
    let folds = fold_all (empty_state quota) visits last follow in
    record {
      items = folds.items;
      marks = folds.marks;
      answers = folds.answers;
      are_marks = folds.are_marks;
      last_is = folds.last_is;
      written_is = folds.written_is;
    }
