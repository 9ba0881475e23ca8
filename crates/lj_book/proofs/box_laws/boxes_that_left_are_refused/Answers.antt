use Rattle.lj_book.proofs.RefusedLemmas.{withdrawn_left, given_left, run_keeps, left_refused}
use Rattle.lj_book.proofs.box_laws.boxes_that_left_are_refused.Goals as goal

pub returns-clause-withdrawn : goal.returns-clause-withdrawn
returns-clause-withdrawn c = withdrawn_left

pub returns-clause-given : goal.returns-clause-given
returns-clause-given c = given_left

pub returns-clause-stays : goal.returns-clause-stays
returns-clause-stays c = run_keeps

pub returns-clause-refused : goal.returns-clause-refused
returns-clause-refused c = left_refused
