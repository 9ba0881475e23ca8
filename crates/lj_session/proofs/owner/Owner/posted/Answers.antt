use Rattle.std.proofs.Common.{◌∙◌, subst, sym}
use Rattle.std.proofs.lemmas.Bool.{false≢true}
use Rattle.std.specs.Prelude.{IsSome}
use Rattle.lj_session.proofs.Cursors.{first-task}
use Rattle.lj_session.proofs.owner.Owner.posted.Goals as goal

pub returns-clause-noted : goal.returns-clause-noted
returns-clause-noted c =
    c.post_to.ensures.noted
    ∙ sym (c.in-Some-task_past.ensures.posted c.args.self.now c.in-Some.ensures.posted c.in-Some.ensures.same)

pub returns-in_default-task_past-clause-noted : goal.returns-in_default-task_past-clause-noted
returns-in_default-task_past-clause-noted c =
    let none = sym (first-task c.args.self.now c.in-Some.cursor c.in-Some.ensures.first)
    ∙ c.in_default-task_past.ensures.none c.args.self.now c.in-Some.ensures.posted in
    absurd (false≢true (subst IsSome none c.requires))
