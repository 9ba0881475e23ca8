use Rattle.std.proofs.Common.{◌∙◌, sym}
use Rattle.lj_session.proofs.Cursors.{first-task}
use Rattle.lj_session.proofs.owner.Owner.next_task.Goals as goal

pub returns-in_default : goal.returns-in_default
returns-in_default c =
    sym (c.in_default.ensures.none c.args.self.now c.in_ok-cursor.ensures.posted)
    ∙ first-task c.args.self.now c.in_ok-cursor.cursor c.in_ok-cursor.ensures.first
