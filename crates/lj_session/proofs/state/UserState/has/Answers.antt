use Rattle.std.proofs.Common.{sym, ◌∙◌}
use Rattle.lj_session.proofs.Holding.{present}
use Rattle.lj_session.proofs.state.UserState.has.Goals as goal

pub returns : goal.returns
returns c = c.is_some.ensures ∙ sym (present c.args.self.now c.args.name.now c.find.result c.find.ensures)
