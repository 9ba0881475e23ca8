use Rattle.std.proofs.Common.{ap, sym, ◌∙◌}
use Rattle.lj_step.specs.OpenSteps.{is_whole}
use Rattle.lj_session.specs.UserState.{LiveSession, is_whole_session}
use Rattle.lj_session.proofs.Holding.{held-there}
use Rattle.lj_session.proofs.state.UserState.is_whole_at.Goals as goal

pub returns : goal.returns
returns c name named_is =
    c.is_whole.ensures ∙ ap (λ (h : LiveSession). is_whole h.live.part) c.session.view_is
    ∙ ap is_whole_session (sym (held-there c.args.self.now c.requires.distinct c.args.i name c.at-session.result.now named_is c.at-session.ensures))
