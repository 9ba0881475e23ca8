use Rattle.std.proofs.Common.{sym, ap, ◌∙◌}
use Rattle.std.specs.Option.{option_copied}
use Rattle.lj_session.proofs.Indices.{index-none, index-held}
use Rattle.lj_session.proofs.state.UserState.found.Goals as goal

pub returns-in_err-index : goal.returns-in_err-index
returns-in_err-index c =
    ap option_copied c.from_residual.ensures
    ∙ sym (index-none c.args.self.now c.args.name.now (sym c.requires ∙ c.in_err-index.was))

pub returns : goal.returns
returns c =
    sym (index-held c.args.self.now c.args.name.now c.in_ok-index.field-0 (sym c.requires ∙ c.in_ok-index.was) ∙ c.at.ensures)
