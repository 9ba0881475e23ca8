use Rattle.std.proofs.Common.{sym, ◌∙◌}
use Rattle.lj_branch.specs.Named.{value_named}
use Rattle.lj_session.specs.UserState.{user_of}
use Rattle.lj_session.proofs.Performing as performing
use Rattle.lj_session.proofs.Results.{none-of, some-of}
use Rattle.lj_session.proofs.state.UserState.list_branches.Goals as goal

pub returns-then-not-has : goal.returns-then-not-has
returns-then-not-has c = λ mark.
    let user = user_of c.args.self.now in
    performing.none user _ mark (none-of (value_named c.args.name user.sessions) (sym c.has.ensures ∙ c.if-not-has.true))

pub returns : goal.returns
returns c = λ mark.
    let user = user_of c.args.self.now in
    let session = some-of (value_named c.args.name user.sessions) (sym c.has.ensures ∙ c.if-not-has.false) in
    performing.list_branches-done user c.args.name mark session.0 session.1
