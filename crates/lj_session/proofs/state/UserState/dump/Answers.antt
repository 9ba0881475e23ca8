use Rattle.std.proofs.Common.{sym}
use Rattle.lj_session.proofs.Holding.{named-absent, named-held}
use Rattle.lj_session.proofs.Performing as performing
use Rattle.lj_session.specs.UserState.{settled_session, user_of}
use Rattle.lj_session.proofs.state.UserState.dump.Goals as goal

pub returns-in_default : goal.returns-in_default
returns-in_default c = λ mark.
    let old = c.args.self.now in
    performing.none (user_of old) _ mark (named-absent old c.args.name (sym c.in_default.ensures))

pub returns : goal.returns
returns c = λ mark.
    let old = c.args.self.now in
    let session = c.in-Some._session.now in
    performing.dump-done (user_of old) c.args.name mark (settled_session session)
    (named-held old c.args.name session (sym c.in-Some.ensures))
