use Rattle.lj_session.proofs.Performing as performing
use Rattle.lj_session.proofs.Turning.{measure-nothing}
use Rattle.lj_session.specs.UserState.{user_of}
use Rattle.lj_session.proofs.state.UserState.measure_at_once.Goals as goal

pub returns : goal.returns
returns c = λ mark.
    let user = user_of c.args.self.now in
    performing.none user _ mark (measure-nothing user c.args.name c.requires)
