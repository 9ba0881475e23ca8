use Rattle.std.proofs.Common.{◌≡◌, [], List}
use Rattle.lj_program.specs.Histories.{OneHistory}
use Rattle.lj_session.specs.UserState.{UserState}
use Rattle.lj_program.proofs.Noted.{all-map}
use Rattle.lj_program.proofs.serve.history.NewHistories.named.Goals as goal

pub returns-clause-empty : goal.returns-clause-empty
returns-clause-empty g c =
    all-map (λ (history : OneHistory). history.states) (λ (states : List UserState). states ≡ []) c.self.inside.all.items c.self.invariant
