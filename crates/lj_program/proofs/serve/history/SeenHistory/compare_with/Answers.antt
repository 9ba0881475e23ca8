use Rattle.std.proofs.Common.{ap, subst, List}
use mathlib.Core.List.{IsPrefix}
use Rattle.lj_session.specs.UserState.{UserState}
use Rattle.lj_program.proofs.Noted.{prefixes_of_one}
use Rattle.lj_program.proofs.serve.history.SeenHistory.compare_with.Goals as goal

pub returns-then-self-other : goal.returns-then-self-other
returns-then-self-other g c same =
    let both = c.learn.new.self.log in
    let own : IsPrefix c.self.inside.seen.log both =
    subst (λ (l : List UserState). IsPrefix l both) (ap (λ s. s.log) c.again-both.ensures) c.learn.ensures.2 in
    rw (← c.self.view_is, ← c.other.view_is) (prefixes_of_one c.self.inside.seen.log c.other.inside.seen.log both own c.learn.ensures.3)
