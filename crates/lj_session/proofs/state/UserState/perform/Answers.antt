use Rattle.std.proofs.Common.{false, refl, ap, ◌∙◌}
use Rattle.lj_session.proofs.Performing.{done, steps-same, list-done, bye-done}
use Rattle.lj_session.specs.declared.command.Command.TheVariants.{List, Bye}
use Rattle.lj_session.specs.UserState.{index_waited_for, user_of}
use Rattle.lj_session.specs.Turns.{waits_for}
use Rattle.lj_session.proofs.Holding.{none-before}
use Rattle.lj_session.proofs.state.UserState.perform.Goals as goal

pub returns-in-List-clause-performs : goal.returns-in-List-clause-performs
returns-in-List-clause-performs c =
    let old = c.args.self.now in
    rw c.in-List.is (done old old _ _ (list-done (user_of old) false) (λ other apart. refl) (steps-same old List (λ name session is there. tt)))

pub returns-in-Bye-clause-performs : goal.returns-in-Bye-clause-performs
returns-in-Bye-clause-performs c =
    let old = c.args.self.now in
    rw c.in-Bye.is (done old old _ _ (bye-done (user_of old) false) (λ other apart. refl) (steps-same old Bye (λ name session is there. tt)))

pub reverse-requires : goal.reverse-requires
unfolding waits_for
reverse-requires c = none-before c.args.self.now c.args.command c.in-Reverse.name (rw c.in-Reverse.is refl) c.requires.at_once

pub branch-self-requires : goal.branch-self-requires
unfolding waits_for
branch-self-requires c = none-before c.args.self.now c.args.command c.in-Branch.name (rw c.in-Branch.is refl) c.requires.at_once

pub restore-requires : goal.restore-requires
unfolding waits_for
restore-requires c = none-before c.args.self.now c.args.command c.in-Restore.name (rw c.in-Restore.is refl) c.requires.at_once

pub tug-requires : goal.tug-requires
unfolding waits_for
tug-requires c = none-before c.args.self.now c.args.command c.in-Tug.name (rw c.in-Tug.is refl) c.requires.at_once

pub show-requires-clause-index : goal.show-requires-clause-index
unfolding waits_for
show-requires-clause-index c = c.requires.index ∙ ap (index_waited_for c.args.self.now) c.in-Show.is

pub show-requires-clause-pending : goal.show-requires-clause-pending
unfolding waits_for
show-requires-clause-pending c = none-before c.args.self.now c.args.command c.in-Show.name (rw c.in-Show.is refl) c.requires.at_once

pub advance_at_once-requires-clause-index : goal.advance_at_once-requires-clause-index
unfolding waits_for
advance_at_once-requires-clause-index c = c.requires.index ∙ ap (index_waited_for c.args.self.now) c.in-Advance.is

pub dump-requires : goal.dump-requires
unfolding waits_for
dump-requires c = c.requires.index ∙ ap (index_waited_for c.args.self.now) c.in-Dump.is

pub unload-requires : goal.unload-requires
unfolding waits_for
unload-requires c = none-before c.args.self.now c.args.command c.in-Unload.name (rw c.in-Unload.is refl) c.requires.at_once
