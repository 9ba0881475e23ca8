-- Commands as items answered alone.
use Rattle.std.proofs.Common.{false, [], ◌∷◌, map, refl, sym, ◌∙◌}
use Rattle.lj_session.specs.Users.{fresh_user}
use Rattle.lj_session.specs.Answers.{answer}
use Rattle.lj_session.specs.UserState.{UserState, Reached, user_of}
use Rattle.lj_wire.specs.declared.item.Item.TheVariants.{Command}
use Rattle.lj_wire.specs.StreamLaws.{CommandsAreItems, IsReachedAlone}

pub as_items : CommandsAreItems
as_items user [] marks = refl
as_items user (command ∷ commands) [] = as_items (answer user command false).1 commands []
as_items user (command ∷ commands) (mark ∷ marks) = as_items (answer user command mark).1 commands marks

pub reached_alone : CommandsAreItems → (state : UserState) → Reached state → IsReachedAlone (user_of state)
reached_alone are_items state reached = record {
  items = map (λ command. Command command) reached.commands;
  marks = reached.marks;
  leads = reached.leads ∙ sym (are_items (fresh_user state.quota) reached.commands reached.marks);
}
