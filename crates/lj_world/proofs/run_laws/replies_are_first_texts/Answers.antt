use Rattle.lj_world.proofs.RunReplies.{are_first_texts}
use Rattle.lj_world.proofs.run_laws.replies_are_first_texts.Goals as goal

pub returns : goal.returns
returns c = are_first_texts c.mark_is_told.ensures c.pending_command_laws.ensures
