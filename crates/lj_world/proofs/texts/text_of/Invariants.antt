use Rattle.std.proofs.Common.{◌≡◌, ◌-◌, ◌+◌, ◌≤◌, take}
use Rattle.std.specs.List.{concat}
use Rattle.lj_session.specs.UserState.{user_of}
use Rattle.lj_wire.specs.ReplyTexts.{reply_lines}
use Rattle.lj_world.proofs.texts.text_of.Given as goal

abbrev pub invariant-loop-line : goal.invariant-loop-line
invariant-loop-line l = record {
  made : l.bytes.items ≡ concat (take l.k (reply_lines (user_of l.state) l.reply));
  within : l.k ≤ l.last;
}

abbrev pub decreases-loop-line : goal.decreases-loop-line
decreases-loop-line l = l.last + 1 - l.k
