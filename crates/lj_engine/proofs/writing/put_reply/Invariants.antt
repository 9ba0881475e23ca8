use Rattle.std.proofs.Common.{◌≡◌, ◌-◌, ◌+◌, ◌≤◌, take}
use Rattle.std.specs.List.{concat}
use Rattle.std.specs.Io.KnownBytes.{Appends}
use Rattle.lj_session.specs.UserState.{user_of}
use Rattle.lj_wire.specs.ReplyTexts.{reply_lines}
use Rattle.lj_engine.proofs.writing.put_reply.Given as goal

abbrev pub invariant-loop-writer : goal.invariant-loop-writer
invariant-loop-writer g l = record {
  written : Appends (g.W.Sink.contents l.initial.writer) (g.W.Sink.contents l.writer)
      (concat (take l.k (reply_lines (user_of l.state) l.reply)));
  faults : g.W.Sink.faults l.writer ≡ g.W.Sink.faults l.initial.writer;
  within : l.k ≤ l.last;
}

abbrev pub decreases-loop-writer : goal.decreases-loop-writer
decreases-loop-writer g l = l.last + 1 - l.k
