use Rattle.std.proofs.Common.{◌-◌, ◌<◌, ◌≤◌, ◌≡◌, [], length, take}
use Rattle.lj_wire.specs.Input.{TakesBytes}
use Rattle.lj_wire.proofs.reader.load_body.fill.Given as goal

-- the first bytes of the room are taken, and none is held before it is full
abbrev pub invariant-loop-at : goal.invariant-loop-at
invariant-loop-at g l = record {
  within : l.at ≤ length l.buf;
  taken : TakesBytes l.fn.input l.input (take l.at l.buf);
  held : l.at < length l.buf → l.input.held ≡ [];
  errors : l.input.errors ≡ l.fn.input.errors;
  reads_for : length l.buf ≤ length l.fn.input.held → (l.at ≡ length l.buf) × (l.input.unread ≡ l.fn.input.unread);
}

abbrev pub decreases-loop-at : goal.decreases-loop-at
decreases-loop-at g l = length l.buf - l.at
