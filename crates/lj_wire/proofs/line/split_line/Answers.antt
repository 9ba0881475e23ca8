use Rattle.lj_wire.proofs.Lines.{lacks_nowhere, lacks_before, cut_at}
use Rattle.lj_wire.proofs.line.split_line.Goals as goal

pub returns-in_err-end : goal.returns-in_err-end
returns-in_err-end c = rw c.from_residual.ensures (lacks_nowhere c.args.stream.now c.in_err-end.ensures)

pub returns : goal.returns
returns c = (
  cut_at c.args.stream.now c.split_at.result.0.now c.split_at.result.1.now c.in_ok-end.end c.in_ok-end.ensures.0.high
      c.in_ok-end.ensures.1 c.split_at.ensures.front c.split_at.ensures.back,
  rw c.split_at.ensures.front (lacks_before c.args.stream.now c.in_ok-end.end c.in_ok-end.ensures.0),
)
