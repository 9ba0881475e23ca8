use Rattle.std.proofs.Common.{arith}
use Rattle.lj_wire.proofs.ReplyLines.{listed_line}
use Rattle.lj_wire.proofs.replies.list_line.Goals as goal

pub returns-clause-text : goal.returns-clause-text
returns-clause-text c = listed_line c.args.state.now c.args.k _ c.session_line.new.line.items (omega arith) c.session_line.ensures
