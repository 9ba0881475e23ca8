use Rattle.std.proofs.Common.{arith}
use Rattle.lj_session.specs.UserState.{live_session_at}
use Rattle.lj_wire.proofs.ReplyLines.{saved_line}
use Rattle.lj_wire.proofs.replies.branches_line.Goals as goal

pub returns-clause-text : goal.returns-clause-text
returns-clause-text c =
    saved_line (live_session_at c.args.state.now c.args.i)
    c.branches_at-branches.result.now c.args.k _ c.branch_line.new.line.items (omega arith)
    c.branches_at-branches.ensures c.branch_line.ensures
