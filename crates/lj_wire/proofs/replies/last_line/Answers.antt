use Rattle.std.proofs.Common.{◌+◌, ◌≤◌, Option, length, arith}
use Rattle.std.proofs.lemmas.List.{length-map}
use Rattle.lj_session.specs.UserState.{live_session_at, user_of, as_entry}
use Rattle.lj_session.specs.Users.{Session}
use Rattle.lj_wire.specs.ReplyTexts.{reply_lines, dump_lines, branch_lines, session_line}
use Rattle.lj_wire.proofs.ReplyLines.{under_name, no_name}
use Rattle.lj_wire.proofs.LineCounts.{dump-few, branches-few, one_line}
use Rattle.lj_wire.proofs.replies.last_line.Goals as goal

pub returns-in-Some : goal.returns-in-Some
unfolding reply_lines
returns-in-Some c =
    rw c.in-Dumped.is
    (under_name c.args.state.now c.in-Dumped.name c.in-Some.i
    (λ (session : Option Session). length (dump_lines c.in-Dumped.name session) ≤ c.count.result + 2 + 1)
    c.in-Some.ensures (dump-few (live_session_at c.args.state.now c.in-Some.i)
    c.sim_at.result.now c.in-Dumped.name c.count.result c.sim_at.ensures c.count.ensures.value))

pub returns-in-None : goal.returns-in-None
unfolding reply_lines
returns-in-None c = rw (c.in-Dumped.is, no_name c.args.state.now c.in-Dumped.name c.in-None.ensures) (omega arith)

pub returns-in-Listed : goal.returns-in-Listed
unfolding reply_lines
returns-in-Listed c =
    rw c.in-Listed.is
    (omega (
      arith,
      c.len.ensures.value,
      length-map (user_of c.args.state.now).sessions session_line,
      length-map c.args.state.now.sessions as_entry,
    ))

pub returns-in-Some-index_of : goal.returns-in-Some-index_of
unfolding reply_lines
returns-in-Some-index_of c =
    rw c.in-ListedBranches.is
    (under_name c.args.state.now c.in-ListedBranches.name c.in-Some-index_of.i
    (λ (session : Option Session). length (branch_lines c.in-ListedBranches.name session)
    ≤ c.len-in-Some-index_of.result + 1)
    c.in-Some-index_of.ensures
    (branches-few (live_session_at c.args.state.now c.in-Some-index_of.i)
    c.branches_at.result.now c.in-ListedBranches.name c.len-in-Some-index_of.result c.branches_at.ensures
    c.len-in-Some-index_of.ensures.value))

pub returns-in-None-index_of : goal.returns-in-None-index_of
unfolding reply_lines
returns-in-None-index_of c =
    rw (c.in-ListedBranches.is, no_name c.args.state.now c.in-ListedBranches.name c.in-None-index_of.ensures)
    (omega arith)

pub returns-in_default : goal.returns-in_default
returns-in_default c =
    one_line (user_of c.args.state.now) c.args.reply.now c.in_default.not-Dumped c.in_default.not-Listed
    c.in_default.not-ListedBranches
