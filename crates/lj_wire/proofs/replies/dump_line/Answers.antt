use Rattle.std.proofs.Common.{◌≡◌, Option, Some, None, slice_get, arith}
use Rattle.lj_session.specs.UserState.{live_session_at}
use Rattle.lj_session.specs.Users.{Session}
use Rattle.lj_wire.specs.ReplyTexts.{dump_lines}
use Rattle.lj_wire.proofs.ReplyLines.{dumped_atom, past_last_atom, settled}
use Rattle.lj_wire.proofs.replies.dump_line.Goals as goal

pub returns-in_default-clause-text : goal.returns-in_default-clause-text
returns-in_default-clause-text c =
    settled (live_session_at c.args.state.now c.args.i)
    (λ (session : Option Session). Some c.atom_line.new.line.items
    ≡ slice_get (dump_lines c.args.name.now session) c.args.k)
    c.requires.settled
    (dumped_atom (live_session_at c.args.state.now c.args.i) c.args.k _ _ _ (Some c.atom_line.new.line.items)
    (omega arith) c.atom_line.ensures)

pub returns-in_default-2-clause-text : goal.returns-in_default-2-clause-text
returns-in_default-2-clause-text c =
    settled (live_session_at c.args.state.now c.args.i)
    (λ (session : Option Session). None ≡ slice_get (dump_lines c.args.name.now session) c.args.k)
    c.requires.settled
    (dumped_atom (live_session_at c.args.state.now c.args.i) c.args.k _ _ _ None (omega arith)
    (past_last_atom (live_session_at c.args.state.now c.args.i) c.sim_at-sim.result.now _ c.sim_at-sim.ensures (omega arith)))
