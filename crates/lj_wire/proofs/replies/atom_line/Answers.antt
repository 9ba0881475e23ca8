use Rattle.std.proofs.Common.{refl}
use Rattle.lj_session.specs.UserState.{live_session_at}
use Rattle.lj_wire.proofs.ReplyLines.{held_atom_line}
use Rattle.lj_wire.proofs.replies.atom_line.Goals as goal

pub returns : goal.returns
returns c =
    held_atom_line (live_session_at c.args.state.now c.args.i)
    c.edge_at-edge.result c.args.atom c.sim_at.result.now c.symbol_at-symbol.result.now c.end.new.line.items
    c.edge_at-edge.ensures c.sim_at.ensures c.symbol_at-symbol.ensures c.requires.atom
    (rw (
      c.end.ensures,
      c.push_atom_line.ensures.text,
      c.clear.ensures,
      c.micro_of.ensures,
      c.micro_of-2.ensures,
      c.micro_of-3.ensures,
      c.place-x.ensures,
    ) refl)
