use Rattle.std.proofs.Common.{◌≡◌, Some, [], ◌∷◌, length, ap, ◌∙◌, w64, refl}
use Rattle.std.specs.Fmt.{decimal, signed_decimal}
use Rattle.std.proofs.lemmas.Int.{to_z-of_z}
use Rattle.lj_wire.specs.ReplyTexts.{line_of}
use Rattle.lj_wire.proofs.ReplyLines.{session_line_at}
use Rattle.lj_wire.proofs.replies.session_line.Goals as goal

pub returns : goal.returns
returns c =
    let step = to_z-of_z w64 c.target_at.result (record { sfits = c.target_at.type_inv }) in
    let text : c.entry_line.new.line.items ≡ line_of
    (c.name_at.result.now ∷ signed_decimal c.target_at.result
    ∷ decimal (length c.sim_at-sim.result.now.sim.cur) ∷ decimal (length c.branches_at-branches.result.now) ∷ []) =
    rw (c.entry_line.ensures, step, c.count.ensures.value, c.len.ensures.value) refl in
    ap Some text ∙ session_line_at c.args.state.now c.args.i c.name_at.result.now c.target_at.result
    c.sim_at-sim.result.now c.branches_at-branches.result.now c.name_at.ensures c.target_at.ensures
    c.sim_at-sim.ensures c.branches_at-branches.ensures
