use Rattle.std.proofs.Common.{◌+◌, ◌≤◌, ◌++◌, length, take, sym, ◌∙◌, ap, arith}
use Rattle.std.specs.List.{concat}
use Rattle.lj_session.specs.UserState.{user_of}
use Rattle.lj_wire.specs.ReplyTexts.{reply_lines}
use Rattle.lj_wire.proofs.ReplyTexts.{text-lines}
use Rattle.lj_wire.proofs.LineCounts.{line_more, lines_all, lines_past}
use Rattle.lj_world.proofs.texts.text_of.Goals.{in-Some+in_ok-extend_from_slice+then-k-last, in_default}
use Rattle.lj_world.proofs.texts.text_of.Goals as goal

pub loop-line-preserved : goal.loop-line-preserved
loop-line-preserved c =
    let lines = reply_lines (user_of c.args.state.now) c.args.reply.now in
    record {
      made = c.in_ok-extend_from_slice.ensures.items
          ∙ ap (λ bytes. bytes ++ c.as_slice.result.now) c.loop-line.invariant.made
          ∙ ap (λ line. concat (take c.loop-line.k lines) ++ line) c.as_slice.ensures.value
          ∙ sym (line_more lines c.loop-line.k c.in-Some.line.items (sym c.in-Some.ensures));
      within = omega (arith, c.loop-line.invariant.within, c.if-k-last.false);
    }

pub returns : goal.returns
returns c =
    let user = user_of c.args.state.now in
    let lines = reply_lines user c.args.reply.now in
    elim c.match-reply_line.branch [
      | in-Some+in_ok-extend_from_slice+then-k-last w ↦
          let all : length lines ≤ c.loop-line.k + 1 = omega (arith, c.last_line-last.ensures, w.if-k-last.true) in
          rw (c.new.ensures, w.bytes-is) (w.in_ok-extend_from_slice.ensures.items
          ∙ ap (λ bytes. bytes ++ w.as_slice.result.now) c.loop-line.invariant.made
          ∙ ap (λ line. concat (take c.loop-line.k lines) ++ line) w.as_slice.ensures.value
          ∙ sym (line_more lines c.loop-line.k w.in-Some.line.items (sym w.in-Some.ensures))
          ∙ lines_all lines (c.loop-line.k + 1) all ∙ sym (text-lines user c.args.reply.now))
      | in_default w ↦
          rw (c.new.ensures, w.bytes-is) (c.loop-line.invariant.made
          ∙ lines_all lines c.loop-line.k (lines_past lines c.loop-line.k (sym w.in_default.ensures))
          ∙ sym (text-lines user c.args.reply.now))
    ]
