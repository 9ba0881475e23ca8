use Rattle.std.proofs.Common.{◌+◌, ◌≤◌, length, take, sym, ◌∙◌, subst, arith}
use Rattle.std.specs.List.{concat}
use Rattle.std.specs.Io.KnownBytes.{Appends}
use Rattle.std.proofs.KnownBytes.{Appends-trans}
use Rattle.std.proofs.lemmas.Result.{err_from_is_err_and}
use Rattle.lj_session.specs.UserState.{user_of}
use Rattle.lj_wire.specs.Ends.{Rises}
use Rattle.lj_wire.specs.ReplyTexts.{text, reply_lines}
use Rattle.lj_wire.proofs.ReplyTexts.{text-lines}
use Rattle.lj_wire.proofs.LineCounts.{line_more, line_part, lines_all, lines_past}
use Rattle.lj_engine.proofs.writing.put_reply.Goals as goal

pub returns-in_err-put_all : goal.returns-in_err-put_all
returns-in_err-put_all g c =
    let user = user_of c.args.state.now in
    let lines = reply_lines user c.args.reply.now in
    let begun = rw c.as_slice.ensures.value at c.in_err-put_all.ensures.begun in
    let p = err_from_is_err_and c.from_residual.result c.from_residual.ensures.1 in
    rw p.1 (record {
      begun = line_part lines c.loop-writer.k c.put_line_at.new.line.items (sym c.in-Some.ensures.text) begun.0 begun.1
          (g.W.Sink.contents c.args.writer.now) (g.W.Sink.contents c.loop-writer.writer)
          (g.W.Sink.contents c.put_all.new.sink) (text user c.args.reply.now)
          (text-lines user c.args.reply.now) c.loop-writer.invariant.written begun.2;
      risen = subst (λ faults. Rises faults (g.W.Sink.faults c.put_all.new.sink)) c.loop-writer.invariant.faults
          c.in_err-put_all.ensures.risen;
    })

pub loop-writer-preserved : goal.loop-writer-preserved
loop-writer-preserved g c =
    let lines = reply_lines (user_of c.args.state.now) c.args.reply.now in
    let written = rw c.as_slice.ensures.value at c.in_ok-put_all.ensures.written in
    record {
      written =
          subst (Appends (g.W.Sink.contents c.args.writer.now) (g.W.Sink.contents c.put_all.new.sink))
          (sym (line_more lines c.loop-writer.k c.put_line_at.new.line.items (sym c.in-Some.ensures.text)))
          (Appends-trans (g.W.Sink.contents c.args.writer.now) (g.W.Sink.contents c.loop-writer.writer)
          (g.W.Sink.contents c.put_all.new.sink) (concat (take c.loop-writer.k lines))
          c.put_line_at.new.line.items c.loop-writer.invariant.written written);
      faults = c.in_ok-put_all.ensures.counted ∙ c.loop-writer.invariant.faults;
      within = omega (arith, c.loop-writer.invariant.within, c.if-k-last.false);
    }

pub returns-then-k-last : goal.returns-then-k-last
returns-then-k-last g c =
    let user = user_of c.args.state.now in
    let lines = reply_lines user c.args.reply.now in
    let written = rw c.as_slice.ensures.value at c.in_ok-put_all.ensures.written in
    let all : length lines ≤ c.loop-writer.k + 1 = omega (arith, c.last_line-last.ensures, c.if-k-last.true) in
    record {
      written =
          subst (Appends (g.W.Sink.contents c.args.writer.now) (g.W.Sink.contents c.put_all.new.sink))
          (sym (line_more lines c.loop-writer.k c.put_line_at.new.line.items (sym c.in-Some.ensures.text))
          ∙ lines_all lines (c.loop-writer.k + 1) all ∙ sym (text-lines user c.args.reply.now))
          (Appends-trans (g.W.Sink.contents c.args.writer.now) (g.W.Sink.contents c.loop-writer.writer)
          (g.W.Sink.contents c.put_all.new.sink) (concat (take c.loop-writer.k lines))
          c.put_line_at.new.line.items c.loop-writer.invariant.written written);
      counted = c.in_ok-put_all.ensures.counted ∙ c.loop-writer.invariant.faults;
    }

pub returns-in_default : goal.returns-in_default
returns-in_default g c =
    let user = user_of c.args.state.now in
    let lines = reply_lines user c.args.reply.now in
    record {
      written =
          subst (Appends (g.W.Sink.contents c.args.writer.now) (g.W.Sink.contents c.loop-writer.writer))
          (lines_all lines c.loop-writer.k (lines_past lines c.loop-writer.k (sym c.in_default.ensures.text))
          ∙ sym (text-lines user c.args.reply.now))
          c.loop-writer.invariant.written;
      counted = c.loop-writer.invariant.faults;
    }
