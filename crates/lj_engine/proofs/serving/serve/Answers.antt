use Rattle.std.proofs.Common.{◌≡◌, sym, ap, ◌∙◌, subst}
use Rattle.std.specs.Io.KnownBytes.{prepend_known}
use Rattle.lj_wire.specs.Ends.{Rises}
use Rattle.lj_engine.proofs.AllRead.{serves-all, at_end-unread}
use Rattle.lj_engine.proofs.serving.serve.Goals as goal

pub returns-clause-dialogue : goal.returns-clause-dialogue
returns-clause-dialogue g c =
    let lines = c.serve_lines-state.new.lines in
    let dialogue = rw c.new-lines.ensures.left at c.serve_lines-state.ensures.dialogue in
    serves-all c.serve_lines-state.result.1 c.args.state (g.R.Source.remaining c.args.reader)
    (g.W.Sink.contents c.args.writer.now) (g.W.Sink.contents c.serve_lines-state.new.writer)
    (g.P.PoolEnd.seen c.args.pool.now) (g.P.PoolEnd.seen c.serve_lines-state.new.pool)
    c.serve_lines-state.result.0
    lines.left (g.R.Source.remaining c.into_source.result) lines.held
    (c.into_source.ensures.ahead ∙ ap (prepend_known lines.held) (sym c.into_source.ensures.remaining))
    c.serve_lines-state.ensures.cause.end c.serve_lines-state.ensures.all_read dialogue

pub returns-clause-cause : goal.returns-clause-cause
returns-clause-cause g c =
    let lines = c.serve_lines-state.new.lines in
    let cause = c.serve_lines-state.ensures.cause in
    let first : c.new-lines.result.errors ≡ g.R.Source.errors c.args.reader = c.new-lines.ensures.errors in
    record {
      end = λ ended.
          at_end-unread lines.left (g.R.Source.remaining c.into_source.result) lines.held
          (c.into_source.ensures.ahead ∙ ap (prepend_known lines.held) (sym c.into_source.ensures.remaining))
          (cause.end ended);
      read_fault = λ failed.
          subst (λ errors. Rises errors (g.R.Source.errors c.into_source.result)) first
          (subst (Rises c.new-lines.result.errors) (sym c.into_source.ensures.errors) (cause.read_fault failed));
      write_fault = cause.write_fault;
      closed = cause.closed;
      strays = cause.strays;
    }
