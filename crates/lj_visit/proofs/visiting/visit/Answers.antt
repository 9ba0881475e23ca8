use Rattle.lj_visit.proofs.Admitting.{admitted}
use Rattle.lj_visit.proofs.visiting.visit.Goals as goal

pub returns-in-Ok : goal.returns-in-Ok
returns-in-Ok g c =
    let some = rw c.in-Ok-Some-Asked.field-0-is at c.in-Ok-Some-Asked.ensures.hello in
    let greets = rw c.in-Ok-Some-Asked.field-0-0-is at some in
    admitted c.reached_is_answered_behind.ensures c.admit.result c.in-Ok-Some-Asked.name c.in-Ok-Some-Asked.token c.in-Ok.ticket.ticket c.hello.new.self
    (g.B.Backend.events c.hello-2.new.self)
    (record {
      lines = c.args.lines.now;
      writer = record {
        contents = g.W.Sink.contents c.args.writer.now;
        faults = g.W.Sink.faults c.args.writer.now;
        unflushed = g.W.Sink.unflushed c.args.writer.now;
      };
      events = g.B.Backend.events c.args.backend.now;
    })
    (record {
      lines = c.admit.new.lines;
      writer = record {
        contents = g.W.Sink.contents c.admit.new.writer;
        faults = g.W.Sink.faults c.admit.new.writer;
        unflushed = g.W.Sink.unflushed c.admit.new.writer;
      };
      events = g.B.Backend.events c.admit.new.backend;
    })
    greets c.in-Ok.ensures.granted c.admit.ensures
