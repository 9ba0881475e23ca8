use Rattle.std.proofs.KnownBytes.{Appends-kept}
use Rattle.lj_program.proofs.conversing.run_over.Goals as goal

pub returns-clause-conversation : goal.returns-clause-conversation
returns-clause-conversation g c =
    let talk = c.converse-served.ensures.dialogue in
    record {
      served = c.converse-served.result.0;
      converses = record {
        rest = talk.rest;
        seen = talk.seen;
        next = talk.next;
        serves = record {
          read = talk.serves.read;
          written = talk.serves.written;
          taken = talk.serves.taken;
          appends = Appends-kept _ _ _ _ talk.serves.appends c.finish.ensures.kept;
          is_served = talk.serves.is_served;
        };
        all = talk.all;
        never_closed = talk.never_closed;
        few_strays = talk.few_strays;
      };
      comes_to = c.finish.ensures.outcome;
    }
