use Rattle.std.proofs.Common.{◌≡◌, inl, inr, length, refl, sym, ap, ◌∙◌, subst, arith}
use Rattle.std.specs.Io.KnownBytes.{Appends}
use Rattle.std.proofs.KnownBytes.{Appends-kept}
use Rattle.std.proofs.lemmas.Bool.{true≢false}
use Rattle.std.proofs.lemmas.List.{take_all}
use Rattle.lj_session.specs.UserState.{user_of}
use Rattle.lj_session.specs.Owner.{Owner}
use Rattle.lj_wire.specs.Ends.{Rises}
use Rattle.lj_wire.specs.ReplyTexts.{text}
use Rattle.lj_engine.specs.declared.served.Served.TheVariants as served
use Rattle.lj_engine.specs.Served.{HasCause, Serves}
use Rattle.lj_engine.proofs.Dialogues.{serving-ceases, serving-fails, serving-stops, serving-halts, serving-breaks}
use Rattle.lj_engine.proofs.Dialogues.{serving-more, serving-ends, ceases_open, fails_open}
use Rattle.lj_engine.proofs.Ending.{halted_on}
use Rattle.lj_engine.proofs.Handing.{entered_serving, entered_gathers, ahead_idle, ahead_serving, ahead_pending, back_few, given, hands_back}
use Rattle.lj_engine.proofs.ItemEnds.{halt_cause, has_cause, item_cause, no_item_ends}
use Rattle.lj_engine.proofs.Quiet.{quiet-after}
use Rattle.lj_engine.proofs.Flushing.{may_read, no_item, flushes_waited, halt_flushes, item_flushes, write_flushes}
use Rattle.lj_engine.specs.Waiting.{Flushes}
use Rattle.lj_engine.proofs.serving.serve_lines.Goals as goal

pub items-init : goal.items-init
items-init g c = record {
  serving =
      entered_serving c.args.state c.args.user c.new-owner.result c.new-owner.ensures.value c.args.lines.now
      (g.W.Sink.contents c.args.writer.now) (g.P.PoolEnd.seen c.args.pool.now) c.requires.fresh c.requires.at_work;
  gathers =
      entered_gathers c.args.state c.args.user c.new-owner.result c.new-owner.ensures.value (g.P.PoolEnd.seen c.args.pool.now)
      c.requires.none_owed c.new-owner.ensures.distinct;
  idle = ap (λ (o : Owner). o.waiting) c.new-owner.ensures.value;
  quiet = λ none. absurd (true≢false none);
  number = ap (λ (o : Owner). o.number) c.new-owner.ensures.value;
  faults = refl;
  ready = inl (c.requires.fresh, refl);
  counted = λ none. none;
  own = refl;
  quota = ap (λ (o : Owner). o.state.quota) c.new-owner.ensures.value;
}

pub returns-in-Err-clause-dialogue : goal.returns-in-Err-clause-dialogue
returns-in-Err-clause-dialogue g c =
    let s = ahead_serving c.items.invariant.idle c.work_ahead.ensures.goes_on c.items.invariant.serving in
    given (λ kind state. Serves kind c.args.state c.args.lines.now.left c.items.lines.left (g.W.Sink.contents c.args.writer.now)
    (g.W.Sink.contents c.items.writer) (g.P.PoolEnd.seen c.args.pool.now) (g.P.PoolEnd.seen c.work_ahead.new.pool) state)
    c.in-Err.halt c.given_up.result c.given_up.ensures.none c.given_up.ensures.served
    (serving-stops c.args.state c.args.lines.now c.items.lines (g.W.Sink.contents c.args.writer.now)
    (g.W.Sink.contents c.items.writer) (g.P.PoolEnd.seen c.args.pool.now) (g.P.PoolEnd.seen c.work_ahead.new.pool)
    c.work_ahead.new.owner.state s c.in-Err.halt (g.P.PoolEnd.seen c.work_ahead.new.pool) c.in-Err.ensures.many
    (ahead_pending c.items.invariant.idle c.work_ahead.ensures.goes_on))

pub returns-in-Err-clause-cause : goal.returns-in-Err-clause-cause
returns-in-Err-clause-cause g c =
    subst (λ kind. HasCause kind c.items.lines.left c.args.lines.now.errors c.items.lines.errors
    (g.W.Sink.faults c.args.writer.now) (g.W.Sink.faults c.items.writer) (g.P.PoolEnd.seen c.args.pool.now)
    (g.P.PoolEnd.seen c.work_ahead.new.pool)) (sym c.given_up.ensures.served)
    (halt_cause c.items.lines.left c.args.lines.now.errors c.items.lines.errors (g.W.Sink.faults c.args.writer.now)
    (g.W.Sink.faults c.items.writer) (g.P.PoolEnd.seen c.args.pool.now) (g.P.PoolEnd.seen c.work_ahead.new.pool) c.in-Err.halt
    (halted_on c.in-Err.halt (g.P.PoolEnd.seen c.args.pool.now) (g.P.PoolEnd.seen c.items.pool)
    (g.P.PoolEnd.seen c.work_ahead.new.pool) c.items.invariant.serving.counted c.in-Err.ensures.halted))

pub returns-in-Ok-false-clause-dialogue : goal.returns-in-Ok-false-clause-dialogue
returns-in-Ok-false-clause-dialogue g c =
    let none = c.in-Ok-false.ensures.none c.in-Ok-false.field-0-test in
    let s = ahead_serving c.items.invariant.idle c.work_ahead.ensures.goes_on c.items.invariant.serving in
    let idle = ahead_idle c.items.invariant.idle c.work_ahead.ensures.goes_on in
    serving-ceases c.args.state c.args.lines.now c.items.lines (g.W.Sink.contents c.args.writer.now)
    (g.W.Sink.contents c.items.writer) (g.P.PoolEnd.seen c.args.pool.now) (g.P.PoolEnd.seen c.work_ahead.new.pool)
    c.work_ahead.new.owner.state s c.into_state.result c.into_state.ensures.user
    (back_few c.work_ahead.new.owner (g.P.PoolEnd.seen c.work_ahead.new.pool) c.work_ahead.ensures.goes_on.gathers idle
    c.into_state.result c.into_state.ensures.state)
    c.next_item.new.lines (ceases_open c.items.lines c.next_item.new.lines s.phase none)

pub returns-in-Ok-false-clause-cause : goal.returns-in-Ok-false-clause-cause
returns-in-Ok-false-clause-cause g c =
    let none = c.in-Ok-false.ensures.none c.in-Ok-false.field-0-test in
    has_cause c.next_item.new.lines.left c.args.lines.now.errors c.next_item.new.lines.errors (g.W.Sink.faults c.args.writer.now)
    (g.W.Sink.faults c.items.writer) (g.P.PoolEnd.seen c.args.pool.now) (g.P.PoolEnd.seen c.work_ahead.new.pool) served.End
    (ceases_open c.items.lines c.next_item.new.lines c.items.invariant.serving.phase none).at_end

pub returns-in-Ok-false-clause-handed_back : goal.returns-in-Ok-false-clause-handed_back
returns-in-Ok-false-clause-handed_back g c =
    hands_back c.work_ahead.new.owner (g.P.PoolEnd.seen c.work_ahead.new.pool) c.work_ahead.ensures.goes_on.gathers
    (ahead_idle c.items.invariant.idle c.work_ahead.ensures.goes_on)
    c.into_state.result c.into_state.ensures.state
    c.args.state (c.work_ahead.ensures.goes_on.quota ∙ c.items.invariant.quota)

pub returns-in-Err-next_item-clause-dialogue : goal.returns-in-Err-next_item-clause-dialogue
returns-in-Err-next_item-clause-dialogue g c =
    let s = ahead_serving c.items.invariant.idle c.work_ahead.ensures.goes_on c.items.invariant.serving in
    let idle = ahead_idle c.items.invariant.idle c.work_ahead.ensures.goes_on in
    serving-fails c.args.state c.args.lines.now c.items.lines (g.W.Sink.contents c.args.writer.now)
    (g.W.Sink.contents c.items.writer) (g.P.PoolEnd.seen c.args.pool.now) (g.P.PoolEnd.seen c.work_ahead.new.pool)
    c.work_ahead.new.owner.state s c.into_state-in-Err-next_item.result c.into_state-in-Err-next_item.ensures.user
    (back_few c.work_ahead.new.owner (g.P.PoolEnd.seen c.work_ahead.new.pool) c.work_ahead.ensures.goes_on.gathers idle
    c.into_state-in-Err-next_item.result c.into_state-in-Err-next_item.ensures.state)
    c.next_item.new.lines (fails_open c.items.lines c.next_item.new.lines s.phase c.in-Err-next_item.ensures.fault)

pub returns-in-Err-next_item-clause-cause : goal.returns-in-Err-next_item-clause-cause
returns-in-Err-next_item-clause-cause g c =
    let fails = fails_open c.items.lines c.next_item.new.lines c.items.invariant.serving.phase c.in-Err-next_item.ensures.fault in
    has_cause c.next_item.new.lines.left c.args.lines.now.errors c.next_item.new.lines.errors (g.W.Sink.faults c.args.writer.now)
    (g.W.Sink.faults c.items.writer) (g.P.PoolEnd.seen c.args.pool.now) (g.P.PoolEnd.seen c.work_ahead.new.pool) served.ReadFault
    (subst (λ errors. Rises errors c.next_item.new.lines.errors) c.items.invariant.serving.errors fails.errors_rise)

pub returns-in-Err-next_item-clause-handed_back : goal.returns-in-Err-next_item-clause-handed_back
returns-in-Err-next_item-clause-handed_back g c =
    hands_back c.work_ahead.new.owner (g.P.PoolEnd.seen c.work_ahead.new.pool) c.work_ahead.ensures.goes_on.gathers
    (ahead_idle c.items.invariant.idle c.work_ahead.ensures.goes_on)
    c.into_state-in-Err-next_item.result c.into_state-in-Err-next_item.ensures.state
    c.args.state (c.work_ahead.ensures.goes_on.quota ∙ c.items.invariant.quota)

pub returns-in-Err-answer-clause-dialogue : goal.returns-in-Err-answer-clause-dialogue
returns-in-Err-answer-clause-dialogue g c =
    let item = c.in-Ok-true.ensures.item c.in-Ok-true.field-0-test in
    let s = ahead_serving c.items.invariant.idle c.work_ahead.ensures.goes_on c.items.invariant.serving in
    given (λ kind state. Serves kind c.args.state c.args.lines.now.left c.next_item.new.lines.left
    (g.W.Sink.contents c.args.writer.now) (g.W.Sink.contents c.items.writer) (g.P.PoolEnd.seen c.args.pool.now)
    (g.P.PoolEnd.seen c.answer.new.pool) state)
    c.in-Err-answer.halt c.given_up-in-Err-answer.result c.given_up-in-Err-answer.ensures.none
    c.given_up-in-Err-answer.ensures.served
    (serving-halts c.args.state c.args.lines.now c.items.lines (g.W.Sink.contents c.args.writer.now)
    (g.W.Sink.contents c.items.writer) (g.P.PoolEnd.seen c.args.pool.now) (g.P.PoolEnd.seen c.work_ahead.new.pool)
    c.work_ahead.new.owner.state s c.next_item.new.lines c.next_item.new.item item
    c.in-Err-answer.halt (g.P.PoolEnd.seen c.answer.new.pool) c.in-Err-answer.ensures.unanswered.waits
    c.in-Err-answer.ensures.unanswered.missing)

pub returns-in-Err-answer-clause-cause : goal.returns-in-Err-answer-clause-cause
returns-in-Err-answer-clause-cause g c =
    let s = ahead_serving c.items.invariant.idle c.work_ahead.ensures.goes_on c.items.invariant.serving in
    subst (λ kind. HasCause kind c.next_item.new.lines.left c.args.lines.now.errors c.next_item.new.lines.errors
    (g.W.Sink.faults c.args.writer.now) (g.W.Sink.faults c.items.writer) (g.P.PoolEnd.seen c.args.pool.now)
    (g.P.PoolEnd.seen c.answer.new.pool)) (sym c.given_up-in-Err-answer.ensures.served)
    (halt_cause c.next_item.new.lines.left c.args.lines.now.errors c.next_item.new.lines.errors
    (g.W.Sink.faults c.args.writer.now) (g.W.Sink.faults c.items.writer) (g.P.PoolEnd.seen c.args.pool.now)
    (g.P.PoolEnd.seen c.answer.new.pool) c.in-Err-answer.halt
    (halted_on c.in-Err-answer.halt (g.P.PoolEnd.seen c.args.pool.now) (g.P.PoolEnd.seen c.work_ahead.new.pool)
    (g.P.PoolEnd.seen c.answer.new.pool) s.counted c.in-Err-answer.ensures.halted))

pub returns-in-Err-put_reply-clause-dialogue : goal.returns-in-Err-put_reply-clause-dialogue
returns-in-Err-put_reply-clause-dialogue g c =
    let item = c.in-Ok-true.ensures.item c.in-Ok-true.field-0-test in
    let begun = rw c.state.ensures at c.in-Err-put_reply.ensures.begun in
    let s = ahead_serving c.items.invariant.idle c.work_ahead.ensures.goes_on c.items.invariant.serving in
    serving-breaks c.args.state c.args.lines.now c.items.lines (g.W.Sink.contents c.args.writer.now)
    (g.W.Sink.contents c.items.writer) (g.P.PoolEnd.seen c.args.pool.now) (g.P.PoolEnd.seen c.work_ahead.new.pool)
    c.work_ahead.new.owner.state s c.next_item.new.lines c.next_item.new.item item
    c.in-Ok-answer.reply c.answer.new.owner.state c.in-Ok-answer.ensures.answered.answered begun.0
    (g.W.Sink.contents c.put_reply.new.writer) (g.P.PoolEnd.seen c.answer.new.pool) c.into_state-in-Err-put_reply.result
    c.into_state-in-Err-put_reply.ensures.user begun.1 begun.2

pub returns-in-Err-put_reply-clause-cause : goal.returns-in-Err-put_reply-clause-cause
returns-in-Err-put_reply-clause-cause g c =
    has_cause c.next_item.new.lines.left c.args.lines.now.errors c.next_item.new.lines.errors (g.W.Sink.faults c.args.writer.now)
    (g.W.Sink.faults c.put_reply.new.writer) (g.P.PoolEnd.seen c.args.pool.now) (g.P.PoolEnd.seen c.answer.new.pool)
    served.WriteFault
    (subst (λ faults. Rises faults (g.W.Sink.faults c.put_reply.new.writer)) c.items.invariant.faults
    c.in-Err-put_reply.ensures.risen)

pub returns-in-Err-put_reply-clause-handed_back : goal.returns-in-Err-put_reply-clause-handed_back
returns-in-Err-put_reply-clause-handed_back g c =
    let finished = c.in-Ok-answer.ensures.answered.finished in
    hands_back c.answer.new.owner (g.P.PoolEnd.seen c.answer.new.pool) finished.gathers finished.idle
    c.into_state-in-Err-put_reply.result c.into_state-in-Err-put_reply.ensures.state
    c.args.state (c.answer.ensures.same.quota ∙ c.work_ahead.ensures.goes_on.quota ∙ c.items.invariant.quota)

pub returns-in-Some-clause-dialogue : goal.returns-in-Some-clause-dialogue
returns-in-Some-clause-dialogue g c =
    let item = c.in-Ok-true.ensures.item c.in-Ok-true.field-0-test in
    let written = rw c.state.ensures at c.in_default.ensures.written in
    let s = ahead_serving c.items.invariant.idle c.work_ahead.ensures.goes_on c.items.invariant.serving in
    let finished = c.in-Ok-answer.ensures.answered.finished in
    serving-ends c.args.state c.args.lines.now c.items.lines (g.W.Sink.contents c.args.writer.now)
    (g.W.Sink.contents c.items.writer) (g.P.PoolEnd.seen c.args.pool.now) (g.P.PoolEnd.seen c.work_ahead.new.pool)
    c.work_ahead.new.owner.state s c.next_item.new.lines c.next_item.new.item item
    c.in-Ok-answer.reply c.answer.new.owner.state c.in-Ok-answer.ensures.answered.answered
    (g.W.Sink.contents c.put_reply.new.writer) written (g.P.PoolEnd.seen c.answer.new.pool) finished.counted finished.handed
    c.into_state-in-Some.result c.into_state-in-Some.ensures.user
    (back_few c.answer.new.owner (g.P.PoolEnd.seen c.answer.new.pool) finished.gathers finished.idle
    c.into_state-in-Some.result c.into_state-in-Some.ensures.state)
    c.in-Some.served (sym c.ending_of-ending.ensures ∙ c.in-Some.is)

pub returns-in-Some-clause-cause : goal.returns-in-Some-clause-cause
returns-in-Some-clause-cause g c =
    item_cause c.next_item.new.lines.left c.args.lines.now.errors c.next_item.new.lines.errors (g.W.Sink.faults c.args.writer.now)
    (g.W.Sink.faults c.put_reply.new.writer) (g.P.PoolEnd.seen c.args.pool.now) (g.P.PoolEnd.seen c.answer.new.pool)
    c.next_item.new.item c.in-Some.served (sym c.ending_of-ending.ensures ∙ c.in-Some.is)

pub returns-in-Some-clause-all_read : goal.returns-in-Some-clause-all_read
returns-in-Some-clause-all_read g c is =
    no_item_ends c.next_item.new.item c.in-Some.served served.ReadFault (sym c.ending_of-ending.ensures ∙ c.in-Some.is) refl is

pub returns-in-Some-clause-handed_back : goal.returns-in-Some-clause-handed_back
returns-in-Some-clause-handed_back g c =
    let finished = c.in-Ok-answer.ensures.answered.finished in
    hands_back c.answer.new.owner (g.P.PoolEnd.seen c.answer.new.pool) finished.gathers finished.idle
    c.into_state-in-Some.result c.into_state-in-Some.ensures.state
    c.args.state (c.answer.ensures.same.quota ∙ c.work_ahead.ensures.goes_on.quota ∙ c.items.invariant.quota)

pub items-preserved : goal.items-preserved
items-preserved g c =
    let item = c.in-Ok-true.ensures.item c.in-Ok-true.field-0-test in
    let written = rw c.state.ensures at c.in_default.ensures.written in
    let s = ahead_serving c.items.invariant.idle c.work_ahead.ensures.goes_on c.items.invariant.serving in
    let answered = c.in-Ok-answer.ensures.answered in
    let flushed = c.in_default-flush_before_read.ensures in
    record {
      serving =
          serving-more c.args.state c.args.lines.now c.items.lines (g.W.Sink.contents c.args.writer.now)
          (g.W.Sink.contents c.items.writer) (g.P.PoolEnd.seen c.args.pool.now) (g.P.PoolEnd.seen c.work_ahead.new.pool)
          c.work_ahead.new.owner.state s c.next_item.new.lines c.next_item.new.item item
          c.in-Ok-answer.reply c.answer.new.owner.state answered.answered (g.W.Sink.contents c.flush_before_read.new.writer)
          (Appends-kept (g.W.Sink.contents c.items.writer) (g.W.Sink.contents c.put_reply.new.writer)
          (g.W.Sink.contents c.flush_before_read.new.writer) _ written c.flush_before_read.ensures.kept) (g.P.PoolEnd.seen c.answer.new.pool) answered.finished.counted answered.finished.handed
          (sym c.ending_of-ending.ensures ∙ c.in_default-ending.is) answered.pending;
      gathers = answered.finished.gathers;
      idle = answered.finished.idle;
      quiet = λ none.
          quiet-after c.work_ahead.new.owner.state c.next_item.new.item c.answer.new.owner.state answered.pending
          c.in-Ok.has_pending c.leaves_pending-has_pending.result none c.in-Ok.ensures.quiet c.leaves_pending-has_pending.ensures;
      number = c.answer.ensures.same.number ∙ c.work_ahead.ensures.goes_on.number ∙ c.items.invariant.number;
      faults = flushed.counted ∙ c.in_default.ensures.counted ∙ c.items.invariant.faults;
      ready = inr flushed.ready;
      counted = λ none. c.answer.ensures.counted (c.work_ahead.ensures.counted (c.items.invariant.counted none));
      own = subst (λ user. g.P.PoolEnd.for_others c.answer.new.pool user ≡ g.P.PoolEnd.for_others c.work_ahead.new.pool user)
          (c.work_ahead.ensures.goes_on.number ∙ c.items.invariant.number) c.answer.ensures.own
          ∙ subst (λ user. g.P.PoolEnd.for_others c.work_ahead.new.pool user ≡ g.P.PoolEnd.for_others c.items.pool user)
          c.items.invariant.number c.work_ahead.ensures.own
          ∙ c.items.invariant.own;
      quota = c.answer.ensures.same.quota ∙ c.work_ahead.ensures.goes_on.quota ∙ c.items.invariant.quota;
    }

pub answer-requires-clause-idle : goal.answer-requires-clause-idle
answer-requires-clause-idle g c = ahead_idle c.items.invariant.idle c.work_ahead.ensures.goes_on

pub next_item-requires : goal.next_item-requires
next_item-requires g c = may_read c.items.lines _ _ c.items.invariant.ready

pub returns-in-Err-clause-flushed : goal.returns-in-Err-clause-flushed
returns-in-Err-clause-flushed g c =
    subst (λ kind. Flushes kind (g.W.Sink.unflushed c.args.writer.now) (g.W.Sink.unflushed c.items.writer))
    (sym c.given_up.ensures.served) (halt_flushes c.in-Err.halt _ _)

pub returns-in-Ok-false-clause-flushed : goal.returns-in-Ok-false-clause-flushed
returns-in-Ok-false-clause-flushed g c =
    flushes_waited served.End c.items.lines _ _ c.items.invariant.ready (λ begins.
    no_item c.in-Ok-false.field-0 (c.in-Ok-false.ensures.at_once c.items.invariant.serving.phase begins)
    c.in-Ok-false.field-0-test)

pub returns-in-Err-next_item-clause-flushed : goal.returns-in-Err-next_item-clause-flushed
returns-in-Err-next_item-clause-flushed g c =
    flushes_waited served.ReadFault c.items.lines _ _ c.items.invariant.ready (λ begins.
    let fault = c.in-Err-next_item.ensures.at_once c.items.invariant.serving.phase begins in cc)

pub returns-in-Err-answer-clause-flushed : goal.returns-in-Err-answer-clause-flushed
returns-in-Err-answer-clause-flushed g c =
    subst (λ kind. Flushes kind (g.W.Sink.unflushed c.args.writer.now) (g.W.Sink.unflushed c.items.writer))
    (sym c.given_up-in-Err-answer.ensures.served) (halt_flushes c.in-Err-answer.halt _ _)

pub returns-in-Err-put_reply-clause-flushed : goal.returns-in-Err-put_reply-clause-flushed
returns-in-Err-put_reply-clause-flushed g c = write_flushes _ _

pub returns-in-Some-clause-flushed : goal.returns-in-Some-clause-flushed
returns-in-Some-clause-flushed g c =
    item_flushes c.next_item.new.item c.in-Some.served (sym c.ending_of-ending.ensures ∙ c.in-Some.is) _ _

pub returns-in-Err-flush_before_read-clause-dialogue : goal.returns-in-Err-flush_before_read-clause-dialogue
returns-in-Err-flush_before_read-clause-dialogue g c =
    let item = c.in-Ok-true.ensures.item c.in-Ok-true.field-0-test in
    let written = rw c.state.ensures at c.in_default.ensures.written in
    let s = ahead_serving c.items.invariant.idle c.work_ahead.ensures.goes_on c.items.invariant.serving in
    let words = text (user_of c.answer.new.owner.state) c.in-Ok-answer.reply in
    serving-breaks c.args.state c.args.lines.now c.items.lines (g.W.Sink.contents c.args.writer.now)
    (g.W.Sink.contents c.items.writer) (g.P.PoolEnd.seen c.args.pool.now) (g.P.PoolEnd.seen c.work_ahead.new.pool)
    c.work_ahead.new.owner.state s c.next_item.new.lines c.next_item.new.item item
    c.in-Ok-answer.reply c.answer.new.owner.state c.in-Ok-answer.ensures.answered.answered (length words)
    (g.W.Sink.contents c.flush_before_read.new.writer) (g.P.PoolEnd.seen c.answer.new.pool)
    c.into_state-in-Err-flush_before_read.result c.into_state-in-Err-flush_before_read.ensures.user (omega arith)
    (subst (Appends (g.W.Sink.contents c.items.writer) (g.W.Sink.contents c.flush_before_read.new.writer))
    (sym (take_all (length words) words (omega arith)))
    (Appends-kept (g.W.Sink.contents c.items.writer) (g.W.Sink.contents c.put_reply.new.writer)
    (g.W.Sink.contents c.flush_before_read.new.writer) words written c.flush_before_read.ensures.kept))

pub returns-in-Err-flush_before_read-clause-cause : goal.returns-in-Err-flush_before_read-clause-cause
returns-in-Err-flush_before_read-clause-cause g c =
    has_cause c.next_item.new.lines.left c.args.lines.now.errors c.next_item.new.lines.errors (g.W.Sink.faults c.args.writer.now)
    (g.W.Sink.faults c.flush_before_read.new.writer) (g.P.PoolEnd.seen c.args.pool.now) (g.P.PoolEnd.seen c.answer.new.pool)
    served.WriteFault
    (subst (λ faults. Rises faults (g.W.Sink.faults c.flush_before_read.new.writer))
    (c.in_default.ensures.counted ∙ c.items.invariant.faults) c.in-Err-flush_before_read.ensures.risen)

pub returns-in-Err-flush_before_read-clause-flushed : goal.returns-in-Err-flush_before_read-clause-flushed
returns-in-Err-flush_before_read-clause-flushed g c = write_flushes _ _

pub returns-in-Err-flush_before_read-clause-handed_back : goal.returns-in-Err-flush_before_read-clause-handed_back
returns-in-Err-flush_before_read-clause-handed_back g c =
    let finished = c.in-Ok-answer.ensures.answered.finished in
    hands_back c.answer.new.owner (g.P.PoolEnd.seen c.answer.new.pool) finished.gathers finished.idle
    c.into_state-in-Err-flush_before_read.result c.into_state-in-Err-flush_before_read.ensures.state
    c.args.state (c.answer.ensures.same.quota ∙ c.work_ahead.ensures.goes_on.quota ∙ c.items.invariant.quota)
