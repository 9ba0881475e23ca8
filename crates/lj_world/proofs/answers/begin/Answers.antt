use Rattle.std.proofs.Common.{◌≡◌, ap, ◌∙◌}
use Rattle.lj_session.specs.UserState.{UserState, user_of}
use Rattle.lj_session.specs.declared.reply.Reply.{Reply}
use Rattle.lj_session.specs.declared.reply.Reply.TheVariants.{Refused}
use Rattle.lj_session.specs.Owner.{Owner, user_in}
use Rattle.lj_wire.specs.ReplyTexts.{text}
use Rattle.lj_world.proofs.ItemAnswers.{command_answered, fault_answered}
use Rattle.lj_world.proofs.answers.begin.Goals.{in-Command+in-Answered, in-Bad, in-Last}
use Rattle.lj_world.proofs.answers.begin.Goals as goal

pub returns : goal.returns
returns c =
    let made : c.in_ok-text_of.field-0 ≡ text (user_in c.match-item.owner) c.match-item.reply =
    c.in_ok-text_of.ensures ∙ ap (λ (s : UserState). text (user_of s) c.match-item.reply) c.state.ensures in
    let reply_text = λ (is : c.match-item.owner ≡ c.args.owner.now) (reply : Reply) (e : c.match-item.reply ≡ reply).
    made ∙ ap (λ (o : Owner). text (user_in o) c.match-item.reply) is ∙ ap (text (user_in c.args.owner.now)) e in
    elim c.match-item.branch [
      | in-Command+in-Answered w ↦
          let b = w.in-Answered.ensures in
          rw (w.in-Command.is, w.owner-is)
          (command_answered c.args.owner.now w.begin.new.self w.in-Command.command w.in-Answered.reply c.in_ok-text_of.field-0
          b.answered.at_once b.answered.answered b.answered.idle w.begin.ensures.kept.number w.begin.ensures.kept.others
          b.answered.steps b.unchanged (rw (← w.owner-is, ← w.reply-is) made))
      | in-Bad w ↦
          rw (w.in-Bad.is, w.owner-is)
          (fault_answered c.args.owner.now w.in-Bad.fault c.in_ok-text_of.field-0 c.requires (reply_text w.owner-is _ (w.reply-is ∙ ap Refused w.into.ensures))).0
      | in-Last w ↦
          rw (w.in-Last.is, w.owner-is)
          (fault_answered c.args.owner.now w.in-Last.fault c.in_ok-text_of.field-0 c.requires (reply_text w.owner-is _ (w.reply-is ∙ ap Refused w.into-in-Last.ensures))).1
    ]
