use Rattle.std.proofs.Common.{ap, refl, ◌∙◌}
use Rattle.lj_session.specs.UserState.{UserState, user_of}
use Rattle.lj_wire.specs.ReplyTexts.{text}
use Rattle.lj_world.proofs.ItemAnswers.{wait_answered}
use Rattle.lj_world.proofs.answers.turn.Goals as goal

pub returns-in_ok-text_of-in-Some : goal.returns-in_ok-text_of-in-Some
returns-in_ok-text_of-in-Some c =
    let t = c.in-Some.ensures in
    wait_answered c.args.owner.now c.turn_session.new.self c.args.name.now c.in-Some.reply c.in_ok-text_of-in-Some.field-0
    (t.last.0 refl) t.answered.replied t.answered.idle t.kept.number t.answered.rests t.kept.others t.answered.refused
    (c.in_ok-text_of-in-Some.ensures ∙ ap (λ (s : UserState). text (user_of s) c.in-Some.reply) c.state.ensures)
