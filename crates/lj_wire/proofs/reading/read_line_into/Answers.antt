use Rattle.std.proofs.Common.{ap, sym, ◌∙◌}
use Rattle.lj_session.specs.declared.body.LoadBody.TheVariants.{Unread}
use Rattle.lj_wire.specs.Commands.{verb_body_len, verb_item}
use Rattle.lj_wire.proofs.Parsing.{says_empty, says_words}
use Rattle.lj_wire.proofs.reading.read_line_into.Goals as goal

pub returns-in_default-clause-item : goal.returns-in_default-clause-item
returns-in_default-clause-item c =
    c.put_bad.ensures
    ∙ (says_empty c.args.line.now Unread (sym c.is_over.ensures ∙ c.if-is_over.false)
    (sym c.words_in-words.ensures ∙ c.in_default.ensures.steps.0)).item_is

pub returns-in_default-clause-body : goal.returns-in_default-clause-body
returns-in_default-clause-body c =
    (says_empty c.args.line.now Unread (sym c.is_over.ensures ∙ c.if-is_over.false)
    (sym c.words_in-words.ensures ∙ c.in_default.ensures.steps.0)).len_is

pub returns-in-Some-parse-clause-item : goal.returns-in-Some-parse-clause-item
returns-in-Some-parse-clause-item c =
    c.read_command.ensures.item
    ∙ ap (λ verb. verb_item verb c.next.new.self Unread) c.in-Some-parse.ensures
    ∙ (says_words c.args.line.now c.in-Some.word.now c.next.new.self Unread
    (sym c.is_over.ensures ∙ c.if-is_over.false) (sym c.words_in-words.ensures ∙ c.in-Some.ensures.steps)).item_is

pub returns-in-Some-parse-clause-body : goal.returns-in-Some-parse-clause-body
returns-in-Some-parse-clause-body c =
    c.read_command.ensures.body
    ∙ ap (λ verb. verb_body_len verb c.next.new.self) c.in-Some-parse.ensures
    ∙ (says_words c.args.line.now c.in-Some.word.now c.next.new.self Unread
    (sym c.is_over.ensures ∙ c.if-is_over.false) (sym c.words_in-words.ensures ∙ c.in-Some.ensures.steps)).len_is

pub returns-in-None-clause-item : goal.returns-in-None-clause-item
returns-in-None-clause-item c =
    c.put_bad-in-None.ensures
    ∙ ap (λ verb. verb_item verb c.next.new.self Unread) c.in-None.ensures
    ∙ (says_words c.args.line.now c.in-Some.word.now c.next.new.self Unread
    (sym c.is_over.ensures ∙ c.if-is_over.false) (sym c.words_in-words.ensures ∙ c.in-Some.ensures.steps)).item_is

pub returns-in-None-clause-body : goal.returns-in-None-clause-body
returns-in-None-clause-body c =
    ap (λ verb. verb_body_len verb c.next.new.self) c.in-None.ensures
    ∙ (says_words c.args.line.now c.in-Some.word.now c.next.new.self Unread
    (sym c.is_over.ensures ∙ c.if-is_over.false) (sym c.words_in-words.ensures ∙ c.in-Some.ensures.steps)).len_is
