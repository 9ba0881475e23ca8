use Rattle.std.proofs.Common.{sym, ◌∙◌}
use Rattle.lj_wire.proofs.Bare.{bare_empty, bare_letter, bare_word, negated}
use Rattle.lj_wire.proofs.reader.is_bare.Goals as goal

pub returns-then-begins_no_load : goal.returns-then-begins_no_load
returns-then-begins_no_load c _ = bare_letter c.args.line.now (c.begins_no_load.ensures c.if-begins_no_load.true)

pub returns-in-Some : goal.returns-in-Some
returns-in-Some c holds =
    bare_word c.args.line.now c.in-Some.word.now _ (sym c.words_in.ensures ∙ c.in-Some.ensures.steps)
    (sym c.is_load.ensures ∙ negated c.is_load.result holds)

pub returns-in-None : goal.returns-in-None
returns-in-None c _ = bare_empty c.args.line.now (sym c.words_in.ensures ∙ c.in-None.ensures.steps.0)
