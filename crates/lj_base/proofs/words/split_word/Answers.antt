use Rattle.std.proofs.Common.{sym, ◌∙◌, eqb-true, arith}
use Rattle.std.proofs.lemmas.Bool.{eqb-false}
use Rattle.lj_base.proofs.WordLaws.{no_word, word_at}
use Rattle.lj_base.proofs.words.split_word.Goals as goal

pub returns-then-is_empty : goal.returns-then-is_empty
returns-then-is_empty c =
    no_word c.args.line.now c.blanks_len.result c.blanks_len.ensures.value
    (eqb-true _ 0 (sym c.is_empty.ensures ∙ c.if-is_empty.true))

pub returns : goal.returns
returns c =
    let some = eqb-false _ 0 (sym c.is_empty.ensures ∙ c.if-is_empty.false) in
    word_at c.args.line.now _ _ c.blanks_len.result c.word_len.result c.blanks_len.ensures.value (omega (arith, some))
    c.word_len.ensures.value c.split_at.ensures.front c.split_at.ensures.back
