use Rattle.std.proofs.Common.{rules, tests}
use Rattle.std.proofs.lemmas.Iterator.{YieldsList-from_slice}
use Rattle.std.proofs.lemmas.Iterator.Search.{position_from_yields_List}
use Rattle.lj_base.proofs.WordLaws.{position_or_all, is_in_word}
use Rattle.lj_base.proofs.words.blanks_len.Goals as goal

pub returns-clause-value : goal.returns-clause-value
returns-clause-value c =
    let found =
    position_from_yields_List is_in_word _ _ c.position.result c.position.ensures.ran
    (YieldsList-from_slice c.args.line.now cc) (λ x b q k. search (rules, tests)) in
    position_or_all is_in_word c.args.line.now _ _ found c.unwrap_or.ensures
