use Rattle.std.proofs.Common.{rules, sym, ◌∙◌}
use Rattle.lj_base.specs.Names.{name_of}
use Rattle.lj_base.proofs.NameLemmas.{IsOk-from_name}
use Rattle.lj_base.proofs.names.Name.parse.Goals as goal

pub returns-then-not-is_name : goal.returns-then-not-is_name
unfolding name_of
returns-then-not-is_name c = search rules

pub unwrap-text-requires : goal.unwrap-text-requires
unwrap-text-requires c =
    IsOk-from_name c.args.word.now _ _ c.from_utf8.result (sym c.is_name.ensures ∙ c.if-not-is_name.false)
    c.from_utf8.ensures.cases

pub returns : goal.returns
unfolding name_of
returns c = search rules
