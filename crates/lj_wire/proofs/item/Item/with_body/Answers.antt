use Rattle.std.proofs.Common.{ap, ◌∙◌}
use Rattle.lj_wire.specs.Items.{with_body}
use Rattle.lj_wire.proofs.Filling.{line_filled}
use Rattle.lj_wire.proofs.item.Item.with_body.Goals as goal

pub returns-clause-whole : goal.returns-clause-whole
returns-clause-whole c line e =
    c.put_body.ensures.value ∙ ap (λ item. with_body item c.args.body) e ∙ line_filled line c.args.body
