use Rattle.std.proofs.Common.{ap, ◌∙◌, subst}
use Rattle.lj_wire.specs.LineReader.{BeginsWithItem}
use Rattle.lj_wire.proofs.reader.LineReader.holds_item.Goals as goal

pub returns : goal.returns
returns g c = λ yes.
    subst BeginsWithItem (c.held.ensures.value ∙ ap (λ s. s.held) c.self.view_is) (c.begins_with_item.ensures yes)
