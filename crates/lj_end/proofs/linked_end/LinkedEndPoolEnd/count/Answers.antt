use Rattle.std.proofs.Common.{ap, sym, ◌∙◌, subst}
use Rattle.lj_end.specs.Accounts.{IsKnownByName}
use Rattle.lj_end.specs.LinkedEnds.{LinkedEnd}
use Rattle.lj_end.specs.Seen.{Seen}
use Rattle.lj_end.proofs.linked_end.LinkedEndPoolEnd.count.Goals as goal

pub count-requires : goal.count-requires
count-requires g c by_name =
    let shown = c.task.ensures ∙ c.shown.ensures ∙ ap (λ end. g.X.PoolLink.shown end.link) c.self.view_is in
    subst (λ (seen : Seen). IsKnownByName seen.owed c.task.result.now) (sym (ap (λ end. end.seen) c.self.view_is))
    (subst (IsKnownByName c.args.self.now.seen.owed) (sym shown) (c.requires by_name))
