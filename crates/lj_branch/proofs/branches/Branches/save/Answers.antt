use Rattle.std.proofs.Common.{◌∙◌, sym}
use Rattle.lj_branch.proofs.NamedLemmas.{put-new}
use Rattle.lj_branch.proofs.branches.Branches.save.Goals as goal

pub returns-in-Ok-clause-last : goal.returns-in-Ok-clause-last
returns-in-Ok-clause-last c =
    rw (c.in-Ok.ensures.entries, ← c.self.view_is, ← c.in_ok-copy.ensures)
    (put-new c.args.name _ c.self.inside.saved.entries (sym c.contains_key.ensures ∙ c.if-contains_key.false))
