use Rattle.lj_program.specs.Histories.{OneHistory}
use Rattle.lj_program.proofs.Noted.{map-set}
use Rattle.lj_program.proofs.serve.history.StateHistories.note.Goals as goal

pub returns-clause-others : goal.returns-clause-others
returns-clause-others g c =
    rw (← c.self.view_is, c.seen_of.ensures.states, ← c.from.ensures)
    (map-set (λ (h : OneHistory). h.states) c.self.inside.all.items c.from.result c.note.new.self)
