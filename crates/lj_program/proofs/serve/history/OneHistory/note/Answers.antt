use Rattle.std.proofs.Common.{sym, ◌∙◌, ap}
use Rattle.lj_program.proofs.Noted.{notes_moves}
use Rattle.lj_program.proofs.serve.history.OneHistory.note.Goals as goal

pub load-requires : goal.load-requires
load-requires c =
    let word = c.self.invariant.0 in (
      ap (λ w. w.tracked) word,
      sym (ap (λ w. w.book) word),
      c.next.invariant.0 ∙ sym c.self.invariant.1,
      rw (ap (λ w. w.key) word, c.next.invariant.1) (notes_moves c.self.inside.seen.log c.next.inside.offer.ask),
    )
