-- A digit is kept after a short number, and counted after a long one.
use Rattle.lj_fixed.proofs.Leading.{leads_kept, leads_dropped}
use Rattle.lj_fixed.proofs.digits.Significand.push.Goals as goal
use Rattle.lj_fixed.proofs.digits.Significand.push.Goals.{then-self-lt-FULL, else-self-lt-FULL}

pub returns-clause-number : goal.returns-clause-number
returns-clause-number c n h =
    elim c.if-self-lt-FULL.branch [
      | then-self-lt-FULL w ↦ rw (w.result-is, w.from.ensures) (leads_kept _ _ _ _ w.if-self-lt-FULL.true h)
      | else-self-lt-FULL w ↦ rw w.result-is (leads_dropped _ _ _ _ w.if-self-lt-FULL.false c.requires.digit h)
    ]
