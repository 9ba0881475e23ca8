-- The front of the number, moved by as many places, rounds to what the number does; where digits were dropped and none
-- of the others is rounded away, both are beyond the limit.
use Rattle.std.proofs.Common.{◌∙◌, ap, sym}
use Rattle.lj_fixed.specs.WordParts.{number_within_limit}
use Rattle.lj_fixed.proofs.Leading.{then_some_within, within_limit_above, rounded_above_sub, rounded_below_sub}
use Rattle.lj_fixed.proofs.digits.Significand.scaled.Goals as goal
use Rattle.lj_fixed.proofs.digits.Significand.scaled.Goals.{then-up-down+in_ok-size, else-up-down}

pub returns-in_err-size : goal.returns-in_err-size
returns-in_err-size c n h =
    c.from_residual.ensures ∙ sym (within_limit_above _ c.in_err-size.ensures)
    ∙ rounded_above_sub _ _ n _ _ h c.if-up-down.true

pub returns : goal.returns
returns c n h =
    elim c.if-up-down.branch [
      | then-up-down+in_ok-size w ↦ c.then_some.ensures ∙ then_some_within _
          ∙ ap number_within_limit (w.size-is ∙ w.in_ok-size.ensures) ∙ rounded_above_sub _ _ n _ _ h w.if-up-down.true
      | else-up-down w ↦ c.then_some.ensures ∙ then_some_within _
          ∙ ap number_within_limit (w.size-is ∙ w.lowered-size.ensures ∙ rounded_below_sub _ _ n _ _ h w.if-up-down.false)
    ]
