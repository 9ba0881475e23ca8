use Rattle.std.proofs.Common.{◌≡◌, pos, ◌*ℤ◌, FitsSigned, w64, to_z, of_z, ap, ◌∙◌, arith}
use Rattle.std.proofs.lemmas.Int.{fits_signed_from_abs, to_z-of_z}
use Rattle.lj_tile.proofs.PushLemmas.{factor_size, factor_fits}
use Rattle.lj_tile.proofs.pairs.multiplied.Goals as goal

entry : (c : goal.After-from) → to_z w64 (of_z w64 c.args.entry) ≡ c.args.entry
entry c = to_z-of_z w64 c.args.entry c.ranges.entry

step_factor : (c : goal.After-from) → to_z w64 (of_z w64 c.from.result) ≡ pos c.args.step_factor
step_factor c =
    ap (λ z. to_z w64 (of_z w64 z)) c.from.ensures
    ∙ to_z-of_z w64 (pos c.args.step_factor) (fits_signed_from_abs w64 _ (omega (arith, c.requires.small_step_factor)))

fits : (c : goal.After-from) → FitsSigned w64 (c.args.entry *ℤ pos c.args.step_factor)
fits c = factor_fits c.args.entry c.args.step_factor c.requires.small_entry c.requires.small_step_factor

pub overflow_mul-result : goal.overflow_mul-result
overflow_mul-result c = rw (entry c, step_factor c) (fits c)

pub returns-clause-value : goal.returns-clause-value
returns-clause-value c = rw (entry c, step_factor c) (to_z-of_z w64 _ (fits c))

pub returns-clause-size : goal.returns-clause-size
returns-clause-size c =
    rw (entry c, step_factor c, to_z-of_z w64 _ (fits c))
    (factor_size c.args.entry c.args.step_factor c.requires.small_entry c.requires.small_step_factor)
