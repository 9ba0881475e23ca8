use Rattle.std.proofs.Common.{◌≡◌, w64, w32, ◌∙◌, arith}
use Rattle.std.proofs.lemmas.Int.{to_z-of_z}
use Rattle.lj_tile.proofs.PushLemmas.{along, product_fits, quotient_fits, narrow_fits}
use Rattle.lj_tile.proofs.pairs.push_along.Goals as goal

factor : (c : goal.After-from-2) → c.from.result ≡ c.args.factor
factor c = c.from.ensures ∙ to_z-of_z w64 c.args.factor c.ranges.factor

image : (c : goal.After-from-2) → c.from-2.result ≡ c.args.image
image c = c.from-2.ensures ∙ to_z-of_z w32 c.args.image c.ranges.image

pub overflow_mul-push : goal.overflow_mul-push
overflow_mul-push c = rw (factor c, image c) (product_fits c.args.factor c.args.image c.requires c.ranges.image)

pub nonzero_div-push : goal.nonzero_div-push
nonzero_div-push c =
    (omega arith, rw (factor c, image c) (quotient_fits c.args.factor c.args.image c.requires c.ranges.image))

pub overflow_cast-push : goal.overflow_cast-push
overflow_cast-push c = rw (factor c, image c) (narrow_fits c.args.factor c.args.image c.requires c.ranges.image)

pub returns : goal.returns
returns c =
    rw (
      c.cast_unsigned.ensures,
      c.from.ensures,
      c.from-2.ensures,
      to_z-of_z w64 c.args.factor c.ranges.factor,
      to_z-of_z w32 c.args.image c.ranges.image,
    )
    (along c.args.factor c.args.image c.requires c.ranges.image)
