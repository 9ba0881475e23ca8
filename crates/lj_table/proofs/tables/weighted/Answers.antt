use Rattle.std.proofs.Common.{◌≡◌, ◌≤◌, ◌^◌, pos, w64, to_z, of_z, ap, ◌∙◌, refl, arith}
use Rattle.std.proofs.lemmas.Int.{fits_signed_from_abs, to_z-of_z}
use Rattle.lj_table.proofs.Quotients.{weighted_fits, part_fits, part_size}
use Rattle.lj_table.proofs.tables.weighted.Goals as goal

entry : (c : goal.After-from) → to_z w64 (of_z w64 c.args.entry) ≡ c.args.entry
entry c = to_z-of_z w64 c.args.entry c.ranges.entry

few : (c : goal.After-from) → c.args.weight ≤ 2 ^ 16
few c = omega (arith, c.parts.ensures.most, c.parts.ensures.value)

weight : (c : goal.After-from) → to_z w64 (of_z w64 c.from.result) ≡ pos c.args.weight
weight c =
    ap (λ z. to_z w64 (of_z w64 z)) (c.from.ensures ∙ ap pos c.parts.ensures.value)
    ∙ to_z-of_z w64 (pos c.args.weight) (fits_signed_from_abs w64 _ (omega (arith, few c)))

pub returns-clause-value : goal.returns-clause-value
returns-clause-value c =
    rw (
      entry c,
      weight c,
      to_z-of_z w64 _ (weighted_fits c.args.entry c.args.weight c.requires (few c)),
      to_z-of_z w64 _ (part_fits c.args.entry c.args.weight c.requires (few c)),
    )
    refl

pub returns-clause-size : goal.returns-clause-size
returns-clause-size c = rw (returns-clause-value c) (part_size c.args.entry c.args.weight c.requires (few c))
