use Rattle.std.proofs.Common.{ℕ, ◌<◌, ◌≡◌, ltb, slice_index, refl, sym, ap, ◌∙◌}
use Rattle.lj_ring.specs.declared.coordinates.Place.{Place}
use Rattle.lj_ring.specs.Bins.{near_bin}
use Rattle.lj_ring.specs.Ring.{squared_distance}
use Rattle.lj_table.specs.Entries.{energy_entry, energy_at, cell, weighted_energy}
use Rattle.lj_tile.specs.Energies.{signed_number}
use Rattle.lj_tile.specs.Lanes.{AreApartBy}
use Rattle.lj_tile.proofs.LanePushes.{length_is, entry_signed, near_cell, weighted_signed}
use Rattle.lj_tile.proofs.pair_lanes.energies.Goals as goal

squares : (c : goal.After-signed_energies) (k : ℕ) (p q : Place) → k < 8 → AreApartBy c.args.images.now k p q
    → slice_index c.bins-bins.result k ≡ near_bin c.args.class.now.scale (squared_distance p q)
squares c k p q l apart =
    let x = length_is _ _ p.x q.x (c.lengths.ensures k l) apart.x in
    let y = length_is _ _ p.y q.y (c.lengths-2.ensures k l) apart.y in
    let z = length_is _ _ p.z q.z (c.lengths-3.ensures k l) apart.z in
    rw (← x, ← y, ← z) (c.bins-bins.ensures.value k l)

sign : (c : goal.After-signed_energies) (k : ℕ) (p q : Place) → k < 8 → AreApartBy c.args.images.now k p q
    → energy_at c.args.class.now.scale (squared_distance p q)
    ≡ signed_number (ltb 127 (slice_index c.bins-bins.result k)) (slice_index c.energy_sizes.result k)
sign c k p q l apart =
    let e : cell energy_entry (slice_index c.bins-bins.result k) ≡ energy_at c.args.class.now.scale (squared_distance p q) =
    ap (cell energy_entry) (squares c k p q l apart) ∙ near_cell energy_entry c.args.class.now.scale (squared_distance p q) in
    sym e
    ∙ entry_signed 127 (ltb 127 (slice_index c.bins-bins.result k)) (slice_index c.bins-bins.result k)
    (slice_index c.energy_sizes.result k) (cell energy_entry (slice_index c.bins-bins.result k)) refl
    (c.energy_sizes.ensures.positive k l) (c.energy_sizes.ensures.negative k l)

pub returns-clause-value : goal.returns-clause-value
returns-clause-value c k p q l apart =
    c.signed_energies.ensures k l
    ∙ ap (signed_number (ltb 127 (slice_index c.bins-bins.result k))) (c.weighted.ensures.value k l)
    ∙ weighted_signed (ltb 127 (slice_index c.bins-bins.result k)) (slice_index c.energy_sizes.result k) c.args.class.now.weight
    ∙ ap (weighted_energy c.args.class.now.weight) (sym (sign c k p q l apart))
