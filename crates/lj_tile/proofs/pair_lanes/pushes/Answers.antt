use Rattle.std.proofs.Common.{ℕ, ◌<◌, ◌≡◌, ltb, slice_index, refl, sym, ap, ◌∙◌}
use Rattle.lj_ring.specs.declared.coordinates.Place.{Place}
use Rattle.lj_ring.specs.Bins.{near_bin}
use Rattle.lj_ring.specs.Ring.{squared_distance}
use Rattle.lj_table.specs.Entries.{push_entry, push_at, cell}
use Rattle.lj_tile.specs.Lanes.{AreApartBy}
use Rattle.lj_tile.specs.Energies.{signed_number}
use Rattle.lj_tile.proofs.LanePushes.{length_is, axis_is, entry_signed, near_cell, lane_push}
use Rattle.lj_tile.proofs.pair_lanes.pushes.Goals as goal

squares : (c : goal.After-signed_pushes-3) (k : ℕ) (p q : Place) → k < 8 → AreApartBy c.args.images.now k p q
    → slice_index c.bins-bins.result k ≡ near_bin c.args.scale.now (squared_distance p q)
squares c k p q l apart =
    let x = length_is _ _ p.x q.x (c.lengths-x.ensures k l) apart.x in
    let y = length_is _ _ p.y q.y (c.lengths-y.ensures k l) apart.y in
    let z = length_is _ _ p.z q.z (c.lengths-z.ensures k l) apart.z in
    rw (← x, ← y, ← z) (c.bins-bins.ensures.value k l)

sign : (c : goal.After-signed_pushes-3) (k : ℕ) (p q : Place) → k < 8 → AreApartBy c.args.images.now k p q
    → push_at c.args.scale.now (squared_distance p q)
    ≡ signed_number (ltb 160 (slice_index c.bins-bins.result k)) (slice_index c.push_sizes.result k)
sign c k p q l apart =
    let e : cell push_entry (slice_index c.bins-bins.result k) ≡ push_at c.args.scale.now (squared_distance p q) =
    ap (cell push_entry) (squares c k p q l apart) ∙ near_cell push_entry c.args.scale.now (squared_distance p q) in
    sym e
    ∙ entry_signed 160 (ltb 160 (slice_index c.bins-bins.result k)) (slice_index c.bins-bins.result k)
    (slice_index c.push_sizes.result k) (cell push_entry (slice_index c.bins-bins.result k)) refl
    (c.push_sizes.ensures.apart k l) (c.push_sizes.ensures.together k l)

pub returns : goal.returns
returns c k p q l apart =
    let e = sign c k p q l apart in
    let f = c.multiplied-factors.ensures.value k l in
    let h = c.step_factor.ensures.value in
    lane_push c.args.scale.now p q _ k
    (axis_is c.args.scale.now _ _ p.x q.x _ _ _ _ _ _ _ e apart.x (c.lengths-x.ensures k l) h f (c.along.ensures k l)
    (c.signed_pushes.ensures k l))
    (axis_is c.args.scale.now _ _ p.y q.y _ _ _ _ _ _ _ e apart.y (c.lengths-y.ensures k l) h f (c.along-2.ensures k l)
    (c.signed_pushes-2.ensures k l))
    (axis_is c.args.scale.now _ _ p.z q.z _ _ _ _ _ _ _ e apart.z (c.lengths-z.ensures k l) h f (c.along-3.ensures k l)
    (c.signed_pushes-3.ensures k l))
