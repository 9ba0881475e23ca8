use Rattle.std.proofs.Common.{◌≡◌, ◌<◌, ℕ, length, slice_index}
use Rattle.lj_ring.specs.Ring.{IsOnRing, place_at}
use Rattle.lj_tile.specs.Grains.{grains}
use Rattle.lj_tile.proofs.near.Lanes.new.Given as goal

abbrev pub invariant-loop-s : goal.invariant-loop-s
invariant-loop-s l = record {
  x_room : length l.x ≡ 64;
  y_room : length l.y ≡ 64;
  z_room : length l.z ≡ 64;
  x : (k : ℕ) → k < l.s → slice_index l.x k ≡ grains l.grain (place_at l.places k).x;
  y : (k : ℕ) → k < l.s → slice_index l.y k ≡ grains l.grain (place_at l.places k).y;
  z : (k : ℕ) → k < l.s → slice_index l.z k ≡ grains l.grain (place_at l.places k).z;
  ring : (k : ℕ) → k < l.s → IsOnRing (place_at l.places k);
}
