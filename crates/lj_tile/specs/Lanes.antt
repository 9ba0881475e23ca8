-- Places and pushes of eight pairs in lanes.
use Rattle.std.specs.Prelude.{ℕ, Bool, ◌^◌, ◌≡◌, slice_index, nat_le, if◌then◌else◌}
use Rattle.lj_ring.specs.declared.coordinates.Place.{Place}
use Rattle.lj_ring.specs.Ring.{ring_difference}
use Rattle.lj_task.specs.declared.pushes.Push.{Push}
use Rattle.lj_tile.specs.declared.pair_lanes.Eight.{Eight}

-- lane k has the differences of the coordinates of two places on the ring
pub record AreApartBy (v : Eight) (k : ℕ) (p q : Place) : Type 0 where
  pub x : slice_index v.x k ≡ ring_difference p.x q.x
  pub y : slice_index v.y k ≡ ring_difference p.y q.y
  pub z : slice_index v.z k ≡ ring_difference p.z q.z

-- lane k has the place
pub record IsPlace (v : Eight) (k : ℕ) (p : Place) : Type 0 where
  pub x : slice_index v.x k ≡ p.x
  pub y : slice_index v.y k ≡ p.y
  pub z : slice_index v.z k ≡ p.z

-- lane k has the push
pub record IsPush (v : Eight) (k : ℕ) (push : Push) : Type 0 where
  pub x : slice_index v.x k ≡ push.x
  pub y : slice_index v.y k ≡ push.y
  pub z : slice_index v.z k ≡ push.z

-- a push of this size along an image, or against it where it is attractive
abbrev pub signed_push : Bool → ℕ → ℕ → ℕ
signed_push together image size =
    if nat_le (2 ^ 31) image then (if together then size else ring_difference 0 size)
    else (if together then ring_difference 0 size else size)
