use Rattle.std.proofs.Common.{ℕ, ◌≡◌, ◌+◌, ◌*◌, ◌<◌, slice_index, subst, arith}
use Rattle.lj_ring.specs.Bins.{near_bin}
use Rattle.lj_ring.specs.Kept.{cut_of}
use Rattle.lj_ring.specs.LaneArithmetic.{lane_square}
use Rattle.lj_ring.specs.Scale.{Scale}
use Rattle.lj_ring.proofs.BinLemmas.{reciprocal_small, cut_fits, cut_sum_most, near_bin_lane}
use Rattle.lj_ring.proofs.scales.Scale.bins.Goals as goal

pub quotients-quotients-requires-clause-small : goal.quotients-quotients-requires-clause-small
quotients-quotients-requires-clause-small c k l =
    let sigma : ℕ = c.self.inside.sigma in
    rw (c.squares_cut_off-squared.ensures k l, c.self.invariant.cut_is, c.self.invariant.shift_is)
    (omega (
      arith,
      cut_sum_most (cut_of sigma) (slice_index c.args.x k) (slice_index c.args.y k) (slice_index c.args.z k),
      cut_fits sigma c.self.invariant.sigma_least c.self.invariant.sigma_most,
    ))

pub quotients-quotients-requires-clause-fits : goal.quotients-quotients-requires-clause-fits
quotients-quotients-requires-clause-fits c =
    rw c.self.invariant.reciprocal_is
    (reciprocal_small c.self.inside.sigma c.self.invariant.sigma_least c.self.invariant.sigma_most)

pub returns-clause-value : goal.returns-clause-value
returns-clause-value c k l =
    let sigma : ℕ = c.self.inside.sigma in
    let some : 0 < sigma * sigma = grind arith in
    let P : Scale → Type 0 = λ u. slice_index c.min.result k
    ≡ near_bin u (lane_square c.args.x k + lane_square c.args.y k + lane_square c.args.z k) in
    subst P c.self.view_is
    (rw (
      c.min.ensures k l,
      c.splat.ensures k l,
      c.cast_u32.ensures k l,
      c.quotients-quotients.ensures.value k l,
      c.squares_cut_off-squared.ensures k l,
      c.self.invariant.square_is,
      c.self.invariant.cut_is,
    ) (near_bin_lane sigma (slice_index c.args.x k) (slice_index c.args.y k) (slice_index c.args.z k) some))
