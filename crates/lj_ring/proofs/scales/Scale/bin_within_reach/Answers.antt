use Rattle.std.proofs.Common.{◌≡◌, ◌≤◌, ◌*◌, ◌<◌, false, subst, arith}
use Rattle.lj_ring.specs.Kept.{reach_of}
use Rattle.lj_ring.specs.Scale.{Scale, is_in_cutoff}
use Rattle.lj_ring.proofs.ScaleLemmas.{out_of_reach}
use Rattle.lj_ring.proofs.scales.Scale.bin_within_reach.Goals as goal

pub returns-else-s-self-clause-reach : goal.returns-else-s-self-clause-reach
returns-else-s-self-clause-reach c =
    let P : Scale → Type 0 = λ u. is_in_cutoff u c.args.s ≡ false in
    let far : reach_of (c.self.inside.sigma * c.self.inside.sigma) ≤ c.args.s =
    rw (← c.self.invariant.reach_is) c.if-s-self.false in
    let some : 0 < c.self.inside.sigma * c.self.inside.sigma = grind arith in
    subst P c.self.view_is (out_of_reach c.args.s (c.self.inside.sigma * c.self.inside.sigma) some far)
