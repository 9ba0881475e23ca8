use Rattle.std.proofs.Common.{◌≡◌, ◌*◌, ◌<◌, nat_lt, subst, arith}
use Rattle.lj_ring.specs.Scale.{Scale, is_in_cutoff}
use Rattle.lj_ring.proofs.ScaleLemmas.{reach_parts, reach_most}
use Rattle.lj_ring.proofs.scales.Scale.reach.Goals as goal

pub returns-clause-value : goal.returns-clause-value
returns-clause-value c s =
    let P : Scale → Type 0 = λ u. is_in_cutoff u s ≡ nat_lt s c.self.inside.reach in
    let some : 0 < c.self.inside.sigma * c.self.inside.sigma = grind arith in
    subst P c.self.view_is (rw c.self.invariant.reach_is
    (reach_parts s (c.self.inside.sigma * c.self.inside.sigma) some))

pub returns-clause-most : goal.returns-clause-most
returns-clause-most c = rw c.self.invariant.reach_is (reach_most c.self.inside.sigma c.self.invariant.sigma_most)
