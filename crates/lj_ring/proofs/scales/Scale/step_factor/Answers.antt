use Rattle.std.proofs.Common.{◌*◌, ◌<◌, ◌≤◌, ◌^◌, ◌∙◌, sym, subst, arith}
use Rattle.std.proofs.lemmas.Bool.{ltb-true}
use Rattle.lj_ring.specs.Kept.{reach_of}
use Rattle.lj_ring.specs.Scale.{IsScale}
use Rattle.lj_ring.proofs.ScaleLemmas.{reach_parts, reach_most}
use Rattle.lj_ring.proofs.scales.Scale.step_factor.Goals as goal

pub returns-clause-near : goal.returns-clause-near
returns-clause-near c =
    let sigma = c.self.inside.sigma in
    let some : 0 < sigma * sigma = grind arith in
    subst IsScale c.self.view_is (record {
      near = λ s e.
          let below : s < reach_of (sigma * sigma) = ltb-true s (reach_of (sigma * sigma)) (sym (reach_parts s (sigma * sigma) some) ∙ e) in
          let most : reach_of (sigma * sigma) ≤ 2 ^ 62 = reach_most sigma c.self.invariant.sigma_most in
          omega (arith, below, most);
    })
