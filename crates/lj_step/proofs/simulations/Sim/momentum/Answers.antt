use Rattle.std.proofs.Common.{◌≡◌, ℤ, ◌∷◌, [], FitsSigned, w64, to_z, of_z, ◌∙◌, ap, refl, rules}
use Rattle.std.proofs.lemmas.Int.{to_z-of_z}
use Rattle.lj_step.specs.Motion as motion
use Rattle.lj_step.specs.Sim.{Sim}
use Rattle.lj_step.specs.KeptSims.{sim_of}
use Rattle.lj_step.proofs.simulations.Sim.momentum.Goals as goal

kept : (z w : ℤ) → FitsSigned w64 z → z ≡ w → to_z w64 (of_z w64 z) ≡ w
kept z w fits same = to_z-of_z w64 z fits ∙ same

three : (x y z a b c : ℤ) → x ≡ a → y ≡ b → z ≡ c → x ∷ y ∷ z ∷ [] ≡ a ∷ b ∷ c ∷ []
three x y z a b c p q r = cc

pub returns : goal.returns
returns c =
    let m = c.momentum_of-sum.result in
    let sums = c.momentum_of-sum.ensures in
    let now = motion.momentum (sim_of c.self.inside).sim in
    let x : m.x ≡ now.x = rw (sums.x, c.as_slice.ensures.value, c.as_slice-2.ensures.value) refl in
    let y : m.y ≡ now.y = rw (sums.y, c.as_slice.ensures.value, c.as_slice-2.ensures.value) refl in
    let z : m.z ≡ now.z = rw (sums.z, c.as_slice.ensures.value, c.as_slice-2.ensures.value) refl in
    three (to_z w64 (of_z w64 m.x)) (to_z w64 (of_z w64 m.y)) (to_z w64 (of_z w64 m.z)) now.x now.y now.z
    (kept m.x now.x (search rules) x) (kept m.y now.y (search rules) y) (kept m.z now.z (search rules) z)
    ∙ ap (λ (v : Sim). (motion.momentum v.sim).x ∷ (motion.momentum v.sim).y ∷ (motion.momentum v.sim).z ∷ [])
    c.self.view_is
