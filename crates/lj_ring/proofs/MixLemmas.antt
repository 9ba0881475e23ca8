-- Where no pair of a mixture interacts.
use Rattle.std.proofs.Common.{◌≡◌, ◌||◌, ◌∙◌, ℕ, Bool, true, false, inl, inr, sym, refl}
use Rattle.std.proofs.lemmas.Bool.{cases_Bool}
use Rattle.lj_ring.specs.declared.mixes.Species.{Species}
use Rattle.lj_ring.specs.declared.mixes.Species.TheVariants.{First, Second}
use Rattle.lj_ring.specs.Mix.{Mix, mixed, class_of, can_interact}
use Rattle.lj_ring.specs.Scale.{is_in_cutoff}

neither : (x y : Bool) → (x || y) ≡ false → (x ≡ false) × (y ≡ false)
neither true y e = cc
neither false y e = (refl, e)

-- what no pair of a mixture does, no pair of a class does
pub cannot_interact : (mix : Mix) (a b : Species) (s : ℕ) → can_interact mix s ≡ false
    → is_in_cutoff (class_of mix a b).scale s ≡ false
cannot_interact (mixed first unlike second) First First s e = (neither _ _ (neither _ _ e).0).0
cannot_interact (mixed first unlike second) First Second s e = (neither _ _ (neither _ _ e).0).1
cannot_interact (mixed first unlike second) Second First s e = (neither _ _ (neither _ _ e).0).1
cannot_interact (mixed first unlike second) Second Second s e = (neither _ _ e).1

-- what some class does, the mixture can
pub can_interact_from : (mix : Mix) (a b : Species) (s : ℕ) → is_in_cutoff (class_of mix a b).scale s ≡ true
    → can_interact mix s ≡ true
can_interact_from mix a b s e =
    elim (cases_Bool (can_interact mix s)) [
      | inl can ↦ can
      | inr cannot ↦ let f : false ≡ true = sym (cannot_interact mix a b s cannot) ∙ e in cc
    ]

-- the class of two atoms does not depend on their order
pub class_symmetric : (mix : Mix) (a b : Species) → class_of mix a b ≡ class_of mix b a
class_symmetric (mixed first unlike second) First First = refl
class_symmetric (mixed first unlike second) First Second = refl
class_symmetric (mixed first unlike second) Second First = refl
class_symmetric (mixed first unlike second) Second Second = refl
