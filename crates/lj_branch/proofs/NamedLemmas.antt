-- What a caller cites of values under names.
use Rattle.std.proofs.Common.{◌≡◌, ℕ, Bool, true, false, List, [], ◌∷◌, ◌++◌, is_some, refl, ap, true≢false}
use Rattle.std.specs.Str.{bytes_eq}
use Rattle.lj_branch.specs.Named.{value_named, with_value}

-- a new name goes last
pub put-new : {A : Type 0} (name : List ℕ) (value : A) (entries : List (List ℕ × A))
    → is_some (value_named name entries) ≡ false → with_value name value entries ≡ entries ++ (name, value) ∷ []
put-new name value [] new = refl
put-new {A = A} name value (entry ∷ rest) new = at_entry (bytes_eq name entry.0) refl (put-new name value rest)
  where
    at_entry : (b : Bool) → bytes_eq name entry.0 ≡ b
        → (is_some (value_named name rest) ≡ false → with_value name value rest ≡ rest ++ (name, value) ∷ [])
        → with_value name value (entry ∷ rest) ≡ (entry ∷ rest) ++ (name, value) ∷ []
    at_entry true e below = absurd (true≢false (rw e at new))
    at_entry false e below = rw e (ap (λ l. entry ∷ l) (below (rw e at new)))
