-- The choice of a key.
use Rattle.std.specs.Prelude.{ℕ, ◌≤◌, ◌<◌}

-- the key is the least that passes from `pick` on, or, if none does from there on, the least that passes
pub record IsPick (Passes : ℕ → Type 0) (pick key : ℕ) : Type 0 where
  pub passes : Passes key
  pub least : pick ≤ key → (k : ℕ) → Passes k → pick ≤ k → key ≤ k
  pub around : key < pick → (k : ℕ) → Passes k → (key ≤ k) × (k < pick)
