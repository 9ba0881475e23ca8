-- Simulations saved under names, in order of saving.
use Rattle.std.specs.Prelude.{ℕ, ℤ, List, map}
use Rattle.lj_step.specs.Motion.{Simulation}

-- the names, in order of saving
abbrev pub saved_names : List (List ℕ × Simulation) → List (List ℕ)
saved_names saved = map (λ entry. entry.0) saved

-- the step numbers of the saved simulations, in order of saving
abbrev pub step_numbers : List (List ℕ × Simulation) → List ℤ
step_numbers saved = map (λ entry. entry.1.step) saved
