-- What is saved in a session has as many atoms as the session.
use Rattle.std.proofs.Common.{◌≡◌, ℕ, List, [], ◌∷◌, length, Option, Some, None, Result, Ok, Err, sym, ap, ◌∙◌, subst}
use Rattle.std.specs.Prelude.{OnOk, OnErr}
use Rattle.std.specs.List.{AllByRecursion}
use Rattle.std.specs.Str.{bytes_eq}
use Rattle.std.proofs.lemmas.List.FromFn.{length-map-range_with_len}
use Rattle.lj_task.specs.Species.{Composition}
use Rattle.lj_step.specs.Motion.{Simulation, next_simulation, moved_place}
use Rattle.lj_branch.specs.declared.branch_faults.NoBranch.{NoBranch}
use Rattle.lj_branch.specs.Named.{value_named, without_value}
use Rattle.lj_session.specs.UserState.{HasCount}
use Rattle.lj_session.proofs.Entries.{by_test}

module _ (count : ℕ) (name : List ℕ) where
  pub counts-taken : (saved : List (List ℕ × Simulation)) → AllByRecursion (HasCount count) saved
      → AllByRecursion (HasCount count) (without_value name saved)
  counts-taken [] all = tt
  counts-taken (e ∷ es) all = by_test (bytes_eq name e.0)
      (λ t. rw t all.1)
      (λ t. rw t (all.0, counts-taken es all.1))

  pub counts-named : (saved : List (List ℕ × Simulation)) (sim : Simulation) → AllByRecursion (HasCount count) saved
      → value_named name saved ≡ Some sim → length sim.cur ≡ count
  counts-named [] sim all found = absurd (none found)
    where
      none : ◌≡◌ {A = Option Simulation} None (Some sim) → ⊥
      none e = cc
  counts-named (e ∷ es) sim all found = by_test (bytes_eq name e.0)
      (λ t. ap (λ (s : Simulation). length s.cur) (same e.1 sim (sym (rw t at found))) ∙ all.0)
      (λ t. counts-named es sim all.1 (rw t at found))
    where
      same : (a b : Simulation) → Some b ≡ Some a → b ≡ a
      same a b e = cc

  -- after a name is taken out, or is not there
  pub counts-forgotten : (r : Result (Unit {0}) NoBranch) (old new : List (List ℕ × Simulation))
      → OnOk r (new ≡ without_value name old) → OnErr r (new ≡ old)
      → AllByRecursion (HasCount count) old → AllByRecursion (HasCount count) new
  counts-forgotten (Ok done) old new taken same all =
      subst (AllByRecursion (HasCount count)) (sym taken) (counts-taken old all)
  counts-forgotten (Err fault) old new taken same all = subst (AllByRecursion (HasCount count)) (sym same) all

-- a step leaves the count of atoms
pub count-stepped : (u : Composition) (sim : Simulation) → length (next_simulation u sim).cur ≡ length sim.cur
count-stepped u sim = length-map-range_with_len (moved_place u sim.prev sim.cur) 0 (length sim.cur)
