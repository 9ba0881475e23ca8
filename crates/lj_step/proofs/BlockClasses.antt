-- The classes of the places of blocks are those of their atoms.
use Rattle.std.proofs.Common.{ℕ, ◌+◌, ◌*◌, ◌<◌, ◌≡◌, ◌==◌, List, sym, ap, ◌∙◌}
use Rattle.lj_ring.specs.declared.coordinates.Place.{Place}
use Rattle.lj_ring.specs.declared.mixes.Species.{Species}
use Rattle.lj_ring.specs.Mix.{Mix, class_of}
use Rattle.lj_ring.proofs.MixLemmas.{class_symmetric}
use Rattle.lj_task.specs.Block.{Block}
use Rattle.lj_task.specs.Species.{Composition, species_if, species_at, class_between}
use Rattle.lj_task.specs.Task.{Task, class_in}
use Rattle.lj_step.specs.OpenSteps.{sites_of}
use Rattle.lj_step.specs.Sets.{species_bits_in}
use Rattle.lj_step.proofs.SetLemmas.{bit_in_block}

-- the species of the atom at a place of a block
species_in : (species_bits b t : ℕ) → t < 64 → species_at species_bits (64 * b + t) ≡ species_at (species_bits_in species_bits b) t
species_in species_bits b t few = ap (λ bit. species_if (bit == 1)) (sym (bit_in_block species_bits b t few))

-- the class of two places of a task is that of their atoms
pub class_is : (u : Composition) (frame : List Place) (work : Task) (t s : ℕ) → work.mix ≡ u.mix
    → work.a ≡ sites_of u frame work.name.bi → work.b ≡ sites_of u frame work.name.bj → t < 64 → s < 64
    → class_in work t s ≡ class_between u (64 * work.name.bi + t) (64 * work.name.bj + s)
class_is u frame work t s mix a b few also =
    let first : ℕ = species_bits_in u.species_bits work.name.bi in
    ap (λ (m : Mix). class_of m (species_at work.a.species_bits t) (species_at work.b.species_bits s)) mix
    ∙ ap (λ (block : Block). class_of u.mix (species_at block.species_bits t) (species_at work.b.species_bits s)) a
    ∙ ap (λ (block : Block). class_of u.mix (species_at first t) (species_at block.species_bits s)) b
    ∙ sym (ap (λ (sp : Species). class_of u.mix sp (species_at u.species_bits (64 * work.name.bj + s)))
    (species_in u.species_bits work.name.bi t few)
    ∙ ap (class_of u.mix (species_at first t)) (species_in u.species_bits work.name.bj s also))

-- and in either order
pub class_turned : (u : Composition) (i j : ℕ) → class_between u i j ≡ class_between u j i
class_turned u i j = class_symmetric u.mix (species_at u.species_bits i) (species_at u.species_bits j)
