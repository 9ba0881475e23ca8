use Rattle.std.proofs.Common.{ℕ, ℤ, pos, ◌≡◌, ◌<◌, ◌^◌, unsigned_abs, FitsSigned, w64, rules, arith, length-set, ◌≢◌, get_or-set_other, ap, ◌∙◌}
use Rattle.std.proofs.lemmas.Int.{to_z-of_z}
use Rattle.lj_ring.specs.Scale.{entry}
use Rattle.lj_table.specs.Entries.{push_entry, energy_entry}
use Rattle.lj_table.proofs.Cells.{cells_more, size_read}
use Rattle.lj_table.proofs.Signs.{sizes_whole}
use Rattle.lj_table.proofs.tables.Table.new.Goals as goal

pub loop-k-preserved : goal.loop-k-preserved
loop-k-preserved c =
    let push_fits : FitsSigned w64 c.push_entry.result = search rules in
    let energy_fits : FitsSigned w64 c.energy_entry.result = search rules in
    let IsPush : ℕ → ℤ → Type 0 = λ k z. z ≡ push_entry (entry k) in
    let IsEnergy : ℕ → ℤ → Type 0 = λ k z. z ≡ energy_entry (entry k) in
    let IsSmall : ℕ → ℤ → Type 0 = λ k z. unsigned_abs z < 2 ^ 37 in
    let value : c.push_entry.result ≡ push_entry (entry c.loop-k.k) =
    rw (← c.max.ensures) c.push_entry.ensures.value in
    let energy_value : c.energy_entry.result ≡ energy_entry (entry c.loop-k.k) =
    rw (← c.max-in-loop-k.ensures) c.energy_entry.ensures.value in
    let IsPushSize : ℕ → ℕ → Type 0 = λ k n. n ≡ unsigned_abs (push_entry (entry k)) in
    let IsEnergySize : ℕ → ℕ → Type 0 = λ k n. n ≡ unsigned_abs (energy_entry (entry k)) in
    let push_size : c.unsigned_abs.result ≡ unsigned_abs c.push_entry.result =
    c.unsigned_abs.ensures.value
    ∙ size_read c.loop-k.pushes c.from.result c.from-in-loop-k-2.result c.loop-k.k c.push_entry.result c.from.ensures
    c.from-in-loop-k-2.ensures (omega (arith, c.loop-k.invariant.push_cells)) push_fits in
    let energy_size : c.unsigned_abs-in-loop-k.result ≡ unsigned_abs c.energy_entry.result =
    c.unsigned_abs-in-loop-k.ensures.value
    ∙ size_read c.loop-k.energies c.from-in-loop-k.result c.from-in-loop-k-4.result c.loop-k.k c.energy_entry.result
    c.from-in-loop-k.ensures c.from-in-loop-k-4.ensures (omega (arith, c.loop-k.invariant.energy_cells)) energy_fits in
    rw (
      c.from.ensures,
      c.from-in-loop-k.ensures,
      c.from-in-loop-k-3.ensures,
      c.from-in-loop-k-5.ensures,
      to_z-of_z w64 c.push_entry.result push_fits,
      to_z-of_z w64 c.energy_entry.result energy_fits,
    )
    record {
      push_cells = rw length-set c.loop-k.invariant.push_cells;
      energy_cells = rw length-set c.loop-k.invariant.energy_cells;
      pushes = cells_more (pos 0) IsPush c.loop-k.pushes c.loop-k.k c.push_entry.result
          (omega (arith, c.loop-k.invariant.push_cells)) c.loop-k.invariant.pushes
          value;
      energies =
          cells_more (pos 0) IsEnergy c.loop-k.energies c.loop-k.k c.energy_entry.result
          (omega (arith, c.loop-k.invariant.energy_cells)) c.loop-k.invariant.energies
          energy_value;
      small_pushes =
          cells_more (pos 0) IsSmall c.loop-k.pushes c.loop-k.k c.push_entry.result
          (omega (arith, c.loop-k.invariant.push_cells)) c.loop-k.invariant.small_pushes c.push_entry.ensures.size;
      small_energies =
          cells_more (pos 0) IsSmall c.loop-k.energies c.loop-k.k c.energy_entry.result
          (omega (arith, c.loop-k.invariant.energy_cells)) c.loop-k.invariant.small_energies c.energy_entry.ensures.size;
      push_size_cells = rw length-set c.loop-k.invariant.push_size_cells;
      energy_size_cells = rw length-set c.loop-k.invariant.energy_size_cells;
      push_sizes =
          cells_more 0 IsPushSize c.loop-k.push_sizes c.loop-k.k c.unsigned_abs.result
          (omega (arith, c.loop-k.invariant.push_size_cells)) c.loop-k.invariant.push_sizes
          (push_size ∙ ap unsigned_abs value);
      energy_sizes =
          cells_more 0 IsEnergySize c.loop-k.energy_sizes c.loop-k.k c.unsigned_abs-in-loop-k.result
          (omega (arith, c.loop-k.invariant.energy_size_cells)) c.loop-k.invariant.energy_sizes
          (energy_size ∙ ap unsigned_abs energy_value);
      last_push = let ne : 800 ≢ c.loop-k.k = omega arith in rw get_or-set_other c.loop-k.invariant.last_push;
      last_energy = let ne : 800 ≢ c.loop-k.k = omega arith in rw get_or-set_other c.loop-k.invariant.last_energy;
    }

pub invariant_of-result-clause-sizes_of_pushes : goal.invariant_of-result-clause-sizes_of_pushes
invariant_of-result-clause-sizes_of_pushes c =
    sizes_whole push_entry c.loop-k.push_sizes c.loop-k.invariant.last_push (λ j h. c.loop-k.invariant.push_sizes j (omega arith))

pub invariant_of-result-clause-sizes_of_energies : goal.invariant_of-result-clause-sizes_of_energies
invariant_of-result-clause-sizes_of_energies c =
    sizes_whole energy_entry c.loop-k.energy_sizes c.loop-k.invariant.last_energy
    (λ j h. c.loop-k.invariant.energy_sizes j (omega arith))
