-- Rows of atoms of one species and of the other.
use Rattle.std.proofs.Common.{◌≡◌, ◌≤◌, ◌<◌, ◌-◌, ◌^◌, ℕ, length, true, false, bit_and, min, refl, ap, sym, ◌∙◌, inl, inr, w64, arith}
use Rattle.std.specs.Int.{bit_at, bit_not}
use Rattle.std.proofs.lemmas.Bool.{cases_eq}
use Rattle.std.proofs.lemmas.Bool.Decides.{nat_tests}
use Rattle.std.proofs.lemmas.Nat.Bits.{bit_at_and, bit_at_not, bit_at-lt}
use Rattle.lj_ring.specs.declared.mixes.Species.TheVariants.{First, Second}
use Rattle.lj_task.specs.Species.{species_at, is_in}
use Rattle.lj_task.specs.Task.{Task}
use Rattle.lj_tile.specs.RowSets.{AreSpeciesRows, AreRowsBySpecies, of_one, of_other, of_none, IsOfOne, IsSilentRow}

-- a bit of the rows without those of a set, and of those of the set
split_bits : (rows set t : ℕ) → set < 2 ^ 64 → t < 64
    → bit_at (bit_and rows (18446744073709551615 - set)) t ≡ min (bit_at rows t) (1 - bit_at set t)
split_bits rows set t small h = bit_at_and rows (bit_not w64 set) t ∙ ap (min (bit_at rows t)) (bit_at_not w64 set t small h)

of_first : (set t : ℕ) → bit_at set t ≡ 0 → species_at set t ≡ First
of_first set t e = let f : is_in set t ≡ false = rw e (grind (arith, nat_tests)) in rw f refl

of_second : (set t : ℕ) → bit_at set t ≡ 1 → species_at set t ≡ Second
of_second set t e = let f : is_in set t ≡ true = rw e (grind (arith, nat_tests)) in rw f refl

-- the rows of atoms of the first species
first_rows : (w : Task) (rows set : ℕ) → set < 2 ^ 64 → length w.a.places ≤ 64 → set ≡ w.a.species_bits
    → ((t : ℕ) → bit_at rows t ≡ 1 → t < length w.a.places) → AreSpeciesRows w First (bit_and rows (18446744073709551615 - set))
first_rows w rows set small few e within t one = record {
  within = within t (in_rows t one);
  species =
      let h : t < 64 = omega (arith, few, within t (in_rows t one)) in
      let bits = split_bits rows set t small h in
      rw (sym e) (of_first set t (omega (arith, bits, one)));
}
  where
    in_rows : (t : ℕ) → bit_at (bit_and rows (18446744073709551615 - set)) t ≡ 1 → bit_at rows t ≡ 1
    in_rows t one =
        let both = bit_at_and rows (bit_not w64 set) t in
        omega (arith, both, one, bit_at-lt rows t, bit_at-lt (bit_not w64 set) t)

second_rows : (w : Task) (rows set : ℕ) → set ≡ w.a.species_bits
    → ((t : ℕ) → bit_at rows t ≡ 1 → t < length w.a.places) → AreSpeciesRows w Second (bit_and rows set)
second_rows w rows set e within t one = record {
  within =
      let both = bit_at_and rows set t in
      within t (omega (arith, both, one, bit_at-lt rows t, bit_at-lt set t));
  species =
      let both = bit_at_and rows set t in
      rw (sym e) (of_second set t (omega (arith, both, one, bit_at-lt rows t, bit_at-lt set t)));
}

-- each row is in one of the two, or silent
of_either : (w : Task) (rows set t : ℕ) → set < 2 ^ 64 → t < 64 → (bit_at rows t ≡ 0 → IsSilentRow w t)
    → IsOfOne (bit_and rows (18446744073709551615 - set)) (bit_and rows set) t (IsSilentRow w t)
of_either w rows set t small h silent =
    let bits = split_bits rows set t small h in
    let both = bit_at_and rows set t in
    elim (cases_eq (bit_at rows t) 1) [
      | inl one ↦ elim (cases_eq (bit_at set t) 1) [
        | inl second ↦ of_other (omega (arith, bits, one, second)) (omega (arith, both, one, second))
        | inr other ↦
            let first : bit_at set t ≡ 0 = omega (arith, other, bit_at-lt set t) in
            of_one (omega (arith, bits, one, first)) (omega (arith, both, one, first))
      ]
      | inr other ↦
          let none : bit_at rows t ≡ 0 = omega (arith, other, bit_at-lt rows t) in
          of_none (omega (arith, bits, none)) (omega (arith, both, none)) (silent none)
    ]

-- the near rows of a task, parted by the species of their atoms
pub by_species : (w : Task) (rows set : ℕ) → set < 2 ^ 64 → length w.a.places ≤ 64 → set ≡ w.a.species_bits
    → ((t : ℕ) → bit_at rows t ≡ 1 → t < length w.a.places)
    → ((t : ℕ) → t < length w.a.places → bit_at rows t ≡ 0 → IsSilentRow w t)
    → AreRowsBySpecies w (bit_and rows (18446744073709551615 - set)) (bit_and rows set)
by_species w rows set small few e within far = record {
  firsts = first_rows w rows set small few e within;
  seconds = second_rows w rows set e within;
  each = λ t h. of_either w rows set t small (omega (arith, h, few)) (far t h);
}
