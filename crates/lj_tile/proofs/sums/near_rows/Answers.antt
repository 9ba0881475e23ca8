use Rattle.std.proofs.Common.{◌≡◌, ◌<◌, ℕ, true, nat_lt, length, ap, sym, ◌∙◌, arith}
use Rattle.std.specs.Int.{bit_at}
use Rattle.std.proofs.lemmas.Bool.Decides.{nat_tests}
use Rattle.std.proofs.lemmas.Nat.Bits.{bit_at_and, bit_at-lt}
use Rattle.lj_ring.specs.Mix.{can_interact}
use Rattle.lj_ring.proofs.MixLemmas.{cannot_interact}
use Rattle.lj_task.specs.Block.{Block}
use Rattle.lj_task.specs.Species.{is_in, species_at}
use Rattle.lj_tile.proofs.RowLemmas.{far_silent}
use Rattle.lj_tile.proofs.Splits.{is_set}
use Rattle.lj_tile.proofs.sums.near_rows.Goals as goal

below : (t n : ℕ) → nat_lt t n ≡ true → t < n
below t n e = grind (arith, nat_tests)

is_below : (t n : ℕ) → t < n → nat_lt t n ≡ true
is_below t n h = grind (arith, nat_tests)

one_is : (set t : ℕ) → bit_at set t ≡ 1 → is_in set t ≡ true
one_is set t e = rw e (grind (arith, nat_tests))

places_is : (c : goal.After-rows_near) → c.places-places.result.now ≡ c.args.task.now.a.places
places_is c = c.places-places.ensures.value ∙ ap (λ (block : Block). block.places) c.first.ensures.value

pub returns-clause-within : goal.returns-clause-within
returns-clause-within c t set =
    let both = bit_at_and c.lowest_bits-all.result c.rows_near.result t in
    let in_all : bit_at c.lowest_bits-all.result t ≡ 1 =
    omega (arith, both, set, bit_at-lt c.lowest_bits-all.result t, bit_at-lt c.rows_near.result t) in
    let within = below t (length c.places-places.result.now)
    (sym (c.lowest_bits-all.ensures t) ∙ one_is c.lowest_bits-all.result t in_all) in
    rw (places_is c) at within

pub returns-clause-far : goal.returns-clause-far
returns-clause-far c t within none s also =
    let w = c.args.task.now in
    let inside : t < length c.places-places.result.now = rw (sym (places_is c)) at within in
    let in_all : bit_at c.lowest_bits-all.result t ≡ 1 =
    is_set c.lowest_bits-all.result t (c.lowest_bits-all.ensures t ∙ is_below t (length c.places-places.result.now) inside) in
    let both = bit_at_and c.lowest_bits-all.result c.rows_near.result t in
    let far : bit_at c.rows_near.result t ≡ 0 = omega (arith, both, none, in_all, bit_at-lt c.rows_near.result t) in
    far_silent w t s (c.requires.columns.first t within) (c.requires.columns.second s also)
    (cannot_interact w.mix (species_at w.a.species_bits t) (species_at w.b.species_bits s) _
    (rw (places_is c) at (c.rows_near.ensures (can_interact w.mix) w.b.places c.requires.columns.of_places t inside far s also)))
