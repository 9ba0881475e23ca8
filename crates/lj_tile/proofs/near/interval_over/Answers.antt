use Rattle.std.proofs.Common.{◌≡◌, ◌≤◌, ◌+◌, ◌/◌, ◌%◌, ◌^◌, ℕ, slice_index, refl, arith}
use Rattle.lj_tile.specs.Grains.{grains_between, grains_apart}
use Rattle.lj_tile.proofs.NearLanes.{each_of_four}
use Rattle.lj_tile.proofs.NearLemmas.{in_interval}
use Rattle.lj_tile.proofs.near.interval_over.Goals as goal

abbrev start_of : goal.After-saturating_sub → ℕ
start_of c = (slice_index c.args.grains.now 0 + 2 ^ 15) % 2 ^ 16

-- a coordinate whose way from the start is between the least and the greatest
lies_in : (c : goal.After-saturating_sub) (g d : ℕ) → d ≡ grains_between g (start_of c) → c.reduce_min-least.result ≤ d → d ≤ c.reduce_max-greatest.result
    → let half = c.saturating_sub.result / 2 + 1 in
    grains_apart g (((start_of c + c.reduce_min-least.result) % 2 ^ 16 + half) % 2 ^ 16) ≤ half
lies_in c g d way over under =
    in_interval g (start_of c) c.reduce_min-least.result c.reduce_max-greatest.result c.saturating_sub.result (omega arith) c.saturating_sub.ensures
    (omega (arith, way, over)) (omega (arith, way, under))

pub returns : goal.returns
returns c =
    each_of_four
    (λ k. let half = c.saturating_sub.result / 2 + 1 in
    grains_apart (slice_index c.args.grains.now k) (((start_of c + c.reduce_min-least.result) % 2 ^ 16 + half) % 2 ^ 16) ≤ half)
    (λ k l. lies_in c (slice_index c.args.grains.now (0 + k)) (slice_index c.sub-a.result k)
    (rw (c.sub-a.ensures k l, c.sixteen.ensures k l, c.splat-starts.ensures k l) refl)
    (omega (arith, c.reduce_min-least.ensures k l, c.min-3.ensures k l, c.min.ensures k l))
    (omega (arith, c.reduce_max-greatest.ensures k l, c.max-3.ensures k l, c.max.ensures k l)))
    (λ k l. lies_in c (slice_index c.args.grains.now (16 + k)) (slice_index c.sub-b.result k)
    (rw (c.sub-b.ensures k l, c.sixteen-2.ensures k l, c.splat-starts.ensures k l) refl)
    (omega (arith, c.reduce_min-least.ensures k l, c.min-3.ensures k l, c.min.ensures k l))
    (omega (arith, c.reduce_max-greatest.ensures k l, c.max-3.ensures k l, c.max.ensures k l)))
    (λ k l. lies_in c (slice_index c.args.grains.now (32 + k)) (slice_index c.sub-c.result k)
    (rw (c.sub-c.ensures k l, c.sixteen-3.ensures k l, c.splat-starts.ensures k l) refl)
    (omega (arith, c.reduce_min-least.ensures k l, c.min-3.ensures k l, c.min-2.ensures k l))
    (omega (arith, c.reduce_max-greatest.ensures k l, c.max-3.ensures k l, c.max-2.ensures k l)))
    (λ k l. lies_in c (slice_index c.args.grains.now (48 + k)) (slice_index c.sub-d.result k)
    (rw (c.sub-d.ensures k l, c.sixteen-4.ensures k l, c.splat-starts.ensures k l) refl)
    (omega (arith, c.reduce_min-least.ensures k l, c.min-3.ensures k l, c.min-2.ensures k l))
    (omega (arith, c.reduce_max-greatest.ensures k l, c.max-3.ensures k l, c.max-2.ensures k l)))
