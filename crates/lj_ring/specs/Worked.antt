-- Worked examples: scales at their limits, bins at the cutoff, and arcs with their gaps.
use Rattle.std.specs.Prelude.{◌≡◌, ◌+◌, ◌-◌, ◌*◌, ◌^◌, true, false, pos, negsuc, [], ◌∷◌, Ok, Err, refl}
use Rattle.lj_ring.specs.declared.scales.ScaleFault.TheVariants.{Edge, Sigma, StepFactor}
use Rattle.lj_ring.specs.Arcs.{arcs_of, gap, squared_gap}
use Rattle.lj_ring.specs.Bins.{near_bin}
use Rattle.lj_ring.specs.Scale.{Scale, scale_of, is_in_cutoff, entry}

least_edge : scale_of (pos (10 ^ 6)) (pos (10 ^ 5)) 1 ≡ Ok (record { edge = 10 ^ 6; sigma = 429496729; step_factor = 1 })
least_edge = refl

greatest_edge : scale_of (pos (10 ^ 15)) (pos (10 ^ 14)) (2 ^ 24)
    ≡ Ok (record { edge = 10 ^ 15; sigma = 429496729; step_factor = 2 ^ 24 })
greatest_edge = refl

edge_too_short : scale_of (pos 999999) (negsuc 0) 0 ≡ Err Edge
edge_too_short = refl

edge_too_long : scale_of (pos (10 ^ 15 + 1)) (pos (10 ^ 14)) 1 ≡ Err Edge
edge_too_long = refl

least_sigma : scale_of (pos (2 ^ 32)) (pos 65536) 1 ≡ Ok (record { edge = 2 ^ 32; sigma = 65536; step_factor = 1 })
least_sigma = refl

sigma_too_small : scale_of (pos (2 ^ 32)) (pos 65535) 0 ≡ Err Sigma
sigma_too_small = refl

sigma_too_large : scale_of (pos (5 * 10 ^ 6)) (pos (10 ^ 6 + 1)) 1 ≡ Err Sigma
sigma_too_large = refl

no_step_factor : scale_of (pos (2 ^ 32)) (pos 65536) 0 ≡ Err StepFactor
no_step_factor = refl

step_factor_too_large : scale_of (pos (2 ^ 32)) (pos 65536) (2 ^ 24 + 1) ≡ Err StepFactor
step_factor_too_large = refl

-- 2.5 sigma of 65,536 units are 163,840
units : Scale
units = record { edge = 2 ^ 32; sigma = 65536; step_factor = 1 }

below_the_cutoff : is_in_cutoff units (163840 ^ 2 - 1) ≡ true
unfolding units
below_the_cutoff = refl

at_the_cutoff : is_in_cutoff units (163840 ^ 2) ≡ false
unfolding units
at_the_cutoff = refl

near_bin_below_the_cutoff : near_bin units (163840 ^ 2 - 1) ≡ 799
unfolding units
near_bin_below_the_cutoff = refl

near_bin_at_the_cutoff : near_bin units (163840 ^ 2) ≡ 800
unfolding units
near_bin_at_the_cutoff = refl

close_bin : entry 63 ≡ 64
close_bin = refl

next_bin : entry 65 ≡ 65
next_bin = refl

-- two atoms, 10 units apart round the end of the ring
round_the_end : arcs_of
    (record { x = 4294967290; y = 7; z = 4 } ∷ record { x = 4; y = 7; z = 4294967290 } ∷ [])
    ≡ record {
      x = record { start = 4294967290; len = 10 };
      y = record { start = 7; len = 0 };
      z = record { start = 4294967290; len = 10 };
    }
unfolding arcs_of
round_the_end = refl

gap_the_short_way : gap (record { start = 4294967000; len = 200 }) (record { start = 100; len = 50 }) ≡ 196
gap_the_short_way = refl

gap_the_short_way_back : gap (record { start = 100; len = 50 }) (record { start = 4294967000; len = 200 }) ≡ 196
gap_the_short_way_back = refl

gap_of_overlapping : gap (record { start = 100; len = 50 }) (record { start = 150; len = 50 }) ≡ 0
gap_of_overlapping = refl

gap_of_one_on_the_other : gap (record { start = 100; len = 50 }) (record { start = 110; len = 5 }) ≡ 0
gap_of_one_on_the_other = refl

gap_of_one_round_the_other : gap (record { start = 110; len = 5 }) (record { start = 100; len = 50 }) ≡ 0
gap_of_one_round_the_other = refl

-- the gaps along the axes are 3, 4 and 12
squared_gap_of_two : squared_gap (arcs_of (record { x = 1; y = 1; z = 1 } ∷ record { x = 5; y = 0; z = 9 } ∷ []))
    (arcs_of (record { x = 8; y = 5; z = 4294967285 } ∷ [])) ≡ 169
unfolding arcs_of
squared_gap_of_two = refl
