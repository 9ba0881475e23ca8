-- Limits of scales, bins of squared distance and weights of energies.
use Rattle.std.specs.Prelude.{◌≡◌, ◌^◌, refl}
use Rattle.lj_ring.specs.declared.mixes.TheConstants.{MAX_WEIGHT, WHOLE_WEIGHT}
use Rattle.lj_ring.specs.declared.scales.TheConstants.{MIN_EDGE, MAX_EDGE, MIN_SIGMA, MAX_STEP_FACTOR}
use Rattle.lj_ring.specs.declared.scales.TheConstants.{CUTOFF_HALVES, BINS_TO_SQUARE, BINS, MIN_BIN}

-- the edge of a box is at least 0.001 file units, in nano
least_edge : MIN_EDGE ≡ 10 ^ 6
least_edge = refl

-- and at most a million
greatest_edge : MAX_EDGE ≡ 10 ^ 15
greatest_edge = refl

-- sigma is at least 65,536 ring units
least_sigma : MIN_SIGMA ≡ 65536
least_sigma = refl

-- the step factor h is at most 2^24 units of 2^-32
greatest_step_factor : MAX_STEP_FACTOR ≡ 2 ^ 24
greatest_step_factor = refl

-- no pair interacts from 2.5 sigma on
cutoff_halves : CUTOFF_HALVES ≡ 5
cutoff_halves = refl

-- the square of sigma has 128 bins
bins_to_square : BINS_TO_SQUARE ≡ 128
bins_to_square = refl

-- 800 bins lie within the cutoff
bins_within_cutoff : BINS ≡ 800
bins_within_cutoff = refl

-- closer pairs than those of bin 64 use the entries of bin 64
least_bin : MIN_BIN ≡ 64
least_bin = refl

-- a weight of energies is at most 65,536 parts
greatest_weight : MAX_WEIGHT ≡ 65536
greatest_weight = refl

-- a weight of 256 parts leaves energies as they are
whole_weight : WHOLE_WEIGHT ≡ 256
whole_weight = refl
