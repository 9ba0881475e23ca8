-- The scale of a simulation, and the bins of squared distance that index its tables.
use Rattle.std.specs.Prelude.{ℕ, ◌*◌, ◌/◌, ◌^◌, ℤ, pos, ◌&&◌, Bool, int_le, nat_le, nat_lt, if◌then◌else◌, max}
use Rattle.std.specs.Prelude.{unsigned_abs, Result, Ok, Err, ◌<◌, ◌≡◌, true}
use Rattle.lj_ring.specs.declared.scales.TheConstants.{MIN_EDGE, MAX_EDGE, MIN_SIGMA, MAX_STEP_FACTOR, BINS, MIN_BIN}
use Rattle.lj_ring.specs.declared.scales.TheConstants.{BINS_TO_SQUARE, CUTOFF_HALVES}
use Rattle.lj_ring.specs.declared.scales.ScaleFault.{ScaleFault}
use Rattle.lj_ring.specs.declared.scales.ScaleFault.TheVariants.{Edge, Sigma, StepFactor}
use Rattle.lj_ring.specs.Places.{units_of}

-- the box edge in nano, sigma in ring units, and the step factor dt² ε / (m σ²) in units of 2^-32
pub record Scale : Type 0 where
  pub edge : ℕ
  pub sigma : ℕ
  pub step_factor : ℕ

-- the scale of the greatest box, with the least sigma and the least step factor
abbrev pub least_scale : Scale
least_scale = record { edge = MAX_EDGE; sigma = MIN_SIGMA; step_factor = 1 }

-- an edge is 10^6 to 10^15 nano
abbrev pub is_edge : ℤ → Bool
is_edge edge = int_le (pos MIN_EDGE) edge && int_le edge (pos MAX_EDGE)

-- sigma is 65536 ring units at the least, and the cutoff lies below half the box
abbrev pub is_sigma : ℤ → Bool
is_sigma sigma = int_le (pos MIN_SIGMA) sigma && nat_lt (CUTOFF_HALVES * unsigned_abs sigma) (2 ^ 32)

-- a step factor is 1 to 2^24
abbrev pub is_step_factor : ℕ → Bool
is_step_factor step_factor = nat_le 1 step_factor && nat_le step_factor MAX_STEP_FACTOR

-- the scale of an edge and a sigma in nano and a step factor, or the first of the three that does not fit
abbrev pub scale_of : ℤ → ℤ → ℕ → Result Scale ScaleFault
scale_of edge sigma step_factor =
    let sigma_units = units_of (unsigned_abs edge) sigma in
    if is_edge edge then
    (if is_sigma sigma_units then
    (if is_step_factor step_factor then
    Ok (record { edge = unsigned_abs edge; sigma = unsigned_abs sigma_units; step_factor = step_factor })
    else Err StepFactor)
    else Err Sigma)
    else Err Edge

-- the bin of a squared distance
abbrev pub bin : Scale → ℕ → ℕ
bin u s = BINS_TO_SQUARE * s / (u.sigma * u.sigma)

-- a pair at this squared distance interacts: it lies within the cutoff, whose bins are 128 * 2.5²
abbrev pub is_in_cutoff : Scale → ℕ → Bool
is_in_cutoff u s = nat_lt (bin u s) BINS

-- a scale by which no pair that interacts lies half the box apart
pub record IsScale (u : Scale) : Type 0 where
  pub near : (s : ℕ) → is_in_cutoff u s ≡ true → s < 2 ^ 62

-- the bin whose entry a pair in bin k uses: the closest pairs use that of bin 64
abbrev pub entry : ℕ → ℕ
entry k = max k MIN_BIN
