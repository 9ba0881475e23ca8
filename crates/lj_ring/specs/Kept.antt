-- The numbers that a scale stores beside its three, derived from sigma.
use Rattle.std.specs.Prelude.{ℕ, ◌+◌, ◌-◌, ◌*◌, ◌/◌, ◌^◌, ◌<◌, ◌≤◌, ◌≡◌, min}
use Rattle.std.specs.Int.{div_ceil, leading_zeros, w64}
use Rattle.lj_ring.specs.Scale.{Scale}
use Rattle.lj_ring.specs.declared.scales.TheConstants.{MIN_SIGMA, MAX_STEP_FACTOR, CUTOFF_HALVES}
use Rattle.lj_ring.specs.declared.scales.Scale.TheInside.{Inside}

-- the first squared distance out of reach: the square of the cutoff, rounded up
abbrev pub reach_of : ℕ → ℕ
reach_of square = div_ceil (CUTOFF_HALVES * CUTOFF_HALVES * square) 4

-- the reciprocal of sigma² in units of 2^-95, rounded up
abbrev pub inverse_of : ℕ → ℕ
inverse_of square = div_ceil (2 ^ 95) square

-- the least length beyond the cutoff
abbrev pub cut_of : ℕ → ℕ
cut_of sigma = CUTOFF_HALVES * sigma / 2 + 1

-- how many bits 3 * cut² has beyond 32
abbrev pub shift_of : ℕ → ℕ
shift_of sigma = 32 - leading_zeros w64 (3 * (cut_of sigma * cut_of sigma))

-- the reciprocal of sigma² in units of 2^-(58 + shift), rounded down
abbrev pub reciprocal_of : ℕ → ℕ
reciprocal_of sigma = 2 ^ (58 + shift_of sigma) / (sigma * sigma)

-- the square of a length, with `cut` in place of a longer one
abbrev pub cut_square : ℕ → ℕ → ℕ
cut_square cut x = min x cut * min x cut

-- the squared distance of a pair by the lengths of its images along the axes, with `cut` in place of longer ones
abbrev pub cut_sum : ℕ → ℕ → ℕ → ℕ → ℕ
cut_sum cut x y z = cut_square cut x + cut_square cut y + cut_square cut z

-- the scale of its stored form
abbrev pub scale_of_kept : Inside → Scale
scale_of_kept a = record { edge = a.edge; sigma = a.sigma; step_factor = a.step_factor }

-- the stored numbers are derived from sigma, which is in range
pub record IsKept (a : Inside) : Type 0 where
  pub sigma_least : MIN_SIGMA ≤ a.sigma
  pub sigma_most : CUTOFF_HALVES * a.sigma < 2 ^ 32
  pub step_factor_most : a.step_factor ≤ MAX_STEP_FACTOR
  pub square_is : a.sigma_square ≡ a.sigma * a.sigma
  pub reach_is : a.reach ≡ reach_of (a.sigma * a.sigma)
  pub inverse_is : a.inverse ≡ inverse_of (a.sigma * a.sigma)
  pub cut_is : a.cut ≡ cut_of a.sigma
  pub shift_is : a.shift ≡ shift_of a.sigma
  pub reciprocal_is : a.reciprocal ≡ reciprocal_of a.sigma

-- the stored form of a scale
abbrev pub kept_of : Scale → Inside
kept_of u = record {
  edge = u.edge;
  sigma = u.sigma;
  step_factor = u.step_factor;
  sigma_square = u.sigma * u.sigma;
  reach = reach_of (u.sigma * u.sigma);
  inverse = inverse_of (u.sigma * u.sigma);
  cut = cut_of u.sigma;
  shift = shift_of u.sigma;
  reciprocal = reciprocal_of u.sigma;
}

-- scales with equal numbers are equal
same_kept : (edge sigma step_factor square square' reach reach' inverse inverse' cut cut' shift shift' : ℕ)
    → (reciprocal reciprocal' : ℕ) → square ≡ square' → reach ≡ reach' → inverse ≡ inverse' → cut ≡ cut'
    → shift ≡ shift' → reciprocal ≡ reciprocal'
    → (let a : Inside = record {
      edge = edge;
      sigma = sigma;
      step_factor = step_factor;
      sigma_square = square;
      reach = reach;
      inverse = inverse;
      cut = cut;
      shift = shift;
      reciprocal = reciprocal;
    } in
    let b : Inside =
    record {
      edge = edge;
      sigma = sigma;
      step_factor = step_factor;
      sigma_square = square';
      reach = reach';
      inverse = inverse';
      cut = cut';
      shift = shift';
      reciprocal = reciprocal';
    } in
    b ≡ a)
same_kept edge sigma step_factor square square' reach reach' inverse inverse' cut cut' shift shift' reciprocal reciprocal' p q r
    s t u =
    cc

pub kept_of-units : (a : Inside) → IsKept a → kept_of (scale_of_kept a) ≡ a
kept_of-units a h =
    same_kept a.edge a.sigma a.step_factor a.sigma_square _ a.reach _ a.inverse _ a.cut _ a.shift _ a.reciprocal _ h.square_is
    h.reach_is h.inverse_is h.cut_is h.shift_is h.reciprocal_is
