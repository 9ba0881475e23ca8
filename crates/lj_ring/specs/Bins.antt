-- Bins of pairs in lanes, which may lie out of reach.
use Rattle.std.specs.Prelude.{ℕ, if◌then◌else◌}
use Rattle.lj_ring.specs.declared.scales.TheConstants.{BINS}
use Rattle.lj_ring.specs.Scale.{Scale, bin, is_in_cutoff}

-- the bin of a squared distance, and BINS if the pair does not interact
abbrev pub near_bin : Scale → ℕ → ℕ
near_bin u s = if is_in_cutoff u s then bin u s else BINS
