use Rattle.std.proofs.Common.{◌≡◌, ◌+◌, ◌*◌, ◌^◌, length}
use Rattle.lj_step.specs.Sets.{number_of_bits}
use Rattle.lj_session.specs.Interactions.{species_bits_among}
use Rattle.lj_session.proofs.species_bits.blocks_of.Given as goal

abbrev pub invariant-loop-rest : goal.invariant-loop-rest
invariant-loop-rest l =
    species_bits_among l.symbols l.rows
    ≡ number_of_bits l.species_bits.items + 2 ^ (64 * length l.species_bits.items) * species_bits_among l.symbols l.rest

abbrev pub decreases-loop-rest : goal.decreases-loop-rest
decreases-loop-rest l = length l.rest
