use Rattle.std.proofs.Common.{◌≡◌, ◌<◌, ◌^◌, take}
use Rattle.lj_session.specs.Interactions.{species_bits_among}
use Rattle.lj_session.proofs.species_bits.bits_of.Given as goal

abbrev pub invariant-loop-t : goal.invariant-loop-t
invariant-loop-t l = record {
  value : l.bits ≡ species_bits_among l.symbols (take l.t l.block);
  few : l.bits < 2 ^ l.t;
}
