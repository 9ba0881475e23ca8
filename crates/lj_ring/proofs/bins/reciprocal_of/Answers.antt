use Rattle.std.proofs.Common.{◌+◌, arith}
use Rattle.std.proofs.lemmas.Nat.{one_shl}
use Rattle.lj_ring.specs.Kept.{shift_of}
use Rattle.lj_ring.proofs.BinLemmas.{reciprocal_small}
use Rattle.lj_ring.proofs.bins.reciprocal_of.Goals as goal

pub overflow_cast-result-2 : goal.overflow_cast-result-2
overflow_cast-result-2 c = record {
  fits =
      rw (
        c.from.ensures,
        c.from-2.ensures,
        c.requires.shift,
        one_shl (58 + shift_of c.args.sigma) 128 (omega arith),
      ) (omega (arith, reciprocal_small c.args.sigma c.requires.least c.requires.most));
}
