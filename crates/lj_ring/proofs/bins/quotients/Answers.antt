use Rattle.std.proofs.Common.{ℕ, ◌*◌, slice_index, mul_comm}
use Rattle.lj_ring.proofs.BinLemmas.{guess_of, guess_most, guess_least, guess_small, corrected, corrected_small}
use Rattle.lj_ring.proofs.bins.quotients.Goals as goal

pub returns-clause-value : goal.returns-clause-value
returns-clause-value c k l =
    let s : ℕ = slice_index c.args.squared k in
    let g : ℕ = guess_of s c.args.shift c.args.reciprocal in
    rw (
      c.add.ensures k l,
      c.shr.ensures k l,
      c.sub-beyond.ensures k l,
      c.splat.ensures k l,
      c.sub-rest.ensures k l,
      c.shl.ensures k l,
      c.multiples.ensures k l,
      c.guesses-guess.ensures k l,
      mul_comm s 128,
    ) (corrected (128 * s) g c.args.sigma_square c.requires.some c.requires.few
    (guess_small s c.args.shift c.args.reciprocal c.requires.fits (c.requires.small k l))
    (guess_most s c.args.sigma_square c.args.shift c.args.reciprocal c.requires.some c.requires.reciprocal)
    (guess_least s c.args.sigma_square c.args.shift c.args.reciprocal c.requires.some c.requires.reciprocal c.requires.fits
    (c.requires.small k l)))

pub returns-clause-within : goal.returns-clause-within
returns-clause-within c k l =
    let s : ℕ = slice_index c.args.squared k in
    rw (
      c.add.ensures k l,
      c.shr.ensures k l,
      c.sub-beyond.ensures k l,
      c.guesses-guess.ensures k l,
    ) (corrected_small (guess_of s c.args.shift c.args.reciprocal) _
    (guess_small s c.args.shift c.args.reciprocal c.requires.fits (c.requires.small k l)))
