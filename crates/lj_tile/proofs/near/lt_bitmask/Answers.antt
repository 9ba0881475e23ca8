use Rattle.std.proofs.Common.{ltb, sym, ap, ◌∙◌, w16, arith}
use Rattle.std.specs.Int.{bit_at}
use Rattle.std.proofs.lemmas.Simd.{bitmask_splat}
use Rattle.lj_tile.proofs.NearLemmas.{not_below}
use Rattle.lj_tile.proofs.near.lt_bitmask.Goals as goal

pub returns : goal.returns
returns c k l none =
    not_below c.args.v c.args.bound k (omega (arith, c.fits-v.0))
    (ap (λ m. bit_at m k) (sym (bitmask_splat w16 ltb c.args.v 16 c.args.bound c.fits-v.0 (omega arith))) ∙ none)
