use Rattle.std.proofs.Common.{◌*◌, ◌^◌, ◌%◌, ℕ, w64, get_or, bit_or, arith}
use Rattle.std.proofs.lemmas.Nat.Bits.{bit_at_set_same, bit_at_set_other}
use Rattle.lj_book.proofs.KeyStateLemmas.{changes_bit}
use Rattle.lj_book.proofs.key_states.set_bit.Goals as goal

pub returns : goal.returns
returns c =
    let mask : ℕ = get_or c.args.masks.now c.args.kind 0 in
    changes_bit c.args.masks.now c.args.kind (bit_or mask (1 * 2 ^ c.args.at % 2 ^ 64)) c.args.at 1
    (omega (arith, c.requires.kind, c.told-masks))
    (bit_at_set_same w64 mask c.args.at c.requires.within)
    (λ i below apart. bit_at_set_other w64 mask c.args.at c.requires.within i apart)
