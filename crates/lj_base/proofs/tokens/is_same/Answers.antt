use Rattle.std.proofs.Common.{◌≡◌, ℕ, length, arith, subst, Decides}
use Rattle.lj_base.proofs.SameLemmas.{SameBefore, bytes_eq-from_indices}
use Rattle.lj_base.proofs.tokens.is_same.Goals as goal

pub returns : goal.returns
returns c =
    let xs = c.args.bytes.now in
    let ys = c.args.word.now in
    let P : ℕ → Type 0 = λ i. Decides c.loop-i.same (SameBefore i xs ys) in
    let all : c.loop-i.i ≡ length xs = omega arith in
    bytes_eq-from_indices xs ys c.loop-i.same (omega arith) (subst P all c.loop-i.invariant)
