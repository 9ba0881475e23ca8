-- The digits go on up to the first other byte, and each was taken into the number in turn.
use Rattle.std.proofs.Common.{◌≡◌, sym, ◌∙◌, arith, length, below_more}
use Rattle.std.proofs.lemmas.List.Sums.{prefix_len_is}
use Rattle.std.specs.Char.{is_ascii_digit}
use Rattle.lj_fixed.proofs.Leading.{leads_next}
use Rattle.lj_fixed.proofs.digits.Significand.read_on.Goals as goal

pub returns-then-not-is_ascii_digit-clause-count : goal.returns-then-not-is_ascii_digit-clause-count
returns-then-not-is_ascii_digit-clause-count c =
    sym (prefix_len_is is_ascii_digit c.args.text.now c.loop-count.count 0 (omega arith) c.loop-count.invariant.digits
    (λ _. sym c.if-not-is_ascii_digit.ensures.value))

pub loop-count-preserved : goal.loop-count-preserved
loop-count-preserved c =
    let digit = sym c.if-not-is_ascii_digit.ensures.value in
    record {
      digits = below_more _ _ c.loop-count.invariant.digits digit;
      number = λ n h. leads_next _ _ n c.args.text.now c.loop-count.count c.loop-count-test.true digit
          (c.push-significand.ensures.number _ (c.loop-count.invariant.number n h));
      dropped = omega arith;
    }

pub returns-clause-count : goal.returns-clause-count
returns-clause-count c =
    let all : c.loop-count.count ≡ length c.args.text.now = omega arith in
    sym all ∙ sym (prefix_len_is is_ascii_digit c.args.text.now c.loop-count.count 0 (omega arith)
    c.loop-count.invariant.digits (λ less. absurd (omega arith)))
