use Rattle.std.specs.Prelude.{◌≡◌, ◌+◌, sum, vec_len}
use Rattle.lj_end.proofs.share.merged.Given as goal

abbrev pub invariant-loop-share : goal.invariant-loop-share
invariant-loop-share g l = record {
  parts : vec_len l.shares + l.all.parts ≡ vec_len l.fn.shares;
  amount : sum l.shares.items + l.all.amount ≡ sum l.fn.shares.items;
}

abbrev pub decreases-loop-share : goal.decreases-loop-share
decreases-loop-share g l = goal.left-loop-share g l
