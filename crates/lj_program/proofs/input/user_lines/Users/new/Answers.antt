use Rattle.std.proofs.Common.{arith}
use Rattle.std.specs.List.{IsDistinct}
use Rattle.lj_program.proofs.input.user_lines.Users.new.Goals as goal

pub invariant_of-result : goal.invariant_of-result
unfolding IsDistinct
invariant_of-result c = rw (c.new.ensures.items) record {
  most = omega arith;
  distinct = tt;
}
