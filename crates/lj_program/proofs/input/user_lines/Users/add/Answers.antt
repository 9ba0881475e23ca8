use Rattle.std.proofs.Common.{arith, rules}
use Rattle.std.proofs.lemmas.List.{length_push}
use Rattle.lj_access.proofs.UserLemmas.{IsDistinct-names_push}
use Rattle.lj_program.proofs.input.user_lines.Users.add.Goals as goal

pub invariant_of-self-2 : goal.invariant_of-self-2
invariant_of-self-2 c = rw (c.in_ok-push.ensures.items) record {
  most = rw (length_push c.self.inside.users.items c.in_ok-user.user)
      omega (arith, c.if-len-ge-MAX_USERS.false, c.len.ensures);
  distinct = IsDistinct-names_push c.self.inside.users.items c.in_ok-user.user
      c.self.invariant.distinct (search rules);
}
