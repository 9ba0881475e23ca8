use Rattle.std.specs.List.{IsDistinct}
use Rattle.std.specs.Str.{bytes_eq}
use Rattle.lj_access.specs.UserLists.{user_names}
use Rattle.lj_tests.proofs.users.users.Given as goal

abbrev pub invariant-loop-word : goal.invariant-loop-word
invariant-loop-word g l = IsDistinct bytes_eq (user_names l.users.items)
