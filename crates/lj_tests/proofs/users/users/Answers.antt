use Rattle.std.proofs.Common.{subst, sym}
use Rattle.std.specs.List.{IsDistinct}
use Rattle.std.specs.Str.{bytes_eq}
use Rattle.lj_access.specs.UserLists.{user_names}
use Rattle.lj_tests.proofs.users.users.Goals as goal

pub loop-word-init : goal.loop-word-init
unfolding IsDistinct
loop-word-init g c = subst (λ users. IsDistinct bytes_eq (user_names users)) (sym c.new-users.ensures.items) tt
