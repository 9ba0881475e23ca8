use Rattle.std.proofs.Common.{subst, sym}
use Rattle.std.specs.List.{IsDistinct}
use Rattle.std.specs.Str.{bytes_eq}
use Rattle.lj_access.specs.UserLists.{user_names}
use Rattle.lj_access.proofs.UserLemmas.{IsDistinct-names_push}
use Rattle.lj_tests.proofs.users.add.Goals as goal

pub returns : goal.returns
returns c =
    subst (λ users. IsDistinct bytes_eq (user_names users)) (sym c.in_ok-push.ensures.items)
    (IsDistinct-names_push c.args.users.now.items c.args.user c.requires.distinct c.requires.fresh)
