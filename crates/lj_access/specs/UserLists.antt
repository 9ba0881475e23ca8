-- Lists of users.
use Rattle.std.specs.Prelude.{ℕ, List, map}
use Rattle.lj_access.specs.declared.user.User.{User}

-- the names of users
abbrev pub user_names : List User → List (List ℕ)
user_names users = map (λ user. user.name) users
