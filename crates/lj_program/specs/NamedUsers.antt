-- Users of a server, each known by its name.
use Rattle.std.specs.Prelude.{◌≡◌, ◌≤◌, ℕ, List, [], ◌∷◌, length, Some}
use Rattle.std.specs.List.{IsDistinct}
use Rattle.std.specs.Str.{bytes_eq}
use Rattle.lj_fixed.specs.Numbers.{number_of}
use Rattle.lj_base.specs.Names.{name_of}
use Rattle.lj_base.specs.Tokens.{token_of}
use Rattle.lj_access.specs.UserLists.{user_names}
use Rattle.lj_access.specs.declared.user.User.{User}
use Rattle.lj_access.specs.declared.directory.TheConstants.{MAX_USERS}

-- at most as many as a directory has, no two of one name
pub record AreUsers (users : List User) : Type 0 where
  pub most : length users ≤ MAX_USERS
  pub distinct : IsDistinct bytes_eq (user_names users)

-- five words say this user: a name, a token, and the limits of sessions, atoms and branches
pub record SaysUser (words : List (List ℕ)) (user : User) : Type 0 where
  pub name : List ℕ
  pub token : List ℕ
  pub sessions : List ℕ
  pub atoms : List ℕ
  pub branches : List ℕ
  pub five : words ≡ name ∷ token ∷ sessions ∷ atoms ∷ branches ∷ []
  pub name_is : name_of name ≡ Some user.name
  pub token_is : token_of token ≡ Some user.token
  pub sessions_are : number_of sessions ≡ Some user.quota.sessions
  pub atoms_are : number_of atoms ≡ Some user.quota.atoms
  pub branches_are : number_of branches ≡ Some user.quota.branches
