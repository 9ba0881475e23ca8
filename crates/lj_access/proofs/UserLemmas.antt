-- Lists of users of distinct names.
use Rattle.std.proofs.Common.{◌≡◌, ℕ, Bool, false, ◌||◌, List, [], ◌∷◌, ◌++◌, map, refl, ap, sym, subst, ◌∙◌}
use Rattle.std.specs.List.{IsDistinct, list_any}
use Rattle.std.specs.Str.{bytes_eq}
use Rattle.std.proofs.lemmas.Cmp.{nat_list_eq_equiv}
use Rattle.std.proofs.lemmas.List.{map-append}
use Rattle.std.proofs.lemmas.Map.Keys.{IsDistinct-push}
use Rattle.lj_access.specs.declared.user.User.{User}
use Rattle.lj_access.specs.UserLists.{user_names}

list_any-map : {A B : Type 0} (test : B → Bool) (f : A → B) (xs : List A) → list_any test (map f xs) ≡ list_any (λ x. test (f x)) xs
list_any-map test f [] = refl
list_any-map test f (x ∷ xs) = ap (λ b. test (f x) || b) (list_any-map test f xs)

-- a user of a new name goes last, and the names stay distinct
pub IsDistinct-names_push : (users : List User) (user : User) → IsDistinct bytes_eq (user_names users)
    → list_any (λ other. bytes_eq user.name other.name) users ≡ false → IsDistinct bytes_eq (user_names (users ++ user ∷ []))
IsDistinct-names_push users user distinct fresh =
    let name : User → List ℕ = λ u. u.name in
    subst (IsDistinct bytes_eq) (sym (map-append name users (user ∷ [])))
    (IsDistinct-push nat_list_eq_equiv (user_names users) user.name distinct (list_any-map (bytes_eq user.name) name users ∙ fresh))
