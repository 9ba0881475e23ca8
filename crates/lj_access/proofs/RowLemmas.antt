-- The row of a user, read and changed.
use Rattle.std.proofs.Common.{◌≡◌, ℕ, ◌<◌, ◌≤◌, List, length, map, slice_get, slice_set, get_or, Option, Some, None, IsSomeAnd, arith, ap, sym, subst, ◌∙◌, refl}
use Rattle.std.specs.List.{IsDistinct}
use Rattle.std.specs.Str.{bytes_eq}
use Rattle.std.proofs.lemmas.Option.{slice_get_within, slice_get_read, get_or_from_slice_get}
use Rattle.std.proofs.Math.Seq.{map-set_same}
use Rattle.std.proofs.lemmas.List.{length-set, length-map}
use Rattle.std.proofs.lemmas.Simd.{map-map}
use Rattle.lj_access.specs.declared.user.User.{User}
use Rattle.lj_access.specs.UserRows.{UserRow, first_row, with_row_changed, with_row_changed_to}
use Rattle.lj_access.specs.Directories.{IsDirectory}

-- a fact of the row that there is holds of the row that is found
pub fact_of_row : (o : Option UserRow) (row : UserRow) (P : UserRow → Type 0) → o ≡ Some row → IsSomeAnd o P → P row
fact_of_row o row P found fact = let Q : Option UserRow → Type 0 = λ x. IsSomeAnd x P in subst Q found fact

within_from : {X : Type 0} (o : Option X) (xs : List X) (i : ℕ) (P : X → Type 0) → slice_get xs i ≡ o → IsSomeAnd o P → i < length xs
within_from None xs i P found fact = absurd fact
within_from (Some x) xs i P found fact = slice_get_within xs i x found

-- a place of which something holds is one of the list
pub place_within : {X : Type 0} (xs : List X) (i : ℕ) (P : X → Type 0) → IsSomeAnd (slice_get xs i) P → i < length xs
place_within xs i P fact = within_from (slice_get xs i) xs i P refl fact

-- a user of whom something holds is one of the rows
pub user_within : (rows : List UserRow) (user : ℕ) (P : UserRow → Type 0) → IsSomeAnd (slice_get rows user) P → user < length rows
user_within rows user P fact = place_within rows user P fact

-- a row, read and written back changed
pub record Writes (rows : List UserRow) (user : ℕ) (row new : UserRow) (change : UserRow → UserRow) : Type 0 where
  pub within : user < length rows
  pub read : row ≡ get_or rows user row
  pub written : new ≡ change row

-- the row that was read is that of the user
pub slice_get-read : (rows : List UserRow) (user : ℕ) (row new : UserRow) (change : UserRow → UserRow) → Writes rows user row new change
    → slice_get rows user ≡ Some row
slice_get-read rows user row new change w = slice_get_read rows (length rows) user row refl w.within w.read

-- then the row of the user is changed
pub changed-written : (rows : List UserRow) (user : ℕ) (row new : UserRow) (change : UserRow → UserRow) → Writes rows user row new change
    → slice_set rows user new ≡ with_row_changed user change rows
changed-written rows user row new change w =
    ap (slice_set rows user) w.written
    ∙ sym (ap (λ o. with_row_changed_to user change o rows) (slice_get-read rows user row new change w))

-- where the name stays, a directory stays one
pub IsDirectory-written : (rows : List UserRow) (user : ℕ) (row new : UserRow) (change : UserRow → UserRow) → Writes rows user row new change
    → (change row).name ≡ row.name → IsDirectory rows → IsDirectory (slice_set rows user new)
IsDirectory-written rows user row new change w same kept =
    let name : UserRow → List ℕ = λ r. r.name in
    let names : map name (slice_set rows user new) ≡ map name rows =
    map-set_same name rows user new row (ap name w.written ∙ same ∙ ap name (sym (get_or_from_slice_get rows user row row (slice_get-read rows user row new change w)))) in
    record {
      some = omega (arith, length-set {A = UserRow}, kept);
      most = omega (arith, length-set {A = UserRow}, kept);
      distinct = subst (IsDistinct bytes_eq) (sym names) kept.distinct;
    }

-- users of distinct names, as they begin
pub IsDirectory-opening : (users : List User) → 1 ≤ length users → length users ≤ 64
    → IsDistinct bytes_eq (map (λ user. user.name) users) → IsDirectory (map first_row users)
IsDirectory-opening users some most distinct = record {
  some = omega (arith, length-map users first_row);
  most = omega (arith, length-map users first_row);
  distinct = subst (IsDistinct bytes_eq) (sym (map-map (λ (row : UserRow). row.name) first_row users)) distinct;
}
