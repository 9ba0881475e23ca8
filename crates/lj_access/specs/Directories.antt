-- The invariant of a directory.
use Rattle.std.specs.Prelude.{◌≤◌, List, length, map}
use Rattle.std.specs.List.{IsDistinct}
use Rattle.std.specs.Str.{bytes_eq}
use Rattle.lj_access.specs.UserRows.{UserRow}
use Rattle.lj_access.specs.declared.directory.TheConstants.{MAX_USERS}

-- 1 to 64 rows of distinct names
pub record IsDirectory (rows : List UserRow) : Type 0 where
  pub some : 1 ≤ length rows
  pub most : length rows ≤ MAX_USERS
  pub distinct : IsDistinct bytes_eq (map (λ row. row.name) rows)
