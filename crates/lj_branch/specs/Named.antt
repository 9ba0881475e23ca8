-- Values under names, in order of insertion.
use Rattle.std.specs.Prelude.{ℕ, List, Option}
use Rattle.std.specs.Str.{bytes_eq}
use Rattle.std.specs.Map.{lookup, remove_entry}
use Rattle.indexmap.specs.IndexMap.{insert_entry}

-- the value under a name
abbrev pub value_named : {A : Type 0} → List ℕ → List (List ℕ × A) → Option A
value_named name entries = lookup (bytes_eq name) entries

-- a value put under a name: a name that is there keeps its place, and a new one goes last
abbrev pub with_value : {A : Type 0} → List ℕ → A → List (List ℕ × A) → List (List ℕ × A)
with_value name value entries = insert_entry bytes_eq entries name value

-- a name removed with its value: the others keep their order
abbrev pub without_value : {A : Type 0} → List ℕ → List (List ℕ × A) → List (List ℕ × A)
without_value name entries = remove_entry (bytes_eq name) entries
