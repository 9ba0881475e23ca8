-- What a writer was given of a text: all of it, or its first bytes where a write failed.
use Rattle.std.specs.Prelude.{◌≡◌, ◌≤◌, ℕ, List, Option, Result, Ok, Err, length, take}
use Rattle.std.specs.Io.KnownBytes.{Appends}
use Rattle.lj_wire.specs.Ends.{Rises}

-- The text is written.
pub record PutsAll (bytes : List ℕ) (was is : Option (List ℕ)) (faults more_faults : Option ℕ) : Type 0 where
  -- All its bytes are appended to the contents.
  pub written : Appends was is bytes
  -- No fault was counted.
  pub counted : more_faults ≡ faults

-- A write failed.
pub record PutsPart (bytes : List ℕ) (was is : Option (List ℕ)) (faults more_faults : Option ℕ) : Type 0 where
  -- The first bytes of the text are appended to the contents.
  pub begun : (n : ℕ) × (n ≤ length bytes) × Appends was is (take n bytes)
  -- A fault was counted.
  pub risen : Rises faults more_faults

-- The text is written, or a write failed, as the result says.
abbrev pub PutsText : {A B : Type 0} → Result A B → List ℕ → Option (List ℕ) → Option (List ℕ) → Option ℕ → Option ℕ → Type 0
PutsText (Ok done) bytes was is faults more_faults = PutsAll bytes was is faults more_faults
PutsText (Err fault) bytes was is faults more_faults = PutsPart bytes was is faults more_faults
