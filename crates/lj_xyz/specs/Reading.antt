-- Reading from the first line to the last, up to the first fault. By a law of this crate it gives the answer of `Bodies`.
use Rattle.std.specs.Prelude.{◌≡◌, ℕ, zero, suc, ◌+◌, List, [], ◌∷◌, length, Option, Some, None, Result, Ok, Err}
use Rattle.std.specs.Prelude.{if◌then◌else◌}
use Rattle.lj_xyz.specs.declared.xyz_fault.XyzKind.{XyzKind}
use Rattle.lj_xyz.specs.declared.xyz_fault.XyzKind.TheVariants as kind
use Rattle.lj_xyz.specs.declared.xyz_fault.XyzFault.{XyzFault}
use Rattle.lj_xyz.specs.declared.xyz_fault.XyzError.{XyzError}
use Rattle.lj_xyz.specs.declared.xyz_fault.XyzError.TheVariants as errors
use Rattle.lj_xyz.specs.declared.atom_row.AtomRow.{AtomRow}
use Rattle.lj_xyz.specs.declared.frame_reader.Position.{Position}
use Rattle.lj_xyz.specs.declared.frame_reader.Position.TheVariants.{First, Second}
use Rattle.lj_base.specs.Words.{words_of}
use Rattle.lj_xyz.specs.Symbols.{SymbolPair}
use Rattle.lj_xyz.specs.Atoms.{◌>>=◌, atom_count_of, row_of}
use Rattle.lj_xyz.specs.Bodies.{Mode, rest, pair, admits, missing, fault_behind}

-- how many lines were read, and the lines that are left
pub record Left : Type 0 where
  pub taken : ℕ
  pub lines : List (List ℕ)

-- a fault at the line of this number
abbrev pub fault_at : ℕ → XyzKind → XyzFault
fault_at line kind = record { kind = kind; line = line }

-- the number of atoms of the count line, which has this line number, or the fault of the line
abbrev pub count_or_fault : Position → ℕ → Option ℕ → Result ℕ XyzFault
count_or_fault position line None = Err (fault_at line kind.Count)
count_or_fault position line (Some n) = if admits position n then Ok n else Err (fault_at line kind.Pair)

-- the number of atoms in the first line with a word
unfoldable pub head_in : Position → ℕ → List (List ℕ) → Result (ℕ × Left) XyzFault
head_in position taken [] = Err (fault_behind taken (missing position))
head_in position taken (line ∷ lines) =
    elim (words_of line) [
      | [] ↦ head_in position (taken + 1) lines
      | first ∷ others ↦
          count_or_fault position (taken + 1) (atom_count_of first)
          >>= λ n. Ok (n, record { taken = taken + 1; lines = lines })
    ]

-- the lines after the comment line
unfoldable pub behind_comment : ℕ → List (List ℕ) → Result Left XyzFault
behind_comment taken [] = Err (fault_behind taken kind.Short)
behind_comment taken (comment ∷ lines) = Ok (record { taken = taken + 1; lines = lines })

-- the atom of the line of this number
abbrev pub row_at : ℕ → Result AtomRow XyzKind → Result AtomRow XyzFault
row_at line (Ok row) = Ok row
row_at line (Err wrong) = Err (fault_at line wrong)

-- the atom of the next line, and the lines after it
unfoldable pub next_row : Option SymbolPair → ℕ → List (List ℕ) → Result (AtomRow × Left) XyzFault
next_row symbols taken [] = Err (fault_behind taken kind.Short)
next_row symbols taken (line ∷ lines) =
    row_at (taken + 1) (row_of symbols line) >>= λ row. Ok (row, record { taken = taken + 1; lines = lines })

-- the next n atoms, and the lines after them
unfoldable pub rows_in : Option SymbolPair → ℕ → Left → Result (List AtomRow × Left) XyzFault
rows_in symbols zero left = Ok ([], left)
rows_in symbols (suc n) left = do
  row ← next_row symbols left.taken left.lines
  others ← rows_in symbols n row.1
  Ok (row.0 ∷ others.0, others.1)

-- the number of atoms of a frame, and the lines after its comment line
abbrev pub opening_in : Position → Left → Result (ℕ × Left) XyzFault
opening_in position left = do
  head ← head_in position left.taken left.lines
  body ← behind_comment head.1.taken head.1.lines
  Ok (head.0, body)

-- the rows of a frame, and the lines after it
unfoldable pub frame_in : Option SymbolPair → Position → Left → Result (List AtomRow × Left) XyzFault
frame_in symbols position left = do
  opening ← opening_in position left
  rows_in symbols opening.0 opening.1

-- the lines of a body, with none read
abbrev pub unread_lines : List (List ℕ) → Left
unread_lines lines = record { taken = 0; lines = lines }

-- the frames of the mode, the first one of the given species, or the first fault
unfoldable pub reading : Option SymbolPair → Mode → List (List ℕ) → Result (List (List AtomRow)) XyzFault
reading symbols rest lines = do
  first ← frame_in symbols First (unread_lines lines)
  Ok (first.0 ∷ [])
reading symbols pair lines = do
  first ← frame_in symbols First (unread_lines lines)
  second ← frame_in None (Second (length first.0)) first.1
  Ok (first.0 ∷ second.0 ∷ [])

-- an error is the fault that reading gives, unless memory ran out
abbrev pub FailsAs : {Y : Type 0} → XyzError → Result Y XyzFault → Type 0
FailsAs errors.Memory read = Unit {0}
FailsAs (errors.Fault fault) read = read ≡ Err fault

-- what a function returned, seen by `view`, is what reading gives, unless memory ran out
abbrev pub ReadsAs : {X Y : Type 0} → (X → Y) → Result X XyzError → Result Y XyzFault → Type 0
ReadsAs view (Ok x) read = read ≡ Ok (view x)
ReadsAs view (Err error) read = FailsAs error read

-- the same for a function that takes no memory
abbrev pub ReadsExactlyAs : {X Y : Type 0} → (X → Y) → Result X XyzFault → Result Y XyzFault → Type 0
ReadsExactlyAs view (Ok x) read = read ≡ Ok (view x)
ReadsExactlyAs view (Err fault) read = read ≡ Err fault
