-- XYZ bodies as lists of whole lines: the frames of a body, or its first fault in reading order with its line. The
-- given species, if any, are those of the first frame.
use Rattle.std.specs.Prelude.{◌≡◌, ℕ, ◌+◌, ◌<◌, Bool, true, false, ◌==◌, List, [], ◌∷◌, ◌++◌, length, map, Option, Some}
use Rattle.std.specs.Prelude.{None, Result, Ok, Err, ◌⊎◌}
use Rattle.std.specs.List.{AllByRecursion}
use Rattle.lj_xyz.specs.declared.xyz_fault.XyzKind.{XyzKind}
use Rattle.lj_xyz.specs.declared.xyz_fault.XyzKind.TheVariants as kind
use Rattle.lj_xyz.specs.declared.xyz_fault.XyzFault.{XyzFault}
use Rattle.lj_xyz.specs.declared.atom_row.AtomRow.{AtomRow}
use Rattle.lj_xyz.specs.declared.frame_reader.Position.{Position}
use Rattle.lj_xyz.specs.declared.frame_reader.Position.TheVariants.{First, Second}
use Rattle.lj_base.specs.Words.{words_of}
use Rattle.lj_xyz.specs.Symbols.{SymbolPair}
use Rattle.lj_xyz.specs.Atoms.{atom_count_of, row_of}

-- the frames that are read: the first one, or the first two
pub data Mode : Type 0 where
  rest : Mode
  pair : Mode

-- a line without a word
abbrev pub IsWordless : List ℕ → Type 0
IsWordless line = words_of line ≡ []

-- the first word of the line is this number of atoms, or with None, no number of atoms
pub record Counts (line : List ℕ) (atoms : Option ℕ) : Type 0 where
  pub first : List ℕ
  pub others : List (List ℕ)
  pub words : words_of line ≡ first ∷ others
  pub value : atom_count_of first ≡ atoms

-- a first frame may have any number of atoms, and a second one has as many as the first
abbrev pub admits : Position → ℕ → Bool
admits First n = true
admits (Second atoms) n = n == atoms

-- the fault if there is no count line
abbrev pub missing : Position → XyzKind
missing First = kind.Count
missing (Second atoms) = kind.Pair

-- the head of a frame of n atoms: any number of lines without a word, and the count line
pub record IsHead (position : Position) (head : List (List ℕ)) (n : ℕ) : Type 0 where
  pub blanks : List (List ℕ)
  pub count : List ℕ
  pub whole : head ≡ blanks ++ count ∷ []
  pub wordless : AllByRecursion IsWordless blanks
  pub counts : Counts count (Some n)
  pub admitted : admits position n ≡ true

-- each line is the atom of its row
abbrev pub AreAtoms : Option SymbolPair → List (List ℕ) → List AtomRow → Type 0
AreAtoms symbols atoms rows = map (row_of symbols) atoms ≡ map (λ row. Ok row) rows

-- the lines of a frame: its head, a comment line of any bytes, and a line for each row
pub record IsFrame (symbols : Option SymbolPair) (position : Position) (frame : List (List ℕ))
    (rows : List AtomRow) : Type 0 where
  pub head : List (List ℕ)
  pub comment : List ℕ
  pub atoms : List (List ℕ)
  pub whole : frame ≡ head ++ comment ∷ atoms
  pub is_head : IsHead position head (length rows)
  pub are_atoms : AreAtoms symbols atoms rows

-- a fault at the line after this many others, where lines count from 1
abbrev pub fault_behind : ℕ → XyzKind → XyzFault
fault_behind lines kind = record { kind = kind; line = lines + 1 }

-- The fault, before the atom lines, of a frame at the start of these lines. They are the lines of the body without the
-- first ones, whose number is `before`.
pub data OpeningFault (position : Position) (before : ℕ) (lines : List (List ℕ)) (fault : XyzFault) : Type 0 where
  -- there is no count line
  no_count : AllByRecursion IsWordless lines
      → fault ≡ fault_behind (before + length lines) (missing position)
      → OpeningFault position before lines fault
  -- the count line's first word is no number of atoms
  bad_count : (blanks : List (List ℕ)) (count : List ℕ) (behind : List (List ℕ))
      → lines ≡ blanks ++ count ∷ behind
      → AllByRecursion IsWordless blanks → Counts count None
      → fault ≡ fault_behind (before + length blanks) kind.Count
      → OpeningFault position before lines fault
  -- the number of atoms is not that of the first frame
  other_count : (blanks : List (List ℕ)) (count : List ℕ) (behind : List (List ℕ)) (n : ℕ)
      → lines ≡ blanks ++ count ∷ behind
      → AllByRecursion IsWordless blanks → Counts count (Some n) → admits position n ≡ false
      → fault ≡ fault_behind (before + length blanks) kind.Pair
      → OpeningFault position before lines fault
  -- the comment line is missing
  no_comment : (n : ℕ) → IsHead position lines n
      → fault ≡ fault_behind (before + length lines) kind.Short
      → OpeningFault position before lines fault

-- The first fault, in reading order, of a frame at the start of these lines.
pub data FirstFault (symbols : Option SymbolPair) (position : Position) (before : ℕ) (lines : List (List ℕ))
    (fault : XyzFault) : Type 0 where
  -- it is before the atom lines
  in_opening : OpeningFault position before lines fault → FirstFault symbols position before lines fault
  -- an atom line is missing
  no_atom : (head : List (List ℕ)) (n : ℕ) (comment : List ℕ) (atoms : List (List ℕ)) (rows : List AtomRow)
      → lines ≡ head ++ comment ∷ atoms
      → IsHead position head n → AreAtoms symbols atoms rows → length atoms < n
      → fault ≡ fault_behind (before + length lines) kind.Short
      → FirstFault symbols position before lines fault
  -- an atom line is not an atom
  bad_atom : (head : List (List ℕ)) (n : ℕ) (comment : List ℕ) (atoms : List (List ℕ)) (rows : List AtomRow)
      (bad : List ℕ) (behind : List (List ℕ)) (wrong : XyzKind)
      → lines ≡ head ++ comment ∷ (atoms ++ bad ∷ behind)
      → IsHead position head n → AreAtoms symbols atoms rows → length atoms < n → row_of symbols bad ≡ Err wrong
      → fault ≡ fault_behind (before + length head + 1 + length atoms) wrong
      → FirstFault symbols position before lines fault

-- The lines of a body begin with a frame of these rows; what follows the frame is not read.
pub record GivesOne (symbols : Option SymbolPair) (lines : List (List ℕ)) (rows : List AtomRow) : Type 0 where
  pub frame : List (List ℕ)
  pub behind : List (List ℕ)
  pub whole : lines ≡ frame ++ behind
  pub is_frame : IsFrame symbols First frame rows

-- The lines of a body begin with two frames with equal numbers of atoms, the second of any species; what follows is not read.
pub record GivesTwo (symbols : Option SymbolPair) (lines : List (List ℕ)) (first second : List AtomRow) : Type 0 where
  pub frame : List (List ℕ)
  pub next : List (List ℕ)
  pub behind : List (List ℕ)
  pub whole : lines ≡ frame ++ (next ++ behind)
  pub is_frame : IsFrame symbols First frame first
  pub is_next : IsFrame None (Second (length first)) next second

-- The lines of a body begin with a frame, and the next frame has this fault.
pub record FaultOfSecond (symbols : Option SymbolPair) (lines : List (List ℕ)) (fault : XyzFault) : Type 0 where
  pub frame : List (List ℕ)
  pub behind : List (List ℕ)
  pub rows : List AtomRow
  pub whole : lines ≡ frame ++ behind
  pub is_frame : IsFrame symbols First frame rows
  pub of_next : FirstFault None (Second (length rows)) (length frame) behind fault

-- The relation between the lines of a body, the given species, the mode, and the frames or the first fault with its line.
abbrev pub IsReading : Option SymbolPair → Mode → List (List ℕ) → Result (List (List AtomRow)) XyzFault → Type 0
IsReading symbols rest lines (Ok frames) = (rows : List AtomRow) × (frames ≡ rows ∷ []) × GivesOne symbols lines rows
IsReading symbols rest lines (Err fault) = FirstFault symbols First 0 lines fault
IsReading symbols pair lines (Ok frames) =
    (first : List AtomRow) × (second : List AtomRow) × (frames ≡ first ∷ second ∷ []) × GivesTwo symbols lines first second
IsReading symbols pair lines (Err fault) =
    FirstFault symbols First 0 lines fault ⊎ FaultOfSecond symbols lines fault
