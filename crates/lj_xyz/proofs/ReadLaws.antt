-- What the readers answer, in the relation of lines and answers.
use Rattle.std.proofs.Common.{◌≡◌, ℕ, true, inl, inr, List, [], ◌∷◌, length, Option, Some, None, Result, Ok, Err}
use Rattle.std.specs.Prelude.{IfOk}
use Rattle.std.proofs.lemmas.Bool.{cases_Bool, eqb-true}
use Rattle.lj_xyz.specs.declared.xyz_fault.XyzFault.{XyzFault}
use Rattle.lj_xyz.specs.declared.xyz_fault.XyzError.{XyzError}
use Rattle.lj_xyz.specs.declared.xyz_fault.XyzError.TheVariants as errors
use Rattle.lj_xyz.specs.declared.atom_row.AtomRow.{AtomRow}
use Rattle.lj_xyz.specs.declared.atom_row.FramePair.{FramePair}
use Rattle.lj_xyz.specs.declared.frame_reader.Position.{Position}
use Rattle.lj_xyz.specs.declared.frame_reader.Position.TheVariants.{First, Second}
use Rattle.lj_fixed.specs.Numbers.{number_of}
use Rattle.lj_xyz.specs.Symbols.{SymbolPair}
use Rattle.lj_xyz.specs.Atoms.{is_count, count_if}
use Rattle.lj_xyz.specs.Bodies.{Mode, rest, pair, IsReading, IsFrame}
use Rattle.lj_xyz.specs.Reading.{Left, frame_in, unread_lines, reading, FailsAs, ReadsAs}
use Rattle.lj_xyz.proofs.ReadingLaws.{reading_stands, reads_one, reads_no_first, reads_no_second}

-- what was read stands in the relation
pub frames_stand : {X : Type 0} (symbols : Option SymbolPair) (view : X → List (List AtomRow)) (mode : Mode)
    (lines : List (List ℕ)) (r : Result X XyzError) → ReadsAs view r (reading symbols mode lines)
    → IfOk r (λ x. IsReading symbols mode lines (Ok (view x)))
frames_stand symbols view mode lines (Ok x) e = rw e at (reading_stands symbols mode lines)
frames_stand symbols view mode lines (Err error) e = tt

-- a fault that was answered stands in the relation
pub fault_stands : {X : Type 0} (symbols : Option SymbolPair) (view : X → List (List AtomRow)) (mode : Mode)
    (lines : List (List ℕ)) (r : Result X XyzError) → ReadsAs view r (reading symbols mode lines)
    → (fault : XyzFault) → r ≡ Err (errors.Fault fault) → IsReading symbols mode lines (Err fault)
fault_stands symbols view mode lines r e fault is =
    let read : reading symbols mode lines ≡ Err fault = rw is at e in
    rw read at (reading_stands symbols mode lines)

-- where the first frame is not read, nothing is
pub fails_first : (symbols : Option SymbolPair) (mode : Mode) (lines : List (List ℕ)) (error : XyzError)
    → FailsAs error (frame_in symbols First (unread_lines lines)) → FailsAs error (reading symbols mode lines)
fails_first symbols mode lines errors.Memory e = tt
fails_first symbols mode lines (errors.Fault fault) e = reads_no_first symbols mode lines fault e

-- where the second one is not read, no pair is
pub fails_second : (symbols : Option SymbolPair) (lines : List (List ℕ)) (first : List AtomRow) (after : Left)
    (error : XyzError) → frame_in symbols First (unread_lines lines) ≡ Ok (first, after)
    → FailsAs error (frame_in None (Second (length first)) after) → FailsAs error (reading symbols pair lines)
fails_second symbols lines first after errors.Memory e next = tt
fails_second symbols lines first after (errors.Fault fault) e next =
    reads_no_second symbols lines first after fault e next

-- the first frame is all that is read at rest
pub gives_one : (symbols : Option SymbolPair) (lines : List (List ℕ)) (after : Left) (r : Result (List AtomRow) XyzError)
    → ReadsAs (λ (rows : List AtomRow). (rows, after)) r (frame_in symbols First (unread_lines lines))
    → ReadsAs (λ (rows : List AtomRow). rows ∷ []) r (reading symbols rest lines)
gives_one symbols lines after (Ok rows) e = reads_one symbols lines rows after e
gives_one symbols lines after (Err error) e = fails_first symbols rest lines error e

cc_some : (m n : ℕ) → ◌≡◌ {A = Option ℕ} (Some m) (Some n) → m ≡ n
cc_some m n e = cc

none_some : (n : ℕ) → ◌≡◌ {A = Option ℕ} None (Some n) → ⊥
none_some n e = cc

counted : (o : Option ℕ) (n : ℕ) → count_if o ≡ Some n → is_count n ≡ true
counted None n e = absurd cc
counted (Some m) n e =
    elim (cases_Bool (is_count m)) [
      | inl fits ↦
          let same : m ≡ n = cc_some m n (rw fits at e) in
          rw (← same) fits
      | inr fails ↦ absurd (none_some n (rw fails at e))
    ]

-- a frame has 1 to 4,096 atoms
pub frame_count : (symbols : Option SymbolPair) (position : Position) (frame : List (List ℕ)) (rows : List AtomRow)
    → IsFrame symbols position frame rows
    → is_count (length rows) ≡ true
frame_count symbols position frame rows is =
    counted (number_of is.is_head.counts.first) (length rows) is.is_head.counts.value

-- ---- the numbers of atoms

pub one_count : (symbols : Option SymbolPair) (lines : List (List ℕ)) (rows : List AtomRow)
    → IsReading symbols rest lines (Ok (rows ∷ []))
    → is_count (length rows) ≡ true
one_count symbols lines rows is =
    let same : is.0 ≡ rows = cc in
    rw (← same) (frame_count symbols First is.2.frame is.0 is.2.is_frame)

two_counts : (symbols : Option SymbolPair) (lines : List (List ℕ)) (first second : List AtomRow)
    → IsReading symbols pair lines (Ok (first ∷ second ∷ []))
    → (is_count (length first) ≡ true) × (length second ≡ length first)
two_counts symbols lines first second is =
    let same : is.0 ≡ first = cc in
    let same_next : is.1 ≡ second = cc in
    let gives = is.3 in
    rw (← same, ← same_next) (
      frame_count symbols First gives.frame is.0 gives.is_frame,
      eqb-true (length is.1) (length is.0) gives.is_next.is_head.admitted,
    )

pub pair_counts : (symbols : Option SymbolPair) (lines : List (List ℕ)) (r : Result FramePair XyzError)
    → ReadsAs (λ (frames : FramePair). frames.first ∷ frames.second ∷ []) r (reading symbols pair lines)
    → IfOk r (λ frames. (is_count (length frames.first) ≡ true) × (length frames.second ≡ length frames.first))
pair_counts symbols lines (Ok frames) e =
    two_counts symbols lines frames.first frames.second (rw e at (reading_stands symbols pair lines))
pair_counts symbols lines (Err error) e = tt
