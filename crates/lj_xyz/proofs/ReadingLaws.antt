-- The relation of a body's lines to its frames or first fault has one answer, which reading gives.
use Rattle.std.proofs.Common.{◌≡◌, ℕ, List, [], ◌∷◌, ◌++◌, length, Option, None, Result, Ok, Err, refl, sym, ap, ◌∙◌}
use Rattle.std.proofs.Common.{inl, inr, arith, zero-add}
use Rattle.lj_xyz.specs.declared.xyz_fault.XyzFault.{XyzFault}
use Rattle.lj_xyz.specs.declared.atom_row.AtomRow.{AtomRow}
use Rattle.lj_xyz.specs.declared.frame_reader.Position.TheVariants.{First, Second}
use Rattle.lj_xyz.specs.Symbols.{SymbolPair}
use Rattle.lj_xyz.specs.Atoms.{◌>>=◌}
use Rattle.lj_xyz.specs.Bodies.{Mode, rest, pair, IsFrame, FirstFault, GivesOne, GivesTwo, FaultOfSecond, IsReading}
use Rattle.lj_xyz.specs.Reading.{Left, frame_in, unread_lines, reading}
use Rattle.lj_xyz.proofs.FrameLaws.{left, frame_good, frame_fault}
use Rattle.lj_xyz.proofs.FrameStands.{FrameEnds, FrameStands, frame_stands}

-- ---- what the mode's frames are read as

pub reads_one : (symbols : Option SymbolPair) (lines : List (List ℕ)) (rows : List AtomRow) (after : Left)
    → frame_in symbols First (unread_lines lines) ≡ Ok (rows, after) → reading symbols rest lines ≡ Ok (rows ∷ [])
unfolding reading
reads_one symbols lines rows after e = rw e refl

pub reads_two : (symbols : Option SymbolPair) (lines : List (List ℕ)) (first second : List AtomRow) (after end : Left)
    → frame_in symbols First (unread_lines lines) ≡ Ok (first, after)
    → frame_in None (Second (length first)) after ≡ Ok (second, end)
    → reading symbols pair lines ≡ Ok (first ∷ second ∷ [])
unfolding reading
reads_two symbols lines first second after end e next = rw (e, next) refl

pub reads_no_first : (symbols : Option SymbolPair) (mode : Mode) (lines : List (List ℕ)) (fault : XyzFault)
    → frame_in symbols First (unread_lines lines) ≡ Err fault
    → reading symbols mode lines ≡ Err fault
unfolding reading
reads_no_first symbols rest lines fault e = rw e refl
reads_no_first symbols pair lines fault e = rw e refl

pub reads_no_second : (symbols : Option SymbolPair) (lines : List (List ℕ)) (first : List AtomRow) (after : Left)
    (fault : XyzFault)
    → frame_in symbols First (unread_lines lines) ≡ Ok (first, after)
    → frame_in None (Second (length first)) after ≡ Err fault → reading symbols pair lines ≡ Err fault
unfolding reading
reads_no_second symbols lines first after fault e next = rw (e, next) refl

-- ---- what stands in the relation is what reading gives

frame_first : (symbols : Option SymbolPair) (lines frame behind : List (List ℕ)) (rows : List AtomRow)
    → lines ≡ frame ++ behind → IsFrame symbols First frame rows
    → frame_in symbols First (unread_lines lines) ≡ Ok (rows, left (length frame) behind)
frame_first symbols lines frame behind rows whole is =
    rw (whole, ← zero-add (length frame)) (frame_good symbols First 0 frame behind rows is)

frames_is : (frames : List (List AtomRow)) (rows : List (List AtomRow)) → frames ≡ rows
    → (r : Result (List (List AtomRow)) XyzFault) → r ≡ Ok rows → r ≡ Ok frames
frames_is frames rows e r h = rw e h

given_one : (symbols : Option SymbolPair) (lines : List (List ℕ)) (rows : List AtomRow) → GivesOne symbols lines rows
    → reading symbols rest lines ≡ Ok (rows ∷ [])
given_one symbols lines rows gives =
    reads_one symbols lines rows (left (length gives.frame) gives.behind)
    (frame_first symbols lines gives.frame gives.behind rows gives.whole gives.is_frame)

given_two : (symbols : Option SymbolPair) (lines : List (List ℕ)) (first second : List AtomRow)
    → GivesTwo symbols lines first second
    → reading symbols pair lines ≡ Ok (first ∷ second ∷ [])
given_two symbols lines first second gives =
    reads_two symbols lines first second _ _
    (frame_first symbols lines gives.frame (gives.next ++ gives.behind) first gives.whole gives.is_frame)
    (frame_good None (Second (length first)) (length gives.frame) gives.next gives.behind second gives.is_next)

fault_of_first : (symbols : Option SymbolPair) (mode : Mode) (lines : List (List ℕ)) (fault : XyzFault)
    → FirstFault symbols First 0 lines fault
    → reading symbols mode lines ≡ Err fault
fault_of_first symbols mode lines fault is =
    reads_no_first symbols mode lines fault (frame_fault symbols First 0 lines fault is)

fault_of_second : (symbols : Option SymbolPair) (lines : List (List ℕ)) (fault : XyzFault)
    → FaultOfSecond symbols lines fault
    → reading symbols pair lines ≡ Err fault
fault_of_second symbols lines fault is =
    reads_no_second symbols lines is.rows (left (length is.frame) is.behind) fault
    (frame_first symbols lines is.frame is.behind is.rows is.whole is.is_frame)
    (frame_fault None (Second (length is.rows)) (length is.frame) is.behind fault is.of_next)

pub reading_is : (symbols : Option SymbolPair) (mode : Mode) (lines : List (List ℕ))
    (answer : Result (List (List AtomRow)) XyzFault)
    → IsReading symbols mode lines answer → reading symbols mode lines ≡ answer
reading_is symbols rest lines (Ok frames) is =
    frames_is frames (is.0 ∷ []) is.1 (reading symbols rest lines) (given_one symbols lines is.0 is.2)
reading_is symbols rest lines (Err fault) is = fault_of_first symbols rest lines fault is
reading_is symbols pair lines (Ok frames) is =
    frames_is frames (is.0 ∷ is.1 ∷ []) is.2 (reading symbols pair lines) (given_two symbols lines is.0 is.1 is.3)
reading_is symbols pair lines (Err fault) (inl is) = fault_of_first symbols pair lines fault is
reading_is symbols pair lines (Err fault) (inr is) = fault_of_second symbols lines fault is

pub one_answer : (symbols : Option SymbolPair) (mode : Mode) (lines : List (List ℕ))
    (a b : Result (List (List AtomRow)) XyzFault)
    → IsReading symbols mode lines a → IsReading symbols mode lines b → a ≡ b
one_answer symbols mode lines a b is also =
    sym (reading_is symbols mode lines a is) ∙ reading_is symbols mode lines b also

-- ---- what reading gives stands in the relation

stands_one : (symbols : Option SymbolPair) (lines : List (List ℕ)) (r : Result (List AtomRow × Left) XyzFault)
    → FrameStands symbols First 0 lines r
    → IsReading symbols rest lines (r >>= λ first. Ok (first.0 ∷ []))
stands_one symbols lines (Ok x) ends =
    (x.0, refl, record { frame = ends.frame; behind = x.1.lines; whole = ends.whole; is_frame = ends.is_frame })
stands_one symbols lines (Err fault) is = is

stands_next : (symbols : Option SymbolPair) (lines : List (List ℕ)) (first : List AtomRow) (after : Left)
    (ends : FrameEnds symbols First 0 lines first after)
    (r : Result (List AtomRow × Left) XyzFault)
    → FrameStands None (Second (length first)) after.taken after.lines r
    → IsReading symbols pair lines (r >>= λ second. Ok (first ∷ second.0 ∷ []))
stands_next symbols lines first after ends (Ok x) next =
    let whole : lines ≡ ends.frame ++ (next.frame ++ x.1.lines) =
    ends.whole ∙ ap (λ (y : List (List ℕ)). ends.frame ++ y) next.whole in (
      first,
      x.0,
      refl,
      record {
        frame = ends.frame;
        next = next.frame;
        behind = x.1.lines;
        whole = whole;
        is_frame = ends.is_frame;
        is_next = next.is_frame;
      },
    )
stands_next symbols lines first after ends (Err fault) is =
    let taken : after.taken ≡ length ends.frame = omega (arith, ends.taken) in
    inr (record {
      frame = ends.frame;
      behind = after.lines;
      rows = first;
      whole = ends.whole;
      is_frame = ends.is_frame;
      of_next = rw (← taken) is;
    })

stands_two : (symbols : Option SymbolPair) (lines : List (List ℕ)) (r : Result (List AtomRow × Left) XyzFault)
    → FrameStands symbols First 0 lines r
    → IsReading symbols pair lines (r >>= λ first. frame_in None (Second (length first.0)) first.1
    >>= λ second. Ok (first.0 ∷ second.0 ∷ []))
stands_two symbols lines (Err fault) is = inl is
stands_two symbols lines (Ok x) ends =
    stands_next symbols lines x.0 x.1 ends (frame_in None (Second (length x.0)) x.1)
    (frame_stands None (Second (length x.0)) x.1.taken x.1.lines)

pub reading_stands : (symbols : Option SymbolPair) (mode : Mode) (lines : List (List ℕ))
    → IsReading symbols mode lines (reading symbols mode lines)
unfolding reading
reading_stands symbols rest lines =
    stands_one symbols lines (frame_in symbols First (unread_lines lines)) (frame_stands symbols First 0 lines)
reading_stands symbols pair lines =
    stands_two symbols lines (frame_in symbols First (unread_lines lines)) (frame_stands symbols First 0 lines)
