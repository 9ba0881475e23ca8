-- What reading a frame gives stands in the relation of frames and faults.
use Rattle.std.proofs.Common.{◌≡◌, ℕ, zero, suc, ◌+◌, ◌<◌, true, List, [], ◌∷◌, ◌++◌, length, Option, Some, None}
use Rattle.std.proofs.Common.{Result, Ok, Err, refl, sym, ap, ◌∙◌, ◌⊎◌, inl, inr, append_assoc, append-nil, arith}
use Rattle.std.proofs.Common.{add-zero}
use Rattle.std.proofs.lemmas.Bool.{cases_Bool}
use Rattle.std.proofs.lemmas.List.{length-append}
use Rattle.lj_xyz.specs.declared.xyz_fault.XyzKind.{XyzKind}
use Rattle.lj_xyz.specs.declared.xyz_fault.XyzKind.TheVariants as kind
use Rattle.lj_xyz.specs.declared.xyz_fault.XyzFault.{XyzFault}
use Rattle.lj_xyz.specs.declared.atom_row.AtomRow.{AtomRow}
use Rattle.lj_xyz.specs.declared.frame_reader.Position.{Position}
use Rattle.lj_base.specs.Words.{words_of}
use Rattle.lj_xyz.specs.Symbols.{SymbolPair}
use Rattle.lj_xyz.specs.Atoms.{◌>>=◌, atom_count_of, row_of}
use Rattle.lj_xyz.specs.Bodies.{IsWordless, Counts, admits, IsHead, AreAtoms, IsFrame, fault_behind, OpeningFault}
use Rattle.lj_xyz.specs.Bodies.{no_count, bad_count, other_count, no_comment, FirstFault, in_opening, no_atom, bad_atom}
use Rattle.lj_xyz.specs.Reading.{Left, count_or_fault, head_in, behind_comment, next_row, rows_in, frame_in}
use Rattle.lj_xyz.proofs.ReaderLaws.{head_over, head_at, head_none}
use Rattle.lj_xyz.proofs.FrameLaws.{left}

-- ---- the head

-- a line without a word in front
later_is_head : (position : Position) (line : List ℕ) (head : List (List ℕ)) (n : ℕ) → IsWordless line
    → IsHead position head n → IsHead position (line ∷ head) n
later_is_head position line head n blank is = record {
  blanks = line ∷ is.blanks;
  count = is.count;
  whole = ap (λ (x : List (List ℕ)). line ∷ x) is.whole;
  wordless = (blank, is.wordless);
  counts = is.counts;
  admitted = is.admitted;
}

later_fault : (position : Position) (before : ℕ) (line : List ℕ) (lines : List (List ℕ)) (fault : XyzFault)
    → IsWordless line → OpeningFault position (before + 1) lines fault
    → OpeningFault position before (line ∷ lines) fault
later_fault position before line lines fault blank (no_count wordless e) =
    let at : before + suc (length lines) ≡ before + 1 + length lines = omega arith in
    no_count (blank, wordless) (rw at e)
later_fault position before line lines fault blank (bad_count blanks count behind whole wordless counts e) =
    let at : before + suc (length blanks) ≡ before + 1 + length blanks = omega arith in
    bad_count (line ∷ blanks) count behind (ap (λ (x : List (List ℕ)). line ∷ x) whole)
    (blank, wordless) counts (rw at e)
later_fault position before line lines fault blank (other_count blanks count behind n whole wordless counts differs e) =
    let at : before + suc (length blanks) ≡ before + 1 + length blanks = omega arith in
    other_count (line ∷ blanks) count behind n (ap (λ (x : List (List ℕ)). line ∷ x) whole)
    (blank, wordless) counts differs (rw at e)
later_fault position before line lines fault blank (no_comment n is e) =
    let at : before + suc (length lines) ≡ before + 1 + length lines = omega arith in
    no_comment n (later_is_head position line lines n blank is) (rw at e)

record HeadEnds (position : Position) (before : ℕ) (lines : List (List ℕ)) (n : ℕ) (after : Left) : Type 0 where
  head : List (List ℕ)
  whole : lines ≡ head ++ after.lines
  is_head : IsHead position head n
  taken : after.taken ≡ before + length head

abbrev HeadStands : Position → ℕ → List (List ℕ) → Result (ℕ × Left) XyzFault → Type 0
HeadStands position before lines (Ok x) = HeadEnds position before lines x.0 x.1
HeadStands position before lines (Err fault) = OpeningFault position before lines fault

later_head : (position : Position) (before : ℕ) (line : List ℕ) (lines : List (List ℕ)) (n : ℕ) (after : Left)
    → IsWordless line → HeadEnds position (before + 1) lines n after → HeadEnds position before (line ∷ lines) n after
later_head position before line lines n after blank ends =
    record {
      head = line ∷ ends.head;
      whole = ap (λ (x : List (List ℕ)). line ∷ x) ends.whole;
      is_head = later_is_head position line ends.head n blank ends.is_head;
      taken = omega (arith, ends.taken);
    }

later : (position : Position) (before : ℕ) (line : List ℕ) (lines : List (List ℕ)) (r : Result (ℕ × Left) XyzFault)
    → IsWordless line → HeadStands position (before + 1) lines r → HeadStands position before (line ∷ lines) r
later position before line lines (Ok x) blank stands = later_head position before line lines x.0 x.1 blank stands
later position before line lines (Err fault) blank stands = later_fault position before line lines fault blank stands

abbrev counted_left : ℕ → List (List ℕ) → ℕ → ℕ × Left
counted_left before lines n = (n, left (before + 1) lines)

one_head : (position : Position) (before : ℕ) (line : List ℕ) (lines : List (List ℕ)) (n : ℕ) → Counts line (Some n)
    → admits position n ≡ true → HeadEnds position before (line ∷ lines) n (left (before + 1) lines)
one_head position before line lines n counts fits = record {
  head = line ∷ [];
  whole = refl;
  is_head = record { blanks = []; count = line; whole = refl; wordless = tt; counts = counts; admitted = fits };
  taken = refl;
}

at_count : (position : Position) (before : ℕ) (line : List ℕ) (lines : List (List ℕ)) (atoms : Option ℕ)
    → Counts line atoms
    → HeadStands position before (line ∷ lines) (count_or_fault position (before + 1) atoms
    >>= λ n. Ok (counted_left before lines n))
at_count position before line lines None counts = bad_count [] line lines refl tt counts (rw add-zero refl)
at_count position before line lines (Some n) counts =
    elim (cases_Bool (admits position n)) [
      | inl fits ↦ rw fits (one_head position before line lines n counts fits)
      | inr differs ↦ rw differs (other_count [] line lines n refl tt counts differs (rw add-zero refl))
    ]

words_cases : (words : List (List ℕ)) → (words ≡ [])
    ⊎ ((first : List ℕ) × (others : List (List ℕ)) × (words ≡ first ∷ others))
words_cases [] = inl refl
words_cases (first ∷ others) = inr (first, others, refl)

head_stands : (position : Position) (before : ℕ) (lines : List (List ℕ))
    → HeadStands position before lines (head_in position before lines)
head_stands position before [] = rw (head_none position before) (no_count tt (rw add-zero refl))
head_stands position before (line ∷ lines) =
    elim (words_cases (words_of line)) [
      | inl blank ↦ rw (head_over position before line lines blank)
          (later position before line lines (head_in position (before + 1) lines) blank
          (head_stands position (before + 1) lines))
      | inr w ↦
          let counts : Counts line (atom_count_of w.0) = record { first = w.0; others = w.1; words = w.2; value = refl } in
          rw (head_at position before line lines w.0 w.1 w.2)
          (at_count position before line lines (atom_count_of w.0) counts)
    ]

-- ---- the atoms

record RowsEnd (symbols : Option SymbolPair) (n before : ℕ) (lines : List (List ℕ)) (rows : List AtomRow)
    (after : Left) : Type 0 where
  atoms : List (List ℕ)
  whole : lines ≡ atoms ++ after.lines
  are_atoms : AreAtoms symbols atoms rows
  count : length rows ≡ n
  taken : after.taken ≡ before + length atoms

data RowsFault (symbols : Option SymbolPair) (n before : ℕ) (lines : List (List ℕ)) (fault : XyzFault) : Type 0 where
  ended : (rows : List AtomRow) → AreAtoms symbols lines rows → length lines < n
      → fault ≡ fault_behind (before + length lines) kind.Short → RowsFault symbols n before lines fault
  wrong : (atoms : List (List ℕ)) (rows : List AtomRow) (bad : List ℕ) (behind : List (List ℕ)) (fault_kind : XyzKind)
      → lines ≡ atoms ++ bad ∷ behind → AreAtoms symbols atoms rows → length atoms < n
      → row_of symbols bad ≡ Err fault_kind → fault ≡ fault_behind (before + length atoms) fault_kind
      → RowsFault symbols n before lines fault

abbrev RowsStand : Option SymbolPair → ℕ → ℕ → List (List ℕ) → Result (List AtomRow × Left) XyzFault → Type 0
RowsStand symbols n before lines (Ok x) = RowsEnd symbols n before lines x.0 x.1
RowsStand symbols n before lines (Err fault) = RowsFault symbols n before lines fault

more_atoms : (symbols : Option SymbolPair) (line : List ℕ) (row : AtomRow) (atoms : List (List ℕ)) (rows : List AtomRow)
    → row_of symbols line ≡ Ok row
    → AreAtoms symbols atoms rows → AreAtoms symbols (line ∷ atoms) (row ∷ rows)
more_atoms symbols line row atoms rows e are = rw (e, are) refl

later_rows : (symbols : Option SymbolPair) (n before : ℕ) (line : List ℕ) (lines : List (List ℕ)) (row : AtomRow)
    (r : Result (List AtomRow × Left) XyzFault)
    → row_of symbols line ≡ Ok row → RowsStand symbols n (before + 1) lines r
    → RowsStand symbols (suc n) before (line ∷ lines) (r >>= λ x. Ok (row ∷ x.0, x.1))
later_rows symbols n before line lines row (Ok x) e stands = record {
  atoms = line ∷ stands.atoms;
  whole = ap (λ (y : List (List ℕ)). line ∷ y) stands.whole;
  are_atoms = more_atoms symbols line row stands.atoms x.0 e stands.are_atoms;
  count = ap suc stands.count;
  taken = omega (arith, stands.taken);
}
later_rows symbols n before line lines row (Err fault) e (ended rows are lt is) =
    let at : before + suc (length lines) ≡ before + 1 + length lines = omega arith in
    ended (row ∷ rows) (more_atoms symbols line row lines rows e are) (omega arith) (rw at is)
later_rows symbols n before line lines row (Err fault) e
    (wrong atoms rows faulty behind fault_kind whole are lt at_faulty is) =
    let at : before + suc (length atoms) ≡ before + 1 + length atoms = omega arith in
    wrong (line ∷ atoms) (row ∷ rows) faulty behind fault_kind (ap (λ (y : List (List ℕ)). line ∷ y) whole)
    (more_atoms symbols line row atoms rows e are) (omega arith) at_faulty (rw at is)

row_cases : (r : Result AtomRow XyzKind) → ((row : AtomRow) × (r ≡ Ok row)) ⊎ ((fault_kind : XyzKind) × (r ≡ Err fault_kind))
row_cases (Ok row) = inl (row, refl)
row_cases (Err fault_kind) = inr (fault_kind, refl)

rows_in_none : (symbols : Option SymbolPair) (before : ℕ) (lines : List (List ℕ))
    → rows_in symbols 0 (left before lines) ≡ Ok ([], left before lines)
unfolding rows_in
rows_in_none symbols before lines = refl

rows_in_end : (symbols : Option SymbolPair) (n before : ℕ)
    → rows_in symbols (suc n) (left before []) ≡ Err (fault_behind before kind.Short)
unfolding rows_in next_row
rows_in_end symbols n before = refl

rows_in_good : (symbols : Option SymbolPair) (n before : ℕ) (line : List ℕ) (lines : List (List ℕ)) (row : AtomRow)
    → row_of symbols line ≡ Ok row
    → rows_in symbols (suc n) (left before (line ∷ lines))
    ≡ (rows_in symbols n (left (before + 1) lines) >>= λ x. Ok (row ∷ x.0, x.1))
unfolding rows_in next_row
rows_in_good symbols n before line lines row e = rw e refl

rows_in_bad : (symbols : Option SymbolPair) (n before : ℕ) (line : List ℕ) (lines : List (List ℕ))
    (fault_kind : XyzKind)
    → row_of symbols line ≡ Err fault_kind
    → rows_in symbols (suc n) (left before (line ∷ lines)) ≡ Err (fault_behind before fault_kind)
unfolding rows_in next_row
rows_in_bad symbols n before line lines fault_kind e = rw e refl

no_rows : (symbols : Option SymbolPair) (before : ℕ) (lines : List (List ℕ))
    → RowsEnd symbols 0 before lines [] (left before lines)
no_rows symbols before lines = record {
  atoms = [];
  whole = refl;
  are_atoms = refl;
  count = refl;
  taken = rw add-zero refl;
}

rows_stand : (symbols : Option SymbolPair) (n before : ℕ) (lines : List (List ℕ))
    → RowsStand symbols n before lines (rows_in symbols n (left before lines))
rows_stand symbols zero before lines = rw (rows_in_none symbols before lines) (no_rows symbols before lines)
rows_stand symbols (suc n) before [] =
    rw (rows_in_end symbols n before) (ended [] refl (omega arith) (rw add-zero refl))
rows_stand symbols (suc n) before (line ∷ lines) =
    elim (row_cases (row_of symbols line)) [
      | inl good ↦ rw (rows_in_good symbols n before line lines good.0 good.1)
          (later_rows symbols n before line lines good.0 (rows_in symbols n (left (before + 1) lines)) good.1
          (rows_stand symbols n (before + 1) lines))
      | inr fault ↦ rw (rows_in_bad symbols n before line lines fault.0 fault.1)
          (wrong [] [] line lines fault.0 refl refl (omega arith) fault.1 (rw add-zero refl))
    ]

-- ---- frames

pub record FrameEnds (symbols : Option SymbolPair) (position : Position) (before : ℕ) (lines : List (List ℕ))
    (rows : List AtomRow) (after : Left) : Type 0 where
  pub frame : List (List ℕ)
  pub whole : lines ≡ frame ++ after.lines
  pub is_frame : IsFrame symbols position frame rows
  pub taken : after.taken ≡ before + length frame

abbrev pub FrameStands : Option SymbolPair → Position → ℕ → List (List ℕ) → Result (List AtomRow × Left) XyzFault → Type 0
FrameStands symbols position before lines (Ok x) = FrameEnds symbols position before lines x.0 x.1
FrameStands symbols position before lines (Err fault) = FirstFault symbols position before lines fault

behind_head : (position : Position) (before : ℕ) (lines : List (List ℕ)) (n : ℕ) (after : Left) (comment : List ℕ)
    (more : List (List ℕ)) (ends : HeadEnds position before lines n after) → after.lines ≡ comment ∷ more
    → lines ≡ ends.head ++ comment ∷ more
behind_head position before lines n after comment more ends e =
    ends.whole ∙ ap (λ (x : List (List ℕ)). ends.head ++ x) e

with_rows : (symbols : Option SymbolPair) (position : Position) (before : ℕ) (lines : List (List ℕ)) (n : ℕ)
    (after : Left) (comment : List ℕ)
    (more : List (List ℕ)) → HeadEnds position before lines n after → after.lines ≡ comment ∷ more
    → (r : Result (List AtomRow × Left) XyzFault) → RowsStand symbols n (after.taken + 1) more r
    → FrameStands symbols position before lines r
with_rows symbols position before lines n after comment more ends e (Ok x) stands =
    let frame : List (List ℕ) = ends.head ++ comment ∷ stands.atoms in
    let whole : lines ≡ frame ++ x.1.lines = behind_head position before lines n after comment more ends e
    ∙ ap (λ (y : List (List ℕ)). ends.head ++ comment ∷ y) stands.whole
    ∙ sym (append_assoc ends.head (comment ∷ stands.atoms) x.1.lines) in
    record {
      frame = frame;
      whole = whole;
      is_frame =
          record {
            head = ends.head;
            comment = comment;
            atoms = stands.atoms;
            whole = refl;
            is_head = rw stands.count ends.is_head;
            are_atoms = stands.are_atoms;
          };
      taken = omega (arith, stands.taken, ends.taken, length-append ends.head (comment ∷ stands.atoms));
    }
with_rows symbols position before lines n after comment more ends e (Err fault) (ended rows are lt is) =
    let whole = behind_head position before lines n after comment more ends e in
    let at : before + length lines ≡ after.taken + 1 + length more =
    omega (arith, ends.taken, ap length whole, length-append ends.head (comment ∷ more)) in
    no_atom ends.head n comment more rows whole ends.is_head are lt (rw at is)
with_rows symbols position before lines n after comment more ends e (Err fault)
    (wrong atoms rows faulty behind fault_kind whole are lt at_faulty is) =
    let all : lines ≡ ends.head ++ comment ∷ (atoms ++ faulty ∷ behind) =
    behind_head position before lines n after comment more ends e
    ∙ ap (λ (y : List (List ℕ)). ends.head ++ comment ∷ y) whole in
    bad_atom ends.head n comment atoms rows faulty behind fault_kind all ends.is_head are lt at_faulty
    (rw (← ends.taken) is)

no_more : (lines : List (List ℕ)) → (lines ≡ []) ⊎ ((first : List ℕ) × (others : List (List ℕ))
    × (lines ≡ first ∷ others))
no_more [] = inl refl
no_more (first ∷ others) = inr (first, others, refl)

abbrev counted_behind : ℕ → Left → ℕ × Left
counted_behind n body = (n, body)

abbrev rows_behind : Option SymbolPair → ℕ × Left → Result (List AtomRow × Left) XyzFault
rows_behind symbols opening = rows_in symbols opening.0 opening.1

comment_end : (symbols : Option SymbolPair) (n : ℕ) (taken : ℕ)
    → (behind_comment taken [] >>= (λ body. Ok (counted_behind n body)) >>= rows_behind symbols)
    ≡ Err (fault_behind taken kind.Short)
unfolding behind_comment
comment_end symbols n taken = refl

comment_over : (symbols : Option SymbolPair) (n : ℕ) (taken : ℕ) (comment : List ℕ) (more : List (List ℕ))
    → (behind_comment taken (comment ∷ more) >>= (λ body. Ok (counted_behind n body)) >>= rows_behind symbols)
    ≡ rows_in symbols n (left (taken + 1) more)
unfolding behind_comment
comment_over symbols n taken comment more = refl

ends_there : (symbols : Option SymbolPair) (position : Position) (before : ℕ) (lines : List (List ℕ)) (n : ℕ)
    (after : Left)
    → HeadEnds position before lines n after → after.lines ≡ []
    → FirstFault symbols position before lines (fault_behind after.taken kind.Short)
ends_there symbols position before lines n after ends e =
    let whole : lines ≡ ends.head = ends.whole ∙ ap (λ (x : List (List ℕ)). ends.head ++ x) e ∙ append-nil ends.head in
    in_opening (no_comment n (rw whole ends.is_head) (rw (ends.taken, whole) refl))

behind_it : (symbols : Option SymbolPair) (position : Position) (before : ℕ) (lines : List (List ℕ))
    (r : Result (ℕ × Left) XyzFault)
    → HeadStands position before lines r
    → FrameStands symbols position before lines (r >>= (λ head. behind_comment head.1.taken head.1.lines
    >>= λ body. Ok (counted_behind head.0 body)) >>= rows_behind symbols)
behind_it symbols position before lines (Err fault) stands = in_opening stands
behind_it symbols position before lines (Ok x) stands =
    elim (no_more x.1.lines) [
      | inl e ↦ rw (e, comment_end symbols x.0 x.1.taken) (ends_there symbols position before lines x.0 x.1 stands e)
      | inr more ↦
          rw (more.2, comment_over symbols x.0 x.1.taken more.0 more.1)
          (with_rows symbols position before lines x.0 x.1 more.0 more.1 stands more.2
          (rows_in symbols x.0 (left (x.1.taken + 1) more.1)) (rows_stand symbols x.0 (x.1.taken + 1) more.1))
    ]

pub frame_stands : (symbols : Option SymbolPair) (position : Position) (before : ℕ) (lines : List (List ℕ))
    → FrameStands symbols position before lines (frame_in symbols position (left before lines))
unfolding frame_in
frame_stands symbols position before lines =
    behind_it symbols position before lines (head_in position before lines) (head_stands position before lines)
