-- What stands in the relation of frames and faults is what reading from the first line to the last gives.
use Rattle.std.proofs.Common.{◌≡◌, ℕ, suc, ◌+◌, ◌-◌, ◌<◌, List, [], ◌∷◌, ◌++◌, length, Option, Some, None, Result, Ok}
use Rattle.std.proofs.Common.{Err, refl, sym, ap, subst, ◌∙◌, append_assoc, append-nil, arith, add-zero, zero-add}
use Rattle.std.specs.List.{AllByRecursion}
use Rattle.std.proofs.lemmas.List.{length-append}
use Rattle.lj_xyz.specs.declared.xyz_fault.XyzKind.{XyzKind}
use Rattle.lj_xyz.specs.declared.xyz_fault.XyzKind.TheVariants as kind
use Rattle.lj_xyz.specs.declared.xyz_fault.XyzFault.{XyzFault}
use Rattle.lj_xyz.specs.declared.atom_row.AtomRow.{AtomRow}
use Rattle.lj_xyz.specs.declared.frame_reader.Position.{Position}
use Rattle.lj_xyz.specs.Symbols.{SymbolPair}
use Rattle.lj_xyz.specs.Atoms.{◌>>=◌, row_of}
use Rattle.lj_xyz.specs.Bodies.{IsWordless, Counts, missing, IsHead, AreAtoms, IsFrame, fault_behind, OpeningFault}
use Rattle.lj_xyz.specs.Bodies.{no_count, bad_count, other_count, no_comment, FirstFault, in_opening, no_atom, bad_atom}
use Rattle.lj_xyz.specs.Reading.{Left, count_or_fault, head_in, behind_comment, opening_in, next_row, rows_in, frame_in}
use Rattle.lj_xyz.proofs.ReaderLaws.{head_over, head_at, head_none, with_front, no_front}

abbrev pub left : ℕ → List (List ℕ) → Left
left taken lines = record { taken = taken; lines = lines }

-- ---- the head

head_skips : (position : Position) (taken : ℕ) (blanks more : List (List ℕ)) → AllByRecursion IsWordless blanks
    → head_in position taken (blanks ++ more) ≡ head_in position (taken + length blanks) more
head_skips position taken [] more wordless = rw add-zero refl
head_skips position taken (blank ∷ blanks) more wordless =
    let e : taken + suc (length blanks) ≡ (taken + 1) + length blanks = omega arith in
    rw e (head_over position taken blank (blanks ++ more) wordless.0
    ∙ head_skips position (taken + 1) blanks more wordless.1)

-- what the count line says
head_counts : (position : Position) (taken : ℕ) (line : List ℕ) (more : List (List ℕ)) (atoms : Option ℕ)
    → Counts line atoms
    → head_in position taken (line ∷ more) ≡ (count_or_fault position (taken + 1) atoms
    >>= λ n. Ok (n, left (taken + 1) more))
head_counts position taken line more atoms counts =
    rw (← counts.value) (head_at position taken line more counts.first counts.others counts.words)

behind_blanks : (position : Position) (taken : ℕ) (lines blanks : List (List ℕ)) (count : List ℕ)
    (more : List (List ℕ)) (atoms : Option ℕ)
    → lines ≡ blanks ++ count ∷ more → AllByRecursion IsWordless blanks → Counts count atoms
    → head_in position taken lines ≡ (count_or_fault position (taken + length blanks + 1) atoms
    >>= λ n. Ok (n, left (taken + length blanks + 1) more))
behind_blanks position taken lines blanks count more atoms whole wordless counts =
    rw whole (head_skips position taken blanks (count ∷ more) wordless
    ∙ head_counts position (taken + length blanks) count more atoms counts)

head_good : (position : Position) (taken : ℕ) (head more : List (List ℕ)) (n : ℕ) → IsHead position head n
    → head_in position taken (head ++ more) ≡ Ok (n, left (taken + length head) more)
head_good position taken head more n is =
    let whole : head ++ more ≡ is.blanks ++ is.count ∷ more =
    rw is.whole (append_assoc is.blanks (is.count ∷ []) more) in
    let len : taken + length head ≡ taken + length is.blanks + 1 =
    omega (arith, ap length is.whole, length-append is.blanks (is.count ∷ [])) in
    rw len (behind_blanks position taken (head ++ more) is.blanks is.count more (Some n) whole is.wordless is.counts
    ∙ rw is.admitted refl)

-- ---- the atoms

same_length : (symbols : Option SymbolPair) (atoms : List (List ℕ)) (rows : List AtomRow) → AreAtoms symbols atoms rows
    → length atoms ≡ length rows
same_length symbols [] [] e = refl
same_length symbols [] (row ∷ rows) e = absurd cc
same_length symbols (atom ∷ atoms) [] e = absurd cc
same_length symbols (atom ∷ atoms) (row ∷ rows) e = ap suc (same_length symbols atoms rows (cc))

row_good : (symbols : Option SymbolPair) (taken : ℕ) (atom : List ℕ) (more : List (List ℕ)) (row : AtomRow)
    → row_of symbols atom ≡ Ok row
    → next_row symbols taken (atom ∷ more) ≡ Ok (row, left (taken + 1) more)
unfolding next_row
row_good symbols taken atom more row e = rw e refl

front_of : (row : AtomRow) (rows : List AtomRow) (read : Result (List AtomRow × Left) XyzFault)
    → (with_front rows read >>= λ x. Ok (row ∷ x.0, x.1)) ≡ with_front (row ∷ rows) read
front_of row rows (Ok x) = refl
front_of row rows (Err fault) = refl

rows_go_over : (symbols : Option SymbolPair) (k taken : ℕ) (atoms more : List (List ℕ)) (rows : List AtomRow)
    → AreAtoms symbols atoms rows
    → rows_in symbols (length rows + k) (left taken (atoms ++ more))
    ≡ with_front rows (rows_in symbols k (left (taken + length atoms) more))
unfolding rows_in
rows_go_over symbols k taken [] more [] e =
    rw (zero-add, add-zero) (sym (no_front (rows_in symbols k (left taken more))))
rows_go_over symbols k taken [] more (row ∷ rows) e = absurd cc
rows_go_over symbols k taken (atom ∷ atoms) more [] e = absurd cc
rows_go_over symbols k taken (atom ∷ atoms) more (row ∷ rows) e =
    let first : row_of symbols atom ≡ Ok row = cc in
    let others : AreAtoms symbols atoms rows = cc in
    let n : suc (length rows) + k ≡ suc (length rows + k) = omega arith in
    let t : taken + suc (length atoms) ≡ taken + 1 + length atoms = omega arith in
    let more_rows = rows_go_over symbols k (taken + 1) atoms more rows others in
    rw (n, t, row_good symbols taken atom (atoms ++ more) row first, more_rows)
    (front_of row rows (rows_in symbols k (left (taken + 1 + length atoms) more)))

no_more : (symbols : Option SymbolPair) (rows : List AtomRow) (after : Left)
    → with_front rows (rows_in symbols 0 after) ≡ Ok (rows, after)
unfolding rows_in
no_more symbols rows after = ap (λ (all : List AtomRow). Ok (all, after)) (append-nil rows)

stops : (symbols : Option SymbolPair) (rows : List AtomRow) (k taken : ℕ) (lines : List (List ℕ)) (fault : XyzFault)
    → next_row symbols taken lines ≡ Err fault
    → with_front rows (rows_in symbols (suc k) (left taken lines)) ≡ Err fault
unfolding rows_in
stops symbols rows k taken lines fault e = rw e refl

-- ---- frames

comment_good : (taken : ℕ) (comment : List ℕ) (more : List (List ℕ))
    → behind_comment taken (comment ∷ more) ≡ Ok (left (taken + 1) more)
unfolding behind_comment
comment_good taken comment more = refl

-- after the head and the comment line come the atoms
frame_body : (symbols : Option SymbolPair) (position : Position) (taken : ℕ) (head : List (List ℕ)) (comment : List ℕ)
    (more : List (List ℕ)) (n : ℕ)
    → IsHead position head n
    → frame_in symbols position (left taken (head ++ comment ∷ more))
    ≡ rows_in symbols n (left (taken + length head + 1) more)
unfolding frame_in
frame_body symbols position taken head comment more n is =
    rw (head_good position taken head (comment ∷ more) n is, comment_good (taken + length head) comment more) refl

pub frame_good : (symbols : Option SymbolPair) (position : Position) (taken : ℕ) (frame behind : List (List ℕ))
    (rows : List AtomRow)
    → IsFrame symbols position frame rows
    → frame_in symbols position (left taken (frame ++ behind)) ≡ Ok (rows, left (taken + length frame) behind)
frame_good symbols position taken frame behind rows is =
    let whole : frame ++ behind ≡ is.head ++ is.comment ∷ (is.atoms ++ behind) =
    rw is.whole (append_assoc is.head (is.comment ∷ is.atoms) behind) in
    let len : taken + length frame ≡ taken + length is.head + 1 + length is.atoms =
    omega (arith, ap length is.whole, length-append is.head (is.comment ∷ is.atoms)) in
    let n : length rows ≡ length rows + 0 = omega arith in
    let all : rows_in symbols (length rows + 0) (left (taken + length is.head + 1) (is.atoms ++ behind))
    ≡ Ok (rows, left (taken + length is.head + 1 + length is.atoms) behind) =
    rows_go_over symbols 0 (taken + length is.head + 1) is.atoms behind rows is.are_atoms
    ∙ no_more symbols rows (left (taken + length is.head + 1 + length is.atoms) behind) in
    rw (whole, len) (frame_body symbols position taken is.head is.comment (is.atoms ++ behind) (length rows) is.is_head
    ∙ subst (λ (m : ℕ). rows_in symbols m (left (taken + length is.head + 1) (is.atoms ++ behind))
    ≡ Ok (rows, left (taken + length is.head + 1 + length is.atoms) behind)) (sym n) all)

-- a fault among the atoms
fault_behind_atoms : (symbols : Option SymbolPair) (position : Position) (taken : ℕ) (lines head : List (List ℕ))
    (n : ℕ) (comment : List ℕ)
    (atoms more : List (List ℕ)) (rows : List AtomRow) (fault : XyzFault)
    → lines ≡ head ++ comment ∷ (atoms ++ more) → IsHead position head n → AreAtoms symbols atoms rows
    → length atoms < n
    → next_row symbols (taken + length head + 1 + length atoms) more ≡ Err fault
    → frame_in symbols position (left taken lines) ≡ Err fault
fault_behind_atoms symbols position taken lines head n comment atoms more rows fault whole is are lt e =
    let same : length atoms ≡ length rows = same_length symbols atoms rows are in
    let k : n ≡ length rows + suc (n - length rows - 1) = omega arith in
    let at : rows_in symbols (length rows + suc (n - length rows - 1))
    (left (taken + length head + 1) (atoms ++ more)) ≡ Err fault =
    rows_go_over symbols (suc (n - length rows - 1)) (taken + length head + 1) atoms more rows are
    ∙ stops symbols rows (n - length rows - 1) (taken + length head + 1 + length atoms) more fault e in
    rw whole (frame_body symbols position taken head comment (atoms ++ more) n is
    ∙ subst (λ (m : ℕ). rows_in symbols m (left (taken + length head + 1) (atoms ++ more)) ≡ Err fault) (sym k) at)

row_missing : (symbols : Option SymbolPair) (taken : ℕ)
    → next_row symbols taken [] ≡ Err (fault_behind taken kind.Short)
unfolding next_row
row_missing symbols taken = refl

row_bad : (symbols : Option SymbolPair) (taken : ℕ) (bad : List ℕ) (behind : List (List ℕ)) (wrong : XyzKind)
    → row_of symbols bad ≡ Err wrong
    → next_row symbols taken (bad ∷ behind) ≡ Err (fault_behind taken wrong)
unfolding next_row
row_bad symbols taken bad behind wrong e = rw e refl

opening_of_head : (position : Position) (taken : ℕ) (lines : List (List ℕ)) (fault : XyzFault)
    → head_in position taken lines ≡ Err fault
    → opening_in position (left taken lines) ≡ Err fault
opening_of_head position taken lines fault e = rw e refl

comment_missing : (position : Position) (taken : ℕ) (lines : List (List ℕ)) (n : ℕ) → IsHead position lines n
    → opening_in position (left taken lines) ≡ Err (fault_behind (taken + length lines) kind.Short)
unfolding behind_comment
comment_missing position taken lines n is =
    let good : head_in position taken lines ≡ Ok (n, left (taken + length lines) []) =
    rw append-nil at (head_good position taken lines [] n is) in
    rw good refl

-- what is the fault before the atom lines is what reading these lines gives
pub opening_fault : (position : Position) (taken : ℕ) (lines : List (List ℕ)) (fault : XyzFault)
    → OpeningFault position taken lines fault
    → opening_in position (left taken lines) ≡ Err fault
opening_fault position taken lines fault (no_count wordless e) =
    let over : head_in position taken lines ≡ Err (fault_behind (taken + length lines) (missing position)) =
    rw append-nil at (head_skips position taken lines [] wordless ∙ head_none position (taken + length lines)) in
    rw e (opening_of_head position taken lines (fault_behind (taken + length lines) (missing position)) over)
opening_fault position taken lines fault (bad_count blanks count behind whole wordless counts e) =
    rw e (opening_of_head position taken lines (fault_behind (taken + length blanks) kind.Count)
    (behind_blanks position taken lines blanks count behind None whole wordless counts))
opening_fault position taken lines fault (other_count blanks count behind n whole wordless counts other e) =
    rw e (opening_of_head position taken lines (fault_behind (taken + length blanks) kind.Pair)
    (behind_blanks position taken lines blanks count behind (Some n) whole wordless counts ∙ rw other refl))
opening_fault position taken lines fault (no_comment n is e) = rw e (comment_missing position taken lines n is)

frame_of_opening : (symbols : Option SymbolPair) (position : Position) (taken : ℕ) (lines : List (List ℕ))
    (fault : XyzFault)
    → opening_in position (left taken lines) ≡ Err fault
    → frame_in symbols position (left taken lines) ≡ Err fault
unfolding frame_in
frame_of_opening symbols position taken lines fault e = rw e refl

-- what is the first fault is what reading the frame gives
pub frame_fault : (symbols : Option SymbolPair) (position : Position) (taken : ℕ) (lines : List (List ℕ))
    (fault : XyzFault)
    → FirstFault symbols position taken lines fault → frame_in symbols position (left taken lines) ≡ Err fault
frame_fault symbols position taken lines fault (in_opening is) =
    frame_of_opening symbols position taken lines fault (opening_fault position taken lines fault is)
frame_fault symbols position taken lines fault (no_atom head n comment atoms rows whole is are lt e) =
    let len : taken + length lines ≡ taken + length head + 1 + length atoms =
    omega (arith, ap length whole, length-append head (comment ∷ atoms)) in
    let regrouped : lines ≡ head ++ comment ∷ (atoms ++ []) = rw append-nil whole in
    rw (e, len) (fault_behind_atoms symbols position taken lines head n comment atoms [] rows
    (fault_behind (taken + length head + 1 + length atoms) kind.Short) regrouped is are lt
    (row_missing symbols (taken + length head + 1 + length atoms)))
frame_fault symbols position taken lines fault
    (bad_atom head n comment atoms rows bad behind wrong whole is are lt at e) =
    rw e (fault_behind_atoms symbols position taken lines head n comment atoms (bad ∷ behind) rows
    (fault_behind (taken + length head + 1 + length atoms) wrong) whole is are lt
    (row_bad symbols (taken + length head + 1 + length atoms) bad behind wrong at))
