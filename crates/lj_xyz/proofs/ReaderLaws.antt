-- Reading line by line, as the loops of the reader do.
use Rattle.std.proofs.Common.{◌≡◌, ℕ, suc, ◌+◌, ◌-◌, ◌≤◌, ◌<◌, List, [], ◌∷◌, ◌++◌, Option, Result, Ok, Err}
use Rattle.std.proofs.Common.{refl, sym, ap, subst, ◌∙◌, append_assoc, append-nil, arith}
use Rattle.lj_xyz.specs.declared.xyz_fault.XyzKind.{XyzKind}
use Rattle.lj_xyz.specs.declared.xyz_fault.XyzFault.{XyzFault}
use Rattle.lj_xyz.specs.declared.atom_row.AtomRow.{AtomRow}
use Rattle.lj_xyz.specs.declared.frame_reader.Position.{Position}
use Rattle.lj_base.specs.Words.{words_of}
use Rattle.lj_xyz.specs.Symbols.{SymbolPair}
use Rattle.lj_xyz.specs.Atoms.{◌>>=◌, atom_count_of}
use Rattle.lj_xyz.specs.Bodies.{missing, fault_behind}
use Rattle.lj_xyz.specs.Reading.{Left, ReadsExactlyAs, count_or_fault, head_in, next_row, rows_in}

-- ---- the count line

abbrev pub after_line : ℕ → List (List ℕ) → Left
after_line taken lines = record { taken = taken + 1; lines = lines }

pub head_over : (position : Position) (taken : ℕ) (line : List ℕ) (lines : List (List ℕ)) → words_of line ≡ []
    → head_in position taken (line ∷ lines) ≡ head_in position (taken + 1) lines
unfolding head_in
head_over position taken line lines e = rw (e, head_in) refl

pub head_at : (position : Position) (taken : ℕ) (line : List ℕ) (lines : List (List ℕ)) (first : List ℕ)
    (others : List (List ℕ)) → words_of line ≡ first ∷ others
    → head_in position taken (line ∷ lines) ≡ (count_or_fault position (taken + 1) (atom_count_of first)
    >>= λ n. Ok (n, after_line taken lines))
unfolding head_in
head_at position taken line lines first others e = rw (e, head_in) refl

pub head_none : (position : Position) (taken : ℕ) → head_in position taken []
    ≡ Err (fault_behind taken (missing position))
unfolding head_in
head_none position taken = refl

-- the reader went over one line
pub record Steps (old new : Left) (line : List ℕ) : Type 0 where
  pub lines : old.lines ≡ line ∷ new.lines
  pub taken : new.taken ≡ old.taken + 1

pub head_goes_on : (position : Position) (old new : Left) (line : List ℕ) (total : Result (ℕ × Left) XyzFault)
    → Steps old new line → words_of line ≡ []
    → head_in position old.taken old.lines ≡ total → head_in position new.taken new.lines ≡ total
head_goes_on position old new line total step e so_far =
    let one : head_in position old.taken old.lines ≡ head_in position new.taken new.lines =
    rw (step.lines, step.taken) (head_over position old.taken line new.lines e) in
    sym one ∙ so_far

abbrev counted : Left → ℕ → ℕ × Left
counted left n = (n, left)

tells_as : (r : Result ℕ XyzFault) (left : Left) → ReadsExactlyAs (counted left) r (r >>= λ n. Ok (counted left n))
tells_as (Ok n) left = refl
tells_as (Err fault) left = refl

pub head_ends : (position : Position) (old new : Left) (line first : List ℕ) (others : List (List ℕ))
    (r : Result ℕ XyzFault) (total : Result (ℕ × Left) XyzFault)
    → Steps old new line → words_of line ≡ first ∷ others → r ≡ count_or_fault position new.taken (atom_count_of first)
    → head_in position old.taken old.lines ≡ total → ReadsExactlyAs (counted new) r total
head_ends position old new line first others r total step e is so_far =
    let at : head_in position old.taken old.lines ≡ (count_or_fault position (old.taken + 1) (atom_count_of first)
    >>= λ n. Ok (counted (after_line old.taken new.lines) n)) =
    rw step.lines (head_at position old.taken line new.lines first others e) in
    let one : head_in position old.taken old.lines ≡ (r >>= λ n. Ok (counted new n)) = rw (is, step.taken) at in
    subst (λ (t : Result (ℕ × Left) XyzFault). ReadsExactlyAs (counted new) r t) (sym one ∙ so_far) (tells_as r new)

pub head_missing : (position : Position) (old new : Left) (wrong : XyzKind) (total : Result (ℕ × Left) XyzFault)
    → old.lines ≡ [] → new.taken ≡ old.taken → wrong ≡ missing position
    → head_in position old.taken old.lines ≡ total → total ≡ Err (fault_behind new.taken wrong)
head_missing position old new wrong total none same is so_far =
    let one : head_in position old.taken old.lines ≡ Err (fault_behind new.taken wrong) =
    rw (none, same, is) (head_none position old.taken) in
    sym so_far ∙ one

-- ---- the atoms

-- what was read before, and what is still read
abbrev pub with_front : List AtomRow → Result (List AtomRow × Left) XyzFault → Result (List AtomRow × Left) XyzFault
with_front front read = read >>= λ x. Ok (front ++ x.0, x.1)

pub regroup : (front : List AtomRow) (row : AtomRow) (read : Result (List AtomRow × Left) XyzFault)
    → with_front front (read >>= λ x. Ok (row ∷ x.0, x.1)) ≡ with_front (front ++ row ∷ []) read
regroup front row (Ok x) = ap (λ (rows : List AtomRow). Ok (rows, x.1)) (simp append_assoc)
regroup front row (Err fault) = refl

pub rows_go_on : (symbols : Option SymbolPair) (front : List AtomRow) (count i : ℕ) (old new : Left) (row : AtomRow)
    (total : Result (List AtomRow × Left) XyzFault) → i < count → next_row symbols old.taken old.lines ≡ Ok (row, new)
    → with_front front (rows_in symbols (count - i) old) ≡ total
    → with_front (front ++ row ∷ []) (rows_in symbols (count - (i + 1)) new) ≡ total
unfolding rows_in
rows_go_on symbols front count i old new row total lt h so_far =
    let k : count - i ≡ suc (count - (i + 1)) = omega arith in
    let one : with_front front (rows_in symbols (count - i) old)
    ≡ with_front (front ++ row ∷ []) (rows_in symbols (count - (i + 1)) new) =
    rw (k, h) (regroup front row (rows_in symbols (count - (i + 1)) new)) in
    sym one ∙ so_far

pub rows_end : (symbols : Option SymbolPair) (front : List AtomRow) (count i : ℕ) (old : Left) (fault : XyzFault)
    (total : Result (List AtomRow × Left) XyzFault) → i < count → next_row symbols old.taken old.lines ≡ Err fault
    → with_front front (rows_in symbols (count - i) old) ≡ total → total ≡ Err fault
unfolding rows_in
rows_end symbols front count i old fault total lt h so_far =
    let k : count - i ≡ suc (count - (i + 1)) = omega arith in
    let one : with_front front (rows_in symbols (count - i) old) ≡ Err fault = rw (k, h) refl in
    sym so_far ∙ one

pub rows_done : (symbols : Option SymbolPair) (front : List AtomRow) (count i : ℕ) (left : Left)
    (total : Result (List AtomRow × Left) XyzFault) → count ≤ i
    → with_front front (rows_in symbols (count - i) left) ≡ total → total ≡ Ok (front, left)
unfolding rows_in
rows_done symbols front count i left total le so_far =
    let k : count - i ≡ 0 = omega arith in
    let one : with_front front (rows_in symbols (count - i) left) ≡ Ok (front, left) =
    rw k (ap (λ (rows : List AtomRow). Ok (rows, left)) (append-nil front)) in
    sym so_far ∙ one

pub no_front : (read : Result (List AtomRow × Left) XyzFault) → with_front [] read ≡ read
no_front (Ok x) = refl
no_front (Err fault) = refl
