-- Worked examples: bodies and lines of text.
use Rattle.std.specs.Prelude.{◌≡◌, ℕ, List, [], ◌∷◌, ℤ, pos, negsuc, Option, Some, None, Result, Ok, Err, codes, refl}
use Rattle.std.specs.Fmt.{digits}
use Rattle.lj_fixed.specs.Decimal.{nano_of, decimal_of}
use Rattle.lj_fixed.specs.Numbers.{number_of}
use Rattle.lj_fixed.specs.Millionths.{millionths}
use Rattle.lj_xyz.specs.declared.xyz_fault.XyzKind.{XyzKind}
use Rattle.lj_xyz.specs.declared.xyz_fault.XyzKind.TheVariants as kind
use Rattle.lj_xyz.specs.declared.xyz_fault.XyzFault.{XyzFault}
use Rattle.lj_xyz.specs.declared.atom_row.AtomRow.{AtomRow}
use Rattle.lj_base.specs.Words.{words_of}
use Rattle.lj_xyz.specs.Lines.{lines_of}
use Rattle.lj_xyz.specs.Symbols.{SymbolPair}
use Rattle.lj_xyz.specs.Atoms.{row_of, row_of_four}
use Rattle.lj_xyz.specs.Bodies.{Mode, rest, pair}
use Rattle.lj_xyz.specs.Reading.{head_in, behind_comment, next_row, rows_in, frame_in, reading}
use Rattle.lj_xyz.specs.FrameTexts.{count_text, comment_text, atom_text}

-- the answer to a body with atoms of the given species, if there is memory
answer_of : Option SymbolPair → Mode → List ℕ → Result (List (List AtomRow)) XyzFault
unfolding reading frame_in head_in behind_comment next_row rows_in row_of row_of_four number_of
    lines_of words_of nano_of decimal_of
answer_of symbols mode body = reading symbols mode (lines_of body)

-- the same for any species
answer : Mode → List ℕ → Result (List (List AtomRow)) XyzFault
unfolding answer_of
answer mode body = answer_of None mode body

-- the same for sodium and chlorine
salt : Mode → List ℕ → Result (List (List AtomRow)) XyzFault
unfolding answer_of
salt mode body = answer_of (Some (record { first = codes "Na"; second = codes "Cl" })) mode body

fault : XyzKind → ℕ → Result (List (List AtomRow)) XyzFault
fault wrong line = Err (record { kind = wrong; line = line })

atom : List ℕ → ℤ → ℤ → ℤ → AtomRow
atom symbol x y z = record { symbol = symbol; x = x; y = y; z = z }

-- lines: a carriage return before the line feed or the end is dropped once, and two line feeds have an empty line
-- between
ends_of_lines : lines_of (codes "a\r\n\r\r\n\nb\r") ≡ codes "a" ∷ codes "\r" ∷ [] ∷ codes "b" ∷ []
unfolding lines_of
ends_of_lines = refl

only_a_return : lines_of (codes "a\n\r") ≡ codes "a" ∷ [] ∷ []
unfolding lines_of
only_a_return = refl

half_a_nano : answer rest (codes "1\nq\nH -0.0000000005 0 0\n")
    ≡ Ok ((atom (codes "H") (negsuc 0) (pos 0) (pos 0) ∷ []) ∷ [])
unfolding answer atom
half_a_nano = refl

exponents : answer rest (codes "1\nn\nH 15D-1 1.5e0 +1.5\n")
    ≡ Ok ((atom (codes "H") (pos 1500000000) (pos 1500000000) (pos 1500000000) ∷ []) ∷ [])
unfolding answer atom
exponents = refl

no_number : answer rest (codes "1\nn\nH . 0 0\n") ≡ fault kind.Number 3
unfolding answer fault
no_number = refl

out_of_range : answer rest (codes "1\nn\nH 1. .5 1e7\n") ≡ fault kind.Range 3
unfolding answer fault
out_of_range = refl

more_columns : answer rest (codes "2\r\nc\r\nNa 0 0 0 1.0\r\nCl 1.5 0 0 -1.0")
    ≡ Ok ((atom (codes "Na") (pos 0) (pos 0) (pos 0) ∷ atom (codes "Cl") (pos 1500000000) (pos 0) (pos 0) ∷ []) ∷ [])
unfolding answer atom
more_columns = refl

atom_missing : answer rest (codes "2\nc\nNa 0 0 0\n") ≡ fault kind.Short 4
unfolding answer fault
atom_missing = refl

no_atoms : answer rest (codes "0\nc\n") ≡ fault kind.Count 1
unfolding answer fault
no_atoms = refl

too_many_atoms : answer rest (codes "4097\nc\n") ≡ fault kind.Count 1
unfolding answer fault
too_many_atoms = refl

most_atoms : answer rest (codes "4096\n") ≡ fault kind.Short 2
unfolding answer fault
most_atoms = refl

long_symbol : answer rest (codes "1\nc\nABCDEFGHIJKLMNOPQ 0 0 0\n") ≡ fault kind.Symbol 3
unfolding answer fault
long_symbol = refl

longest_symbol : answer rest (codes "1\nc\nABCDEFGHIJKLMNOP . 0 0\n") ≡ fault kind.Number 3
unfolding answer fault
longest_symbol = refl

empty_body : answer rest [] ≡ fault kind.Count 1
unfolding answer fault
empty_body = refl

-- two frames of two and of three atoms
uneven : List ℕ
uneven = codes "2\na\nX 0 0 0\nX 1 0 0\n3\nb\nX 0 0 0\nX 1 0 0\nX 2 0 0\n"

uneven_pair : answer pair uneven ≡ fault kind.Pair 5
unfolding answer fault uneven
uneven_pair = refl

uneven_rest : answer rest uneven ≡ Ok ((atom (codes "X") (pos 0) (pos 0) (pos 0)
    ∷ atom (codes "X") (pos 1000000000) (pos 0) (pos 0) ∷ []) ∷ [])
unfolding answer atom uneven
uneven_rest = refl

even_pair : answer pair (codes "1\np\nH -0.0000003 0 0\n1\nc\nH -0.000000001 0 0\n")
    ≡ Ok ((atom (codes "H") (negsuc 299) (pos 0) (pos 0) ∷ [])
    ∷ (atom (codes "H") (negsuc 0) (pos 0) (pos 0) ∷ []) ∷ [])
unfolding answer atom
even_pair = refl

-- two species: only the first frame must be of them, and a symbol is tested before its coordinates
both_species : salt rest (codes "2\nmix\nNa 0 0 0\nCl 1.5 0 0\n")
    ≡ Ok ((atom (codes "Na") (pos 0) (pos 0) (pos 0) ∷ atom (codes "Cl") (pos 1500000000) (pos 0) (pos 0) ∷ []) ∷ [])
unfolding salt atom
both_species = refl

neither_species : salt rest (codes "2\nmix\nNa 0 0 0\nAr 1.5 0 0\n") ≡ fault kind.Species 4
unfolding salt fault
neither_species = refl

longer_than_a_species : salt rest (codes "1\nmix\nNaCl . 0 0\n") ≡ fault kind.Species 3
unfolding salt fault
longer_than_a_species = refl

no_species_in_short_line : salt rest (codes "1\nmix\nAr 0 0\n") ≡ fault kind.Short 3
unfolding salt fault
no_species_in_short_line = refl

second_of_any_species : salt pair (codes "1\np\nCl 0 0 0\n1\nc\nAr 0 0 0\n")
    ≡ Ok ((atom (codes "Cl") (pos 0) (pos 0) (pos 0) ∷ []) ∷ (atom (codes "Ar") (pos 0) (pos 0) (pos 0) ∷ []) ∷ [])
unfolding salt atom
second_of_any_species = refl

-- the lines of a frame
count_line : count_text 4096 ≡ codes "4096"
unfolding digits
count_line = refl

comment_line : comment_text (negsuc 11) ≡ codes "step -12"
unfolding digits
comment_line = refl

atom_line : atom_text (codes "Ar") 1499894 105 0 ≡ codes "Ar 1.499894 0.000105 0.000000"
unfolding digits millionths
atom_line = refl
