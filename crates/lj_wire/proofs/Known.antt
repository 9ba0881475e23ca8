-- What several reads or writes, one after another, do to bytes that are known.
use Rattle.std.proofs.Common.{◌≡◌, ℕ, ◌+◌, List, ◌++◌, take, drop, Option, sym, ap, ◌∙◌, subst}
use Rattle.std.proofs.KnownBytes.{Appends-trans}
use Rattle.std.specs.Io.KnownBytes.{Appends}
use lib.Seq.{take-add}

-- the first bytes are written, and then some of the others
pub appends_front : (a b c : Option (List ℕ)) (bytes : List ℕ) (at n : ℕ) (rest : List ℕ)
    → Appends a b (take at bytes) → rest ≡ drop at bytes → Appends b c (take n rest) → Appends a c (take (at + n) bytes)
appends_front a b c bytes at n rest first is second =
    subst (Appends a c) (ap (λ (xs : List ℕ). take at bytes ++ take n xs) is ∙ sym (take-add at n bytes))
    (Appends-trans a b c _ _ first second)
