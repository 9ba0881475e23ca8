-- Two lists of bytes are the same where they are so at each index.
use Rattle.std.proofs.Common.{◌≡◌, ℕ, ◌<◌, Bool, List, length, get_or, Decides}
use Rattle.std.specs.Str.{bytes_eq}
use Rattle.std.proofs.lemmas.Bool.Decides.{same_from_decides}
use Rattle.std.proofs.lemmas.List.{ext_get_or}
use Rattle.std.proofs.lemmas.Slice.Eq.{bytes_eq-Decides}
use Rattle.std.proofs.Common.{ap}

-- the same at each index before i
abbrev pub SameBefore : ℕ → List ℕ → List ℕ → Type 0
SameBefore i xs ys = (k : ℕ) → k < i → get_or xs k 0 ≡ get_or ys k 0

-- what decides that they are the same at each index is what `==` answers
pub bytes_eq-from_indices : (xs ys : List ℕ) (same : Bool) → length xs ≡ length ys
    → Decides same (SameBefore (length xs) xs ys) → same ≡ bytes_eq xs ys
bytes_eq-from_indices xs ys same e h =
    let d = bytes_eq-Decides xs ys in
    let all : same ≡ bytes_eq xs ys → same ≡ bytes_eq xs ys = λ q. q in
    same_from_decides same (bytes_eq xs ys) (λ t. ext_get_or 0 xs ys e (h.0 t), λ p. h.1 (λ k lt. ap (λ zs. get_or zs k 0) p)) d
