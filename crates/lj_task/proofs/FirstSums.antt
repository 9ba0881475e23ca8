-- The first of a list of sums.
use Rattle.std.proofs.Common.{ℕ, ◌<◌, ◌≡◌, List, take, map, length, slice_index_or, ap, ◌∙◌, arith}
use Rattle.std.specs.List.{range_with_len}
use Rattle.std.proofs.lemmas.List.{get_or-take}
use Rattle.std.proofs.lemmas.List.FromFn.{fill_by_all}
use Rattle.lj_task.specs.declared.pushes.Push.{Push}
use Rattle.lj_task.specs.Pushes.{no_push}

-- the first n of sums that are f of their places
pub first_sums : (f : ℕ → Push) (sums front : List Push) (n m : ℕ) → front ≡ take n sums → length front ≡ n → n ≡ m
    → ((k : ℕ) → k < m → slice_index_or sums k no_push ≡ f k) → front ≡ map f (range_with_len 0 m)
first_sums f sums front n m is count same all =
    fill_by_all f front m no_push (count ∙ same)
    (λ k below. ap (λ l. slice_index_or l k no_push) is ∙ get_or-take n sums k no_push (omega (arith, below, same)) ∙ all k below)
