use Rattle.std.specs.Prelude.{◌≡◌, ℕ, cond, length, nat_lt}
use Rattle.lj_end.specs.Accounts.{occurrences}
use Rattle.lj_end.proofs.account.all_places.Given as goal

abbrev pub invariant-loop-place : goal.invariant-loop-place
invariant-loop-place l = record {
  once : (n : ℕ) → occurrences n l.places.items ≡ cond (nat_lt n l.place) 1 0;
  all : length l.places.items ≡ l.place;
}
