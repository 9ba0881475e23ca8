use Rattle.std.proofs.Common.{◌≡◌, ℕ, ◌+◌, ◌<◌, ◌≤◌, true, take, get_or}
use Rattle.std.specs.Char.{is_ascii_digit}
use Rattle.std.specs.Str.Parse.{digits_value_after}
use Rattle.lj_fixed.specs.WordParts.{Leads}
use Rattle.lj_fixed.proofs.digits.Significand.read_on.Given as goal

abbrev pub invariant-loop-count : goal.invariant-loop-count
invariant-loop-count l = record {
  digits : (k : ℕ) → k < l.count → is_ascii_digit (get_or l.text k 0) ≡ true;
  number : (n : ℕ) → Leads l.fn.self.number l.fn.self.dropped n
      → Leads l.significand.number l.significand.dropped (digits_value_after 10 n (take l.count l.text));
  dropped : l.significand.dropped ≤ l.fn.self.dropped + l.count;
}
