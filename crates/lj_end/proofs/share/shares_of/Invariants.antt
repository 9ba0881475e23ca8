use Rattle.std.specs.Prelude.{◌≡◌, ◌+◌, vec_len}
use Rattle.std.specs.List.{All}
use Rattle.lj_end.proofs.share.shares_of.Given as goal

abbrev pub invariant-loop : goal.invariant-loop
invariant-loop g l = record {
  parts : l.all.parts + l.counter ≡ l.workers;
  nothing : l.all.amount ≡ 0;
  one_each : vec_len l.shares ≡ l.counter;
  zeros : All (λ count. count ≡ 0) l.shares.items;
}
