use Rattle.std.specs.Prelude.{◌≡◌, vec_len}
use Rattle.lj_queue.specs.PoolPass.{AreUntouched, IsRootPass}
use Rattle.lj_queue.proofs.root_pass.passes_of.Given as goal

abbrev pub invariant-loop-number : goal.invariant-loop-number
invariant-loop-number g l = record {
  rest : IsRootPass g.L.PoolIdentity.table l.number l.first;
  count : vec_len l.passes ≡ l.number;
  numbered : AreUntouched l.number l.passes.items;
}
